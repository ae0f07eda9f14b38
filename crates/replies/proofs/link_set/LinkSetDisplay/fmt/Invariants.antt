use Rattle.std.proofs.Common.{◌≡◌}
use Rattle.std.specs.Fmt.{HasWritten, IsPlainFormatter}
use denote.Shadow.{shadow}
use denote.Text.{Utf8}
use Rattle.replies.specs.Sets.{links_below, listed}
use Rattle.replies.proofs.SetLaws.{separator_after}
use Rattle.replies.proofs.link_set.LinkSetDisplay.fmt.Given as goal

abbrev pub invariant-loop-n : goal.invariant-loop-n
invariant-loop-n g l =
    (IsPlainFormatter l.initial.f → HasWritten g.W.Write.write_str_gives l.initial.f (listed (links_below l.n-counter l.links)) l.f)
    × (l.separator ≡ separator_after (links_below l.n-counter l.links)) × shadow (Utf8 l.separator)
