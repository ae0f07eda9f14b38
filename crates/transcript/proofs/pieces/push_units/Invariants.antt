use Rattle.std.proofs.Common.{◌≡◌, ◌++◌, take, vec_items}
use Rattle.transcript.specs.Pieces.{units_text}
use Rattle.transcript.proofs.pieces.push_units.Given as goal

abbrev pub invariant-loop-k : goal.invariant-loop-k
invariant-loop-k g l = vec_items l.text ≡ vec_items l.initial.text ++ units_text (take l.k (g.C.Content.units l.words l.content))
