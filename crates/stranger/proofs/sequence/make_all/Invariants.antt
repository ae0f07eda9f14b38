use Rattle.stranger.proofs.Onward.{Onward}
use Rattle.stranger.proofs.sequence.make_all.Given as goal

abbrev pub invariant-loop-i : goal.invariant-loop-i
invariant-loop-i g l = Onward g.C.Content g.C.Make.asks l.recipes l.initial.words l.used l.i l.n l.words l.made
