use Rattle.content.proofs.Joining.{Cutting}
use Rattle.content.proofs.cutting.cut_each.Given as goal

abbrev pub invariant-loop-i : goal.invariant-loop-i
invariant-loop-i g l = Cutting g.C.Content l.content l.offsets l.i l.rest l.done l.pieces
