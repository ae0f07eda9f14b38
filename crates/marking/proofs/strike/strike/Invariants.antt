use Rattle.std.proofs.Common.{length}
use Rattle.table.specs.Cells.{cells}
use Rattle.marking.specs.Strikes.{Strikable}
use Rattle.marking.proofs.Strikes.{Striking}
use Rattle.marking.proofs.strike.strike.Given as goal

abbrev pub invariant-loop-left : goal.invariant-loop-left
invariant-loop-left g l = (w : Strikable g.C.Content l.initial.blocks l.initial.cur l.count) → Striking g.C.Content l.initial.blocks l.initial.cur l.count w l.blocks l.cur l.left l.links

abbrev pub decreases-loop-left : goal.decreases-loop-left
decreases-loop-left g l = length (cells l.blocks l.cur)
