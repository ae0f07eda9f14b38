use Rattle.table.specs.Cells.{cells}
use Rattle.table.specs.Lookups.{Lacks}
use Rattle.table.proofs.Walks.{Passed}
use Rattle.table.proofs.lookup.find.Given as goal

abbrev pub invariant-loop-i : goal.invariant-loop-i
invariant-loop-i g l =
    (goal.iterator-loop-i g).can_next l.i-iterator
    × (p : Passed (cells l.blocks l.fn.start) (cells l.i-iterator.blocks.now l.i-iterator.next)) × Lacks g.C.Content l.id p.pre
