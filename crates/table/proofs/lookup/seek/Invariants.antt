use Rattle.std.proofs.Common.{◌≡◌, ◌+◌, ◌<◌}
use Rattle.table.specs.Cells.{cells}
use Rattle.table.specs.Lookups.{visible}
use Rattle.table.proofs.Walks.{Passed}
use Rattle.table.proofs.lookup.seek.Given as goal

abbrev pub invariant-loop-i : goal.invariant-loop-i
invariant-loop-i g l =
    (goal.iterator-loop-i g).can_next l.i-iterator
    × (p : Passed (cells l.blocks l.fn.start) (cells l.i-iterator.blocks.now l.i-iterator.next))
    × (0 < l.left) × (visible g.C.Content p.pre + l.left ≡ l.index)
