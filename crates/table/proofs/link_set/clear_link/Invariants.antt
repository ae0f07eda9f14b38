use Rattle.std.proofs.Common.{◌≡◌, ◌++◌, map, take, drop}
use Rattle.table.specs.Clears.{cleared}
use Rattle.table.proofs.link_set.clear_link.Given as goal

abbrev pub invariant-loop-b : goal.invariant-loop-b
invariant-loop-b g l = l.b-items ≡ map (cleared l.n) (take l.b-index l.initial.b-items) ++ drop l.b-index l.initial.b-items
