use Rattle.std.proofs.Common.{ℕ, ◌<◌}
use Rattle.block_store.specs.Lists.{blocks_of}
use Rattle.table.specs.Lookups.{Lacks}
use Rattle.block_store.proofs.cut.locate.Given as goal

abbrev pub invariant-loop-front : goal.invariant-loop-front
invariant-loop-front g l = (m : ℕ) → m < l.front-index → Lacks g.C.Content l.id (blocks_of l.blocks l.fronts m)
