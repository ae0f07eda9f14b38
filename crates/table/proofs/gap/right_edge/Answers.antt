use Rattle.table.proofs.Edges as E
use Rattle.table.proofs.gap.right_edge.Goals as goal

pub returns-in-None : goal.returns-in-None
returns-in-None g c = E.right_none c.args.blocks.now c.args.right c.in-None.is

pub returns-in-Some : goal.returns-in-Some
returns-in-Some g c =
    E.right_some c.args.blocks.now c.args.right c.in-Some.i c.index-blocks-i.result c.in-Some.is (rw c.in-Some.is at c.requires) c.index-blocks-i.is
