use Rattle.std.proofs.Common.{take}
use Rattle.table.proofs.Unlinks.{clear_more, clear_done}
use Rattle.table.proofs.link_set.clear_link.Goals as goal

pub loop-b-preserved : goal.loop-b-preserved
loop-b-preserved g c = clear_more c.args.n (take c.args.used c.args.blocks.now) c.loop-b.b-items c.loop-b.b-index c.b-item.result c.requires.number c.loop-b-test.true c.loop-b.invariant c.b-item.is

pub returns : goal.returns
returns g c = clear_done c.args.n c.args.blocks.now c.args.used c.loop-b.b-index c.loop-b.b-items c.loop-b-test.false c.loop-b.invariant
