use Rattle.std.proofs.Common.{◌<◌, length, arith}
use Rattle.content.specs.Lawful.{Lawful}
use Rattle.stranger.proofs.Onward.{one_more}
use Rattle.stranger.proofs.sequence.make_all.Goals as goal

pub loop-i-preserved : goal.loop-i-preserved
loop-i-preserved g c =
    let laws : Lawful g.C.Content = record { sized = g.met.C.Content.sized; steady = g.met.C.Content.steady; halves = g.met.C.Content.halves } in
    let lt : c.loop-i.i < length c.args.recipes.now = omega arith in
    let lt-made : c.loop-i.i < length c.loop-i.made = omega arith in
    let one = c.make_one.ensures in
    one_more g.C.Content g.C.Make.asks c.args.recipes.now c.args.words.now c.args.used c.loop-i.i c.loop-i.n c.loop-i.words c.loop-i.made c.loop-i.invariant laws
    c.index-recipes-i.result c.index-recipes-i.is lt lt-made
    c.make_one.new.words c.make_one.new.used c.make_one.result
    one.exact one.chosen one.more one.kept one.made
