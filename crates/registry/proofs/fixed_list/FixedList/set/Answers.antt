use Rattle.std.proofs.Common.{◌<◌, arith}
use Rattle.std.proofs.Math.Seq.{take-set-lt}
use Rattle.std.proofs.lemmas.List.{length-take}
use Rattle.registry.proofs.fixed_list.FixedList.set.Goals as goal

pub returns : goal.returns
returns g c =
    let s = c.args.self.now in
    let inside : c.args.place < s.len = omega (arith, length-take s.len s.items) in
    take-set-lt s.len s.items c.args.place c.args.item inside
