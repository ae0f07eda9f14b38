use Rattle.std.proofs.Common.{◌≡◌, true, rules}
use Rattle.content.specs.Lawful.{Lawful}
use Rattle.content.specs.Pieces.{rising}
use Rattle.content.proofs.Joining.{all_sized, all_whole}
use Rattle.content.proofs.cutting.cut_into_pieces.Goals as goal

pub returns : goal.returns
returns g c =
    let K = g.C.Content in
    let x = c.args.content.now in
    let ks = c.args.offsets.now in
    let laws : Lawful K = record { sized = g.met.C.Content.sized; steady = g.met.C.Content.steady; halves = g.met.C.Content.halves } in
    let rose = c.if-not-rises.ensures in
    let up : rising 0 ks (K.size x) ≡ true = cc in
    record {
      answer = search rules;
      written = c.cut_each.ensures;
      sized = λ _. all_sized K laws x ks up c.cut_each.new.pieces c.cut_each.ensures;
      whole = λ _. all_whole K laws x ks up c.cut_each.new.pieces c.cut_each.ensures;
    }
