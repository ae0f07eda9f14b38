use Rattle.std.proofs.Common.{◌≡◌, drop, ap, ◌∙◌, arith}
use Rattle.std.proofs.lemmas.Grind.{common_steps}
use Rattle.leb128.specs.Fields.{max_len, limit}
use Rattle.leb128.specs.Reading.{reading, answer, number_at}
use Rattle.leb128.proofs.ToldLaws.{told, only}
use Rattle.leb128.proofs.reader.read_number.Goals as goal

pub returns : goal.returns
returns c =
    let f = c.args.field in
    let p = c.args.«at» in
    let bs = drop p c.args.bytes.now in
    let v : c.map_err.result ≡ number_at f c.args.bytes.now p = grind (arith, common_steps) in
    record {
      value = v;
      told = (reading (max_len f) (limit f) bs, told f bs, v);
      only = λ q t. v ∙ ap (answer p) (only (max_len f) (limit f) bs q t);
      within = grind (arith, common_steps);
    }
