use Rattle.std.proofs.Common.{◌≡◌, length, ◌/◌, map, ◌∙◌, rules, refl}
use Rattle.std.specs.Simd.{first_chunks}
use Rattle.std.specs.Prelude.{IfOk}
use Rattle.std.proofs.lemmas.Result.{IfOk-weaker}
use Rattle.notation.proofs.HexLaws.{byte_of, pairs_read}
use Rattle.notation.proofs.hex.read_hex.Goals as goal

pub returns : goal.returns
returns c =
    let w = c.args.word.now in
    let read : IfOk c.collect.result (λ v. v.items ≡ map byte_of (first_chunks 2 (length w / 2) w)) = search rules in
    IfOk-weaker c.collect.result _ _ (λ v e. e ∙ pairs_read (length w / 2) w refl) read
