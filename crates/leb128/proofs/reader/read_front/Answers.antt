use Rattle.std.proofs.Common.{◌≤◌, arith}
use native.Mathlib.Nat.{pow-le-pow_right}
use Rattle.leb128.proofs.FieldLaws.{max_ten}
use Rattle.leb128.proofs.reader.read_front.Goals as goal

pub overflow_mul-weight : goal.overflow_mul-weight
overflow_mul-weight c =
    let k : c.loop-n.n ≤ 8 = omega (arith, max_ten c.args.field) in
    omega (arith, pow-le-pow_right {n = 128} (omega arith) k)
