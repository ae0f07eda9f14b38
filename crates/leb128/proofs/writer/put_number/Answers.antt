use Rattle.std.proofs.Common.{◌≡◌, ◌<◌, ◌≤◌, length, append_assoc, ap, arith}
use Rattle.std.proofs.lemmas.List.{take_more_set, take_all}
use Rattle.leb128.specs.Leb128.{uleb}
use Rattle.leb128.proofs.Leb128Laws.{uleb_small, uleb_step, uleb_last, uleb_goes_on}
use Rattle.leb128.proofs.writer.put_number.Goals as goal

pub loop-b-preserved : goal.loop-b-preserved
loop-b-preserved c =
    let h : c.loop-b.b-index < length c.loop-b.b-items = omega arith in
    let l : 1 < length (uleb c.loop-b.rest) = omega (arith, c.in-Some.ensures.cases) in
    let s = uleb_step c.loop-b.rest (uleb_goes_on c.loop-b.rest l) in
    record {
      bytes = rw (take_more_set, append_assoc) (rw s at c.loop-b.invariant.bytes);
      count = omega (arith, ap length s);
    }

pub returns-after-loop-b : goal.returns-after-loop-b
returns-after-loop-b c =
    let h : length c.loop-b.b-items ≤ c.loop-b.b-index = omega arith in
    let l : length (uleb c.loop-b.rest) ≡ 1 = omega (arith, c.in-Some.ensures.cases) in
    rw (uleb_small c.loop-b.rest (uleb_last c.loop-b.rest l), take_all) at c.loop-b.invariant.bytes
