use Rattle.std.proofs.Common.{◌≡◌, ◌+◌, ◌++◌, length, take}
use Rattle.leb128.specs.Leb128.{uleb}
use Rattle.leb128.proofs.writer.put_number.Given as goal

abbrev pub invariant-loop-b : goal.invariant-loop-b
invariant-loop-b l = record {
  bytes : take l.b-index l.b-items ++ uleb l.rest ≡ uleb l.value;
  count : l.b-index + length (uleb l.rest) ≡ length (uleb l.value);
}
