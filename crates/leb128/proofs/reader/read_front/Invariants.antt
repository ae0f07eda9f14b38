use Rattle.std.proofs.Common.{◌≡◌, ◌^◌, ◌<◌, drop}
use Rattle.leb128.specs.Fields.{max_len, limit}
use Rattle.leb128.specs.Reading.{reading, read_from}
use Rattle.leb128.proofs.reader.read_front.Given as goal

abbrev pub invariant-loop-n : goal.invariant-loop-n
invariant-loop-n l = record {
  read : read_from (max_len l.fn.field) (limit l.fn.field) l.n l.value (drop l.n l.bytes) ≡ reading (max_len l.fn.field) (limit l.fn.field) l.bytes;
  weight : l.weight ≡ 128 ^ l.n;
  room : l.n < max_len l.fn.field;
  below : l.value < limit l.fn.field;
}
