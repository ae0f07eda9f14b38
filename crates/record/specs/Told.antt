use Rattle.std.specs.Prelude.{ℕ}
use Rattle.leb128.specs.Told.{number_cause}
use Rattle.record.specs.declared.fault.Layer.{Layer}
use Rattle.record.specs.declared.fault.Layer.TheVariants as lay
use Rattle.record.specs.declared.fault.RecordCause.{RecordCause}
use Rattle.record.specs.declared.fault.RecordCause.TheVariants as rec
use Rattle.record.specs.declared.fault.RecordFault.{RecordFault}
use Rattle.record.specs.declared.fault.RecordFault.TheVariants.{Number, Own}

-- The number of each refusal of the reader, and where and by which layer it is told.
abbrev pub record_cause : RecordCause → ℕ
record_cause rec.Ends = 17
record_cause rec.Name = 1
record_cause rec.Kind = 21

abbrev pub record_number : RecordFault → ℕ
record_number (Number f) = number_cause f.cause
record_number (Own c p) = record_cause c

abbrev pub record_offset : RecordFault → ℕ
record_offset (Number f) = f.offset
record_offset (Own c p) = p

abbrev pub record_layer : RecordFault → Layer
record_layer (Number f) = lay.Number
record_layer (Own c p) = lay.Record
