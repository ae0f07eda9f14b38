use Rattle.std.specs.Prelude.{ℕ, List, ◌++◌, codes, decimal}
use Rattle.record.specs.declared.fault.Layer.{Layer}
use Rattle.record.specs.declared.fault.Layer.TheVariants as lay
use Rattle.record.specs.declared.fault.RecordFault.{RecordFault}
use Rattle.record.specs.Told.{record_number, record_offset, record_layer}

-- A refusal is told by its number.
abbrev pub refusal_text : ℕ → List ℕ
refusal_text n = codes "refused " ++ decimal n

abbrev pub layer_text : Layer → List ℕ
layer_text lay.Number = codes "number"
layer_text lay.Record = codes "record"

-- The refusal of a record adds its offset and its layer.
abbrev pub fault_text : RecordFault → List ℕ
fault_text f = refusal_text (record_number f) ++ (codes " at " ++ (decimal (record_offset f) ++ (codes " " ++ layer_text (record_layer f))))
