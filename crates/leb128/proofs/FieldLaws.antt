use Rattle.std.proofs.Common.{◌<◌, ◌≤◌, arith}
use Rattle.leb128.specs.declared.field.NumberField.{NumberField}
use Rattle.leb128.specs.declared.field.NumberField.TheVariants.{Client, Clock, Count}
use Rattle.leb128.specs.Fields.{max_len, limit}

-- Every field allows a byte and a value, and at most ten bytes.
pub field_some : (f : NumberField) → (0 < max_len f) × (0 < limit f)
field_some Client = (omega arith, omega arith)
field_some Clock = (omega arith, omega arith)
field_some Count = (omega arith, omega arith)

pub max_ten : (f : NumberField) → max_len f ≤ 10
max_ten Client = omega arith
max_ten Clock = omega arith
max_ten Count = omega arith
