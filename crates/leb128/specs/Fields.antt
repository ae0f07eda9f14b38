use Rattle.std.specs.Prelude.{ℕ}
use Rattle.leb128.specs.declared.field.NumberField.{NumberField}
use Rattle.leb128.specs.declared.field.NumberField.TheVariants.{Client, Clock, Count}

-- A client takes at most ten bytes; a clock or a count takes five.
abbrev pub max_len : NumberField → ℕ
max_len Client = 10
max_len Clock = 5
max_len Count = 5

-- A client is below 2^53, a clock or a count below 2^32.
abbrev pub limit : NumberField → ℕ
limit Client = 0x20_0000_0000_0000
limit Clock = 0x1_0000_0000
limit Count = 0x1_0000_0000
