use Rattle.std.specs.Prelude.{ℕ, ◌+◌, Bool, true, cond, ◌&&◌, length, Some, None, Option, nat_lt}
use Rattle.leb128.specs.Fields.{limit}
use Rattle.leb128.specs.declared.field.NumberField.TheVariants.{Client, Clock}
use Rattle.source.specs.Meaning.{Scope, relative, nested, root, Side}
use Rattle.record_writer.specs.declared.fault.WriteFault.{WriteFault}
use Rattle.record_writer.specs.declared.fault.WriteFault.TheVariants as wr
use Rattle.record.specs.Names.{name_fine}
use Rattle.record.specs.Format.{record_of}

-- A scope's name, if it has one, is one that a list may have.
abbrev pub names_fine : Scope → Bool
names_fine (relative c k) = true
names_fine (nested c k) = true
names_fine (root n) = name_fine n

-- A scope's client, if it has one, is below its limit.
abbrev pub clients_fine : Scope → Bool
clients_fine (relative c k) = nat_lt c (limit Client)
clients_fine (nested c k) = nat_lt c (limit Client)
clients_fine (root n) = true

-- A scope's clock, if it has one, has 32 bits.
abbrev pub clocks_fine : Scope → Bool
clocks_fine (relative c k) = nat_lt k (limit Clock)
clocks_fine (nested c k) = nat_lt k (limit Clock)
clocks_fine (root n) = true

-- Why a source is not written into a buffer of that length from a place on, the tests in their order.
abbrev pub refused : (len p : ℕ) → Side → Side → Option WriteFault
refused len p s e =
    cond (names_fine s.0 && names_fine e.0)
    (cond (clients_fine s.0 && clients_fine e.0)
    (cond (nat_lt len (p + length (record_of s e))) (Some wr.Room) None)
    (Some wr.Client))
    (Some wr.Name)
