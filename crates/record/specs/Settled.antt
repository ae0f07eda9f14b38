use Rattle.std.specs.Prelude.{◌≡◌, ℕ, Bool, true, false, List, [], ◌∷◌, ◌++◌, Ok, Err, Result}
use Rattle.leb128.specs.declared.fault.NumberCause.{NumberCause}
use Rattle.leb128.specs.declared.fault.NumberCause.TheVariants as num
use Rattle.leb128.specs.declared.fault.NumberFault.{NumberFault}
use Rattle.record.specs.declared.fault.RecordCause.{RecordCause}
use Rattle.record.specs.declared.fault.RecordCause.TheVariants as rec
use Rattle.record.specs.declared.fault.RecordFault.{RecordFault}
use Rattle.record.specs.declared.fault.RecordFault.TheVariants.{Number, Own}
use Rattle.record.specs.Decoding.{decode}

-- A fault that more bytes do not mend: any but that the bytes end.
abbrev pub last_cause : NumberCause → Bool
last_cause num.Ends = false
last_cause num.Large = true

abbrev pub last_number : NumberFault → Bool
last_number f = last_cause f.cause

abbrev pub last_own : RecordCause → Bool
last_own rec.Ends = false
last_own rec.Name = true
last_own rec.Kind = true

abbrev pub last_record : RecordFault → Bool
last_record (Number f) = last_number f
last_record (Own c p) = last_own c

-- Read, or a fault that more bytes do not mend.
abbrev pub settled : {A E : Type 0} → (E → Bool) → Result A E → Bool
settled last (Ok x) = true
settled last (Err e) = last e

-- The byte that settles what bytes are read as: before it the record merely ends, and with it the answer is what it stays.
abbrev pub SettledAt : List ℕ → Type 0
SettledAt bs =
    (front : List ℕ) × (b : ℕ) × (rest : List ℕ) × (bs ≡ front ++ (b ∷ rest))
    × (settled last_record (decode front) ≡ false) × (decode (front ++ (b ∷ [])) ≡ decode bs)
