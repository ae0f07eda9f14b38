use Rattle.std.specs.Prelude.{◌≡◌, ℕ, ◌+◌, ◌*◌, ◌%◌, ◌^◌, ◌<◌, ◌≤◌, Bool, true, false, cond, ◌⊎◌, List, [], ◌∷◌, ◌++◌, length, drop, Ok, Err, Result, ◌==◌, nat_lt}
use Rattle.leb128.specs.Leb128.{sum_of, form}
use Rattle.leb128.specs.declared.field.NumberField.{NumberField}
use Rattle.leb128.specs.Fields.{max_len, limit}
use Rattle.leb128.specs.declared.fault.NumberCause.{NumberCause}
use Rattle.leb128.specs.declared.fault.NumberCause.TheVariants.{Ends, Large}
use Rattle.leb128.specs.declared.fault.NumberFault.{NumberFault}

-- What reading a number comes to: its value and how many bytes it took; or the bytes end; or it is too long or too large.
abbrev pub Read : Type 0
Read = Result (ℕ × ℕ) NumberCause

-- Reading on after k bytes that made v.
abbrev pub read_from : (most limit k v : ℕ) → List ℕ → Read
read_from most limit k v [] = Err Ends
read_from most limit k v (b ∷ bs) =
    cond (nat_lt (v + (b % 128) * 128 ^ k) limit)
    (cond (nat_lt b 128) (Ok (v + (b % 128) * 128 ^ k, k + 1))
    (cond (k + 1 == most) (Err Large) (read_from most limit (k + 1) (v + (b % 128) * 128 ^ k) bs)))
    (Err Large)

abbrev pub reading : (most limit : ℕ) → List ℕ → Read
reading most limit bs = read_from most limit 0 0 bs

abbrev pub answer : ℕ → Read → Result (ℕ × ℕ) NumberFault
answer p (Ok r) = Ok r
answer p (Err c) = Err (record { cause = c; offset = p })

-- What reading the number of a field from a place on answers.
abbrev pub number_at : NumberField → List ℕ → ℕ → Result (ℕ × ℕ) NumberFault
number_at field bs p = answer p (reading (max_len field) (limit field) (drop p bs))

-- The same in the standard's own terms, with no step of a reader in it.
-- Bytes that all have the high bit set.
abbrev pub goes_on : List ℕ → Bool
goes_on [] = true
goes_on (b ∷ bs) = cond (nat_lt b 128) false (goes_on bs)

abbrev pub Reads : (most limit : ℕ) → List ℕ → Read → Type 0
-- a form stands in front, no longer than allowed, and says a number below the limit
Reads most limit bs (Ok (v, n)) =
    (p : List ℕ) × (rest : List ℕ) × (bs ≡ p ++ rest) × (form p ≡ true) × (length p ≡ n) × (sum_of p ≡ v) × (n ≤ most) × (v < limit)
-- the bytes end, all go on, and could still be a number
Reads most limit bs (Err Ends) = (goes_on bs ≡ true) × (length bs < most) × (sum_of bs < limit)
-- a first byte makes the number too large, or goes on where none may follow
Reads most limit bs (Err Large) =
    (p : List ℕ) × (b : ℕ) × (rest : List ℕ) × (bs ≡ p ++ (b ∷ rest)) × (goes_on p ≡ true) × (length p < most) × (sum_of p < limit)
    × ((limit ≤ sum_of (p ++ (b ∷ []))) ⊎ ((128 ≤ b) × (length p + 1 ≡ most)))
