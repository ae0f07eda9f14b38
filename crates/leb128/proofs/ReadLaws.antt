use Rattle.std.proofs.Common.{◌≡◌, ◌≢◌, ℕ, ◌+◌, ◌*◌, ◌%◌, ◌^◌, ◌<◌, ◌≤◌, true, List, [], ◌∷◌, ◌++◌, length, Ok, Err, pow-suc, add-one, arith}
use Rattle.std.proofs.lemmas.Bool.Decides.{nat_tests}
use Rattle.leb128.specs.Leb128.{sum_of, form}
use Rattle.leb128.specs.declared.fault.NumberCause.TheVariants.{Large}
use Rattle.leb128.specs.Reading.{read_from, reading, goes_on}

-- One step of reading, by what the byte is.
pub at_last : (most limit k v b : ℕ) (bs : List ℕ) → v + (b % 128) * 128 ^ k < limit → b < 128
    → read_from most limit k v (b ∷ bs) ≡ Ok (v + (b % 128) * 128 ^ k, k + 1)
at_last most limit k v b bs h l = grind (arith, nat_tests)

pub at_more : (most limit k v b : ℕ) (bs : List ℕ) → v + (b % 128) * 128 ^ k < limit → 128 ≤ b → k + 1 ≢ most
    → read_from most limit k v (b ∷ bs) ≡ read_from most limit (k + 1) (v + (b % 128) * 128 ^ k) bs
at_more most limit k v b bs h l m = grind (arith, nat_tests)

-- a byte that makes the number too large, or goes on where none may follow
pub at_large : (most limit k v b : ℕ) (bs : List ℕ) → limit ≤ v + (b % 128) * 128 ^ k → read_from most limit k v (b ∷ bs) ≡ Err Large
at_large most limit k v b bs h = grind (arith, nat_tests)

pub at_most : (most limit k v b : ℕ) (bs : List ℕ) → v + (b % 128) * 128 ^ k < limit → 128 ≤ b → k + 1 ≡ most → read_from most limit k v (b ∷ bs) ≡ Err Large
at_most most limit k v b bs h l e = grind (arith, nat_tests)

-- One digit more of a number.
digit_more : (v k d s : ℕ) → v + 128 ^ k * (d + 128 * s) ≡ (v + d * 128 ^ k) + 128 ^ (k + 1) * s
digit_more v k d s = rw (add-one, pow-suc) (omega arith)

-- A form within the limits is read, whatever stands after it.
from_form : (most limit k v : ℕ) (p rest : List ℕ) → form p ≡ true → k + length p ≤ most → v + 128 ^ k * sum_of p < limit
    → read_from most limit k v (p ++ rest) ≡ Ok (v + 128 ^ k * sum_of p, k + length p)
from_form most limit k v [] rest f l h = cc
from_form most limit k v (b ∷ []) rest f l h = grind (arith, nat_tests, digit_more v k (b % 128) 0)
from_form most limit k v (b ∷ c ∷ bs) rest f l h =
    grind (arith, nat_tests, from_form most limit (k + 1) (v + (b % 128) * 128 ^ k) (c ∷ bs) rest, digit_more v k (b % 128) (sum_of (c ∷ bs)))

pub accepts : (most limit : ℕ) (p rest : List ℕ) → form p ≡ true → length p ≤ most → sum_of p < limit
    → reading most limit (p ++ rest) ≡ Ok (sum_of p, length p)
accepts most limit p rest f l h = grind (arith, from_form most limit 0 0 p rest)

-- Bytes that all go on are passed.
pass : (most limit k v : ℕ) (p q : List ℕ) → goes_on p ≡ true → k + length p < most → v + 128 ^ k * sum_of p < limit
    → read_from most limit k v (p ++ q) ≡ read_from most limit (k + length p) (v + 128 ^ k * sum_of p) q
pass most limit k v [] q g m h = grind arith
pass most limit k v (b ∷ p) q g m h =
    grind (arith, nat_tests, pass most limit (k + 1) (v + (b % 128) * 128 ^ k) p q, digit_more v k (b % 128) (sum_of p))

pub from_start : (most limit : ℕ) (p q : List ℕ) → goes_on p ≡ true → length p < most → sum_of p < limit
    → reading most limit (p ++ q) ≡ read_from most limit (length p) (sum_of p) q
from_start most limit p q g m h = grind (arith, pass most limit 0 0 p q)
