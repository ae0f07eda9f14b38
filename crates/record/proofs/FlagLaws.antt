use Rattle.std.proofs.Common.{◌≡◌, ℕ, zero, suc, ◌+◌, ◌-◌, ◌*◌, ◌/◌, ◌%◌, ◌^◌, ◌<◌, not, eqb, arith}
use lib.Bits.{bit_and, and_high}
use Rattle.std.proofs.lemmas.Bool.Decides.{nat_tests}
use Rattle.record.specs.Format.{has_flag}

mask_told : (n q w : ℕ) → n ≡ q * w → q < 2 → 0 < w → not (eqb n 0) ≡ eqb q 1
mask_told n zero w e h l = grind (arith, nat_tests)
mask_told n (suc zero) w e h l = grind (arith, nat_tests)
mask_told n (suc (suc q)) w e h l = absurd (omega arith)

-- `byte & 2^k != 0` is the flag of weight 2^k.
pub mask_flag : (n k : ℕ) → 0 < 2 ^ k → not (eqb (bit_and n (2 ^ (1 + k) - 2 ^ k)) 0) ≡ has_flag (2 ^ k) n
mask_flag n k h = mask_told (bit_and n (2 ^ (1 + k) - 2 ^ k)) (n / 2 ^ k % 2) (2 ^ k) (and_high n 1 k) (omega arith) h

pub mask_flags : (n : ℕ)
    → (not (eqb (bit_and n 1) 0) ≡ has_flag 1 n) × (not (eqb (bit_and n 2) 0) ≡ has_flag 2 n) × (not (eqb (bit_and n 4) 0) ≡ has_flag 4 n)
    × (not (eqb (bit_and n 8) 0) ≡ has_flag 8 n) × (not (eqb (bit_and n 16) 0) ≡ has_flag 16 n) × (not (eqb (bit_and n 32) 0) ≡ has_flag 32 n)
mask_flags n =
    (mask_flag n 0 (omega arith), mask_flag n 1 (omega arith), mask_flag n 2 (omega arith), mask_flag n 3 (omega arith), mask_flag n 4 (omega arith), mask_flag n 5 (omega arith))
