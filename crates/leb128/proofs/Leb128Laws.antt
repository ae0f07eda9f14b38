use Rattle.std.proofs.Common.{◌≡◌, ℕ, zero, suc, ◌+◌, ◌*◌, ◌/◌, ◌%◌, ◌^◌, ◌<◌, ◌≤◌, true, List, [], ◌∷◌, reverse, length, refl, ap, ◌∙◌, inl, inr, pow-suc, arith}
use native.Mathlib.Nat.{pow-le-pow_right}
use Rattle.std.proofs.lemmas.Bool.Decides.{nat_tests}
use Rattle.std.proofs.lemmas.Bool.{cases_lt}
use Rattle.std.specs.Int.Digits.{digits_of}
use Rattle.std.proofs.lemmas.Int.Digits.{digits_of_step}
use Rattle.std.proofs.lemmas.List.{reverse-append}
use Rattle.leb128.specs.Leb128.{uleb, sum_of, form}

abbrev low : ℕ → List ℕ
low n = reverse (digits_of 128 n)

low_step : (n : ℕ) → 0 < n → low n ≡ n % 128 ∷ low (n / 128)
low_step n h = rw (digits_of_step 128 n (omega arith) h) (reverse-append (digits_of 128 (n / 128)) (n % 128 ∷ []))

pub uleb_small : (n : ℕ) → n < 128 → uleb n ≡ n ∷ []
unfolding uleb
uleb_small zero h = refl
uleb_small (suc m) h =
    let d : suc m / 128 ≡ 0 = omega arith in
    let r : suc m % 128 ≡ suc m = omega arith in
    rw (low_step (suc m) (omega arith), d, r) refl

pub uleb_step : (n : ℕ) → 128 ≤ n → uleb n ≡ (n % 128 + 128) ∷ uleb (n / 128)
unfolding uleb
uleb_step n h = grind (arith, low_step n, low_step (n / 128))

-- A number's form is never empty.
pub uleb_some : (n : ℕ) → 0 < length (uleb n)
uleb_some n = elim (cases_lt n 128) [ inl h ↦ grind (arith, uleb_small) | inr h ↦ grind (arith, uleb_step) ]

-- It is the number itself where it is one byte; where it is more, the number goes on.
pub uleb_last : (n : ℕ) → length (uleb n) ≡ 1 → n < 128
uleb_last n e = elim (cases_lt n 128) [ inl h ↦ h | inr h ↦ absurd (omega (arith, uleb_some (n / 128), ap length (uleb_step n h))) ]

pub uleb_goes_on : (n : ℕ) → 1 < length (uleb n) → 128 ≤ n
uleb_goes_on n l = elim (cases_lt n 128) [ inl h ↦ absurd (omega (arith, ap length (uleb_small n h))) | inr h ↦ h ]

pub length-uleb : (k n : ℕ) → n < 128 * 128 ^ k → length (uleb n) ≤ k + 1
length-uleb zero n h = grind (arith, uleb_small)
length-uleb (suc k) n h =
    elim (cases_lt n 128) [
      | inl l ↦ grind (arith, uleb_small)
      | inr l ↦ grind (arith, uleb_step, length-uleb k (n / 128), pow-suc)
    ]

-- One byte more for each seven bits more.
pub length_is : (k n : ℕ) → 128 ^ k ≤ n → n < 128 * 128 ^ k → length (uleb n) ≡ k + 1
length_is zero n l h = grind (arith, uleb_small)
length_is (suc k) n l h =
    let p : 128 ^ suc k ≡ 128 ^ k * 128 = pow-suc 128 k in
    let z : 0 ≤ k = omega arith in
    let o : 128 ^ 0 ≤ 128 ^ k = pow-le-pow_right {n = 128} (omega arith) z in
    grind (arith, uleb_step, length_is k (n / 128))

-- at most ten bytes for 64 bits
pub uleb_ten : (n : ℕ) → n < 2 ^ 64 → length (uleb n) ≤ 10
uleb_ten n h = length-uleb 9 n (omega arith)

-- A byte that goes on, before a form.
form_cons : (b : ℕ) (xs : List ℕ) → 0 < length xs → 128 ≤ b → form (b ∷ xs) ≡ form xs
form_cons b [] p h = absurd (omega arith)
form_cons b (x ∷ xs) p h = grind (arith, nat_tests)

form_by : (f n : ℕ) → n ≤ f → form (uleb n) ≡ true
form_by zero n h = grind (arith, nat_tests, uleb_small)
form_by (suc f) n h =
    elim (cases_lt n 128) [
      | inl l ↦ grind (arith, nat_tests, uleb_small)
      | inr l ↦ rw (uleb_step n l) (form_cons (n % 128 + 128) (uleb (n / 128)) (uleb_some (n / 128)) (omega arith) ∙ form_by f (n / 128) (omega arith))
    ]

sum_by : (f n : ℕ) → n ≤ f → sum_of (uleb n) ≡ n
sum_by zero n h = grind (arith, uleb_small)
sum_by (suc f) n h = elim (cases_lt n 128) [ inl l ↦ grind (arith, uleb_small) | inr l ↦ grind (arith, uleb_step, sum_by f (n / 128)) ]

-- The shortest form is a form, and it says the number.
pub form-uleb : (n : ℕ) → form (uleb n) ≡ true
form-uleb n = form_by n n (omega arith)

pub sum-uleb : (n : ℕ) → sum_of (uleb n) ≡ n
sum-uleb n = sum_by n n (omega arith)
