-- Bits of a link set.
use Rattle.std.proofs.Common.{◌≡◌, ℕ, zero, suc, ◌+◌, ◌-◌, ◌*◌, ◌/◌, ◌%◌, ◌^◌, ◌<◌, false, not, ◌&&◌, ◌||◌, eqb, ◌⊎◌, sym, refl, ap, ◌∙◌, subst, inl, inr, one-mul, arith}
use native.Mathlib.Nat.{div-eq_of_lt}
use lib.Bits.{bit_and, bit_or}
use Rattle.std.proofs.lemmas.Nat.{and_shr, or_shr, and_mod, or_mod, pow_pos, pow-add, shl-shr, div-add-mod', div-mul-add, div_below, mod_below, pow_below}
use Rattle.std.proofs.lemmas.Bool.{cases_order, eq-eqb, ne_eqb}
use Rattle.law.specs.Faces.{bit}

pub below_two : (r : ℕ) → r < 2 → (r ≡ 0) ⊎ (r ≡ 1)
below_two zero h = inl refl
below_two (suc zero) h = inr refl
below_two (suc (suc n)) h = absurd (omega arith)

pub bit_zero : (n : ℕ) → bit n 0 ≡ false
unfolding bit
bit_zero n = let z : 0 / 2 ^ n ≡ 0 = div-eq_of_lt (pow_pos n) in rw z

or_small : (r s : ℕ) → r < 2 → s < 2 → eqb (bit_or r s) 1 ≡ (eqb r 1 || eqb s 1)
or_small r s hr hs = elim (below_two r hr) [
  | inl a ↦ elim (below_two s hs) [ inl b ↦ rw (a, b) | inr b ↦ rw (a, b) ]
  | inr a ↦ elim (below_two s hs) [ inl b ↦ rw (a, b) | inr b ↦ rw (a, b) ]
]

and_small : (r s : ℕ) → r < 2 → s < 2 → eqb (bit_and r s) 1 ≡ (eqb r 1 && eqb s 1)
and_small r s hr hs = elim (below_two r hr) [
  | inl a ↦ rw a
  | inr a ↦ elim (below_two s hs) [ inl b ↦ rw (a, b) | inr b ↦ rw (a, b) ]
]

pub bit-or : (n x y : ℕ) → bit n (bit_or x y) ≡ (bit n x || bit n y)
unfolding bit
bit-or n x y = ap (λ z. eqb (z % 2) 1) (or_shr x y n) ∙ ap (λ z. eqb z 1) (or_mod (x / 2 ^ n) (y / 2 ^ n) 1)
    ∙ or_small (x / 2 ^ n % 2) (y / 2 ^ n % 2) (mod_below (x / 2 ^ n) 2 (omega arith)) (mod_below (y / 2 ^ n) 2 (omega arith))

pub bit-and : (n x y : ℕ) → bit n (bit_and x y) ≡ (bit n x && bit n y)
unfolding bit
bit-and n x y = ap (λ z. eqb (z % 2) 1) (and_shr x y n) ∙ ap (λ z. eqb z 1) (and_mod (x / 2 ^ n) (y / 2 ^ n) 1)
    ∙ and_small (x / 2 ^ n % 2) (y / 2 ^ n % 2) (mod_below (x / 2 ^ n) 2 (omega arith)) (mod_below (y / 2 ^ n) 2 (omega arith))

one_parity : (m d : ℕ) → 2 ^ (suc d + m) / 2 ^ m % 2 ≡ 0
one_parity m d = rw (pow-add 2 (suc d) m, shl-shr (2 ^ suc d) m) (omega arith)

pub bit-one : (m n : ℕ) → bit m (2 ^ n) ≡ eqb m n
unfolding bit
bit-one m n = elim (cases_order m n) [
  | inl e ↦ rw (eq-eqb m n e, e)
      (let z : 2 ^ n / 2 ^ n ≡ 1 = subst (λ x. x / 2 ^ n ≡ 1) (one-mul (2 ^ n)) (shl-shr 1 n) in rw z)
  | inr (inl h) ↦
      let e : n ≡ suc (n - m - 1) + m = omega arith in
      let z : 2 ^ n / 2 ^ m % 2 ≡ 0 = subst (λ x. 2 ^ x / 2 ^ m % 2 ≡ 0) (sym e) (one_parity m (n - m - 1)) in
      rw (ne_eqb m n (λ x. omega arith), z)
  | inr (inr h) ↦
      let z : 2 ^ n / 2 ^ m ≡ 0 = div-eq_of_lt (pow_below n m h) in
      rw (ne_eqb m n (λ x. omega arith), z)
]

-- the other bits of a word of which P * Q are all: what stands above place m
flip_high : (P Q a r : ℕ) → a < P → r < Q → (P * Q - 1 - (a * Q + r)) / Q ≡ P - 1 - a
flip_high P Q a r ha hr =
    let d : ℕ = P - 1 - a in
    let e : P ≡ a + 1 + d = omega arith in
    let z : P * Q - 1 - (a * Q + r) ≡ d * Q + (Q - 1 - r) = omega (arith, ap (λ x. x * Q) e) in
    rw z (div-mul-add d Q (Q - 1 - r) (omega arith))

parity_flip : (K a : ℕ) → a < 2 * K → eqb ((2 * K - 1 - a) % 2) 1 ≡ not (eqb (a % 2) 1)
parity_flip K a h = elim (below_two (a % 2) (mod_below a 2 (omega arith))) [
  | inl e ↦ let z : (2 * K - 1 - a) % 2 ≡ 1 = omega arith in rw (e, z)
  | inr e ↦ let z : (2 * K - 1 - a) % 2 ≡ 0 = omega arith in rw (e, z)
]

not_words : (N P Q K y : ℕ) → N ≡ P * Q → P ≡ 2 * K → 0 < Q → y < N → eqb ((N - 1 - y) / Q % 2) 1 ≡ not (eqb (y / Q % 2) 1)
not_words N P Q K y hN hP hQ hy =
    let split : y / Q * Q + y % Q ≡ y = div-add-mod' y Q in
    let small : y / Q < P = div_below y Q P hQ (subst (λ x. y < x) hN hy) in
    let z : (P * Q - 1 - (y / Q * Q + y % Q)) / Q ≡ P - 1 - y / Q = flip_high P Q (y / Q) (y % Q) small (mod_below y Q hQ) in
    let w : (N - 1 - y) / Q ≡ P - 1 - y / Q = subst (λ x. (x - 1 - y) / Q ≡ P - 1 - y / Q) (sym hN) (subst (λ x. (P * Q - 1 - x) / Q ≡ P - 1 - y / Q) split z) in
    ap (λ x. eqb (x % 2) 1) w ∙ ap (λ x. eqb ((x - 1 - y / Q) % 2) 1) hP ∙ parity_flip K (y / Q) (omega arith)

bit_not : (m y : ℕ) → m < 64 → y < 2 ^ 64 → bit m (2 ^ 64 - 1 - y) ≡ not (bit m y)
unfolding bit
bit_not m y hm hy =
    let e : 64 ≡ (64 - m) + m = omega arith in
    let d : 64 - m ≡ suc (63 - m) = omega arith in
    not_words (2 ^ 64) (2 ^ (64 - m)) (2 ^ m) (2 ^ (63 - m)) y
    (subst (λ x. 2 ^ x ≡ 2 ^ (64 - m) * 2 ^ m) (sym e) (pow-add 2 (64 - m) m))
    (subst (λ x. 2 ^ x ≡ 2 * 2 ^ (63 - m)) (sym d) (omega arith))
    (pow_pos m) hy

pub bit_others : (m n : ℕ) → m < 64 → n < 64 → bit m (2 ^ 64 - 1 - 2 ^ n) ≡ not (eqb m n)
bit_others m n hm hn = bit_not m (2 ^ n) hm (pow_below n 64 hn) ∙ ap not (bit-one m n)
