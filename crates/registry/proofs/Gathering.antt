use Rattle.std.proofs.Common.{◌≡◌, ℕ, ◌+◌, ◌*◌, ◌%◌, ◌^◌, ◌<◌, ◌≤◌, Bool, true, false, ◌||◌, eqb, sym, ap, ◌∙◌, subst, ap₂, inl, inr, arith}
use lib.Bits.{bit_or}
use Rattle.std.proofs.lemmas.Bool.{cases_eq, cases_lt}
use Rattle.std.proofs.lemmas.Bool.Decides.{nat_tests}
use Rattle.std.proofs.lemmas.Nat.{one_shl}
use Rattle.law.specs.Faces.{bit}
use Rattle.law.proofs.Bits.{bit-or, bit-one}

-- Each bit m of s is that of b, or is added: below n as R m tells, and from n on not at all.
abbrev pub Gathered : (ℕ → Bool → Type 0) → ℕ → ℕ → ℕ → Type 0
Gathered R b n s = (m : ℕ) → (t : Bool) × (m < n → R m t) × (n ≤ m → t ≡ false) × (bit m s ≡ (bit m b || t))

pub gather_in : (R : ℕ → Bool → Type 0) (b n s : ℕ) → n < 64 → R n true → Gathered R b n s → Gathered R b (n + 1) (bit_or s ((1 * 2 ^ n) % 2 ^ 64))
gather_in R b n s small here g m =
    let (t, below, above, same) = g m in
    let bits : bit m (bit_or s ((1 * 2 ^ n) % 2 ^ 64)) ≡ ((bit m b || t) || eqb m n) =
    ap (λ w. bit m (bit_or s w)) (one_shl n 64 small) ∙ bit-or m s (2 ^ n) ∙ ap₂ ◌||◌ same (bit-one m n) in
    elim (cases_eq m n) [
      | inl e ↦ (true, λ _. subst (λ k. R k true) (sym e) here, λ h. absurd (omega arith), bits ∙ now (bit m b) t (above (omega arith)) e)
      | inr ne ↦ (t, λ h. below (omega arith), λ h. above (omega arith), bits ∙ before (bit m b || t) ne)
    ]
  where
    now : (x y : Bool) → y ≡ false → m ≡ n → ((x || y) || eqb m n) ≡ (x || true)
    now x y h e = grind (arith, nat_tests)

    before : (x : Bool) → (m ≡ n → ⊥) → (x || eqb m n) ≡ x
    before x ne = grind (arith, nat_tests)

pub gather_out : (R : ℕ → Bool → Type 0) (b n s : ℕ) → R n false → Gathered R b n s → Gathered R b (n + 1) s
gather_out R b n s here g m =
    let (t, below, above, same) = g m in
    elim (cases_eq m n) [
      | inl e ↦ (t, λ _. subst (λ k. R k t) (sym e) (subst (R n) (sym (above (omega arith))) here), λ h. absurd (omega arith), same)
      | inr ne ↦ (t, λ h. below (omega arith), λ h. above (omega arith), same)
    ]

pub gather_all : (R : ℕ → Bool → Type 0) (b n s : ℕ) → ((m : ℕ) → n ≤ m → R m false) → Gathered R b n s → (m : ℕ) → (t : Bool) × R m t × (bit m s ≡ (bit m b || t))
gather_all R b n s past g m =
    let (t, below, above, same) = g m in
    elim (cases_lt m n) [
      | inl lt ↦ (t, below lt, same)
      | inr ge ↦ (t, subst (R m) (sym (above ge)) (past m ge), same)
    ]
