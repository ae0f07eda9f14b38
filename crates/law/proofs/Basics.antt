-- Functions changed at one number, lists in parts, how many pass a test.
use Rattle.std.proofs.Common.{◌≡◌, ℕ, suc, ◌+◌, ◌<◌, Bool, eqb, List, [], ◌∷◌, ◌++◌, Some, None, Option, sym, refl, ap, subst, inl, inr, zero-add, arith}
use Rattle.std.specs.List.{AllByRecursion}
use Rattle.std.proofs.lemmas.Bool.{cases_Bool, eqb-true, eqb-false, eq-eqb, ne_eqb}
use Rattle.law.specs.Plain.{many, put, with_new}

-- a function changed at one number, taken at any number
pub put_each : {X : Type 0} (P : ℕ → X → Type 0) (l : ℕ) (x : X) (F : ℕ → X)
    → P l x → ((m : ℕ) → (m ≡ l → ⊥) → P m (F m)) → (m : ℕ) → P m (put l x F m)
put_each P l x F h k m = elim (cases_Bool (eqb m l)) [
  | inl e ↦ rw e (subst (λ i. P i x) (sym (eqb-true m l e)) h)
  | inr e ↦ rw e (k m (eqb-false m l e))
]

pub put_each_two : {X Y : Type 0} (P : ℕ → X → Y → Type 0) (l : ℕ) (x : X) (F : ℕ → X) (y : Y) (G : ℕ → Y)
    → P l x y → ((m : ℕ) → (m ≡ l → ⊥) → P m (F m) (G m)) → (m : ℕ) → P m (put l x F m) (put l y G m)
put_each_two P l x F y G h k m = elim (cases_Bool (eqb m l)) [
  | inl e ↦ rw e (subst (λ i. P i x y) (sym (eqb-true m l e)) h)
  | inr e ↦ rw e (k m (eqb-false m l e))
]

pub put_same : {X : Type 0} (l : ℕ) (x : X) (F : ℕ → X) → put l x F l ≡ x
put_same l x F = rw (eq-eqb l l refl)

pub put_other : {X : Type 0} (l m : ℕ) (x : X) (F : ℕ → X) → (m ≡ l → ⊥) → put l x F m ≡ F m
put_other l m x F h = rw (ne_eqb m l h)

pub none_some : {X : Type 0} (x : X) (P : Type 0) → ◌≡◌ {A = Option X} None (Some x) → P
none_some x P e = let z : ◌≡◌ {A = ℕ} 0 1 = cc in absurd (omega arith)

pub some_some : {X : Type 0} (x y : X) → Some x ≡ Some y → x ≡ y
some_some x y e = cc

pub all_left : {X : Type 0} (P : X → Type 0) (xs ys : List X) → AllByRecursion P (xs ++ ys) → AllByRecursion P xs
all_left P [] ys h = tt
all_left P (x ∷ xs) ys h = (h.0, all_left P xs ys h.1)

pub all_right : {X : Type 0} (P : X → Type 0) (xs ys : List X) → AllByRecursion P (xs ++ ys) → AllByRecursion P ys
all_right P [] ys h = h
all_right P (x ∷ xs) ys h = all_right P xs ys h.1

pub many-append : {X : Type 0} (test : X → Bool) (xs ys : List X) → many test (xs ++ ys) ≡ many test xs + many test ys
many-append t [] ys = sym (zero-add (many t ys))
many-append t (x ∷ xs) ys = elim (cases_Bool (t x)) [
  | inl b ↦ rw (b, many-append t xs ys) (omega arith)
  | inr b ↦ rw (b, many-append t xs ys)
]

pub many_like : {X : Type 0} (s t : X → Bool) (xs : List X) → ((x : X) → s x ≡ t x) → many s xs ≡ many t xs
many_like s t [] h = refl
many_like s t (x ∷ xs) h = rw (h x, many_like s t xs h)

-- an element that is known already, and a new one
pub with_known : {X : Type 0} (like : X → X → Bool) (x : X) (xs : List X) → 0 < many (like x) xs → with_new like x xs ≡ xs
with_known like x [] h = absurd (omega arith)
with_known like x (y ∷ ys) h = elim (cases_Bool (like x y)) [
  | inl b ↦ rw b
  | inr b ↦ let z : 0 < many (like x) ys = rw b at h in rw b (ap (λ r. y ∷ r) (with_known like x ys z))
]

pub with_last : {X : Type 0} (like : X → X → Bool) (x : X) (xs : List X) → many (like x) xs ≡ 0 → with_new like x xs ≡ xs ++ x ∷ []
with_last like x [] h = refl
with_last like x (y ∷ ys) h = elim (cases_Bool (like x y)) [
  | inl b ↦ let z : suc (many (like x) ys) ≡ 0 = rw b at h in absurd (omega arith)
  | inr b ↦ let z : many (like x) ys ≡ 0 = rw b at h in rw b (ap (λ r. y ∷ r) (with_last like x ys z))
]
