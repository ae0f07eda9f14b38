-- Where ids stand in a list, and how an insertion moves them.
use Rattle.std.proofs.Common.{◌≡◌, ℕ, suc, ◌+◌, ◌-◌, ◌<◌, ◌≤◌, Bool, true, false, eqb, ◌⊎◌, List, [], ◌∷◌, ◌++◌, length, sym, refl, ap, ◌∙◌, inl, inr, zero-add, arith}
use Rattle.std.proofs.lemmas.Bool.{cases_Bool, cases_eq, eq-eqb, ne_eqb, eqb-true, and_parts, and_left, and_right}
use Rattle.law.specs.Plain.{Id, same_id, Entry, times, entries_of, place}

same_parts : (a b : Id) → same_id a b ≡ true → (a.client ≡ b.client) × (a.clock ≡ b.clock)
same_parts a b h =
    let z : (eqb a.client b.client ≡ true) × (eqb a.clock b.clock ≡ true) = and_parts _ _ h in
    (eqb-true _ _ z.0, eqb-true _ _ z.1)

pub same_from : (a b : Id) → a.client ≡ b.client → a.clock ≡ b.clock → same_id a b ≡ true
same_from a b h k = rw (eq-eqb a.client b.client h, eq-eqb a.clock b.clock k)

apart_client : (a b : Id) → (a.client ≡ b.client → ⊥) → same_id a b ≡ false
apart_client a b h = and_left _ _ (ne_eqb a.client b.client h)

pub apart_clock : (a b : Id) → (a.clock ≡ b.clock → ⊥) → same_id a b ≡ false
apart_clock a b h = and_right _ _ (ne_eqb a.clock b.clock h)

pub times_client : (a b : Id) (c g : Bool) (us : List ℕ) → (a.client ≡ b.client → ⊥) → times a (entries_of b c g us) ≡ 0
times_client a b c g [] h = refl
times_client a b c g (u ∷ us) h = rw (apart_client a b h) (times_client a _ c g us h)

pub times-before : (a b : Id) (c g : Bool) (us : List ℕ) → a.clock < b.clock → times a (entries_of b c g us) ≡ 0
times-before a b c g [] h = refl
times-before a b c g (u ∷ us) h = rw (apart_clock a b (λ e. omega arith)) (times-before a _ c g us (omega arith))

pub times_past : (a b : Id) (c g : Bool) (us : List ℕ) → b.clock + length us ≤ a.clock → times a (entries_of b c g us) ≡ 0
times_past a b c g [] h = refl
times_past a b c g (u ∷ us) h = rw (apart_clock a b (λ e. omega arith)) (times_past a _ c g us (omega arith))

pub times_in : (a b : Id) (c g : Bool) (us : List ℕ) → a.client ≡ b.client → b.clock ≤ a.clock → a.clock < b.clock + length us
    → times a (entries_of b c g us) ≡ 1
times_in a b c g [] h lo hi = absurd (omega arith)
times_in a b c g (u ∷ us) h lo hi = elim (cases_eq a.clock b.clock) [
  | inl e ↦ rw (same_from a b h e) (ap suc (times-before a _ c g us (omega arith)))
  | inr d ↦ rw (apart_clock a b d) (times_in a _ c g us h (omega arith) (omega arith))
]

pub place-either : (a : Id) (xs : List Entry) → ((place a xs < length xs) × (0 < times a xs)) ⊎ ((place a xs ≡ length xs) × (times a xs ≡ 0))
place-either a [] = inr (refl, refl)
place-either a (e ∷ xs) = elim (cases_Bool (same_id a e.id)) [
  | inl b ↦ rw b (inl (omega arith))
  | inr b ↦ rw b (elim (place-either a xs) [ inl h ↦ inl (omega arith) | inr h ↦ inr (omega arith) ])
]

pub standing : (a : Id) (xs : List Entry) → place a xs < length xs → 0 < times a xs
standing a xs h = elim (place-either a xs) [ inl k ↦ k.1 | inr k ↦ absurd (omega arith) ]

pub place_left : (a : Id) (xs ys : List Entry) → place a xs < length xs → place a (xs ++ ys) ≡ place a xs
place_left a [] ys h = absurd (omega arith)
place_left a (e ∷ xs) ys h = elim (cases_Bool (same_id a e.id)) [
  | inl b ↦ rw b
  | inr b ↦ let z : suc (place a xs) < suc (length xs) = rw b at h in rw b (ap suc (place_left a xs ys (omega arith)))
]

pub place_right : (a : Id) (xs ys : List Entry) → times a xs ≡ 0 → place a (xs ++ ys) ≡ length xs + place a ys
place_right a [] ys h = sym (zero-add (place a ys))
place_right a (e ∷ xs) ys h = elim (cases_Bool (same_id a e.id)) [
  | inl b ↦ let z : suc (times a xs) ≡ 0 = rw b at h in absurd (omega arith)
  | inr b ↦ let z : times a xs ≡ 0 = rw b at h in rw (b, place_right a xs ys z) (omega arith)
]

-- an id that is not among the new entries: it stands before the gap and stays, or behind it and moves
pub data Shifted (a : Id) (A N B : List Entry) : Type 0 where
  stays : place a (A ++ B) < length A → place a A ≡ place a (A ++ B) → place a (A ++ (N ++ B)) ≡ place a (A ++ B) → 0 < times a A → Shifted a A N B
  moves : times a A ≡ 0 → place a (A ++ B) ≡ length A + place a B → place a (A ++ (N ++ B)) ≡ place a (A ++ B) + length N → Shifted a A N B

pub shift : (a : Id) (A N B : List Entry) → times a N ≡ 0 → Shifted a A N B
shift a A N B none = elim (place-either a A) [
  | inl h ↦
      let l : place a (A ++ B) ≡ place a A = place_left a A B h.0 in
      let r : place a (A ++ (N ++ B)) ≡ place a A = place_left a A (N ++ B) h.0 in
      stays (omega arith) (sym l) (r ∙ sym l) h.1
  | inr h ↦
      let l : place a (A ++ B) ≡ length A + place a B = place_right a A B h.1 in
      let r : place a (A ++ (N ++ B)) ≡ length A + place a (N ++ B) = place_right a A (N ++ B) h.1 in
      let n : place a (N ++ B) ≡ length N + place a B = place_right a N B none in
      moves h.1 l (omega arith)
]

-- the last id of a run
pub run-last-times : (a b : Id) (c g : Bool) (us : List ℕ) → 0 < length us → times a (entries_of b c g us) ≡ 0
    → same_id a (record { client = b.client; clock = b.clock + (length us - 1) }) ≡ false
run-last-times a b c g us pos none = elim (cases_Bool (same_id a (record { client = b.client; clock = b.clock + (length us - 1) }))) [
  | inl t ↦
      let z : (a.client ≡ b.client) × (a.clock ≡ b.clock + (length us - 1)) = same_parts a _ t in
      let w : times a (entries_of b c g us) ≡ 1 = times_in a b c g us z.0 (omega arith) (omega arith) in
      absurd (omega arith)
  | inr f ↦ f
]

pub run-last-place : (a b : Id) (c g : Bool) (us : List ℕ) → suc (place a (entries_of b c g us)) ≡ length us
    → same_id a (record { client = b.client; clock = b.clock + (length us - 1) }) ≡ true
run-last-place a b c g [] h = absurd (omega arith)
run-last-place a b c g (u ∷ []) h = elim (cases_Bool (same_id a b)) [
  | inl t ↦ let z : (a.client ≡ b.client) × (a.clock ≡ b.clock) = same_parts a b t in same_from a _ z.0 (omega arith)
  | inr f ↦ let z : ◌≡◌ {A = ℕ} 2 1 = rw f at h in absurd (omega arith)
]
run-last-place a b c g (u ∷ w ∷ us) h = elim (cases_Bool (same_id a b)) [
  | inl t ↦ let z : 1 ≡ suc (suc (length us)) = rw t at h in absurd (omega arith)
  | inr f ↦
      let z : suc (suc (place a (entries_of (record { client = b.client; clock = suc b.clock }) c g (w ∷ us)))) ≡ suc (suc (length us)) = rw f at h in
      let r : same_id a (record { client = b.client; clock = suc b.clock + (suc (length us) - 1) }) ≡ true
      = run-last-place a (record { client = b.client; clock = suc b.clock }) c g (w ∷ us) (omega arith) in
      let y : (a.client ≡ b.client) × (a.clock ≡ suc b.clock + (suc (length us) - 1)) = same_parts a _ r in
      same_from a _ y.0 (omega arith)
]

-- the first id of a run
pub run_first_place : (a b : Id) (c g : Bool) (us : List ℕ) (Z : List Entry) → 0 < length us → place a (entries_of b c g us ++ Z) ≡ 0 → same_id a b ≡ true
run_first_place a b c g [] Z pos h = absurd (omega arith)
run_first_place a b c g (u ∷ us) Z pos h = elim (cases_Bool (same_id a b)) [
  | inl t ↦ t
  | inr f ↦ let z : suc (place a (entries_of (record { client = b.client; clock = suc b.clock }) c g us ++ Z)) ≡ 0 = rw f at h in absurd (omega arith)
]

pub run_first_times : (a b : Id) (c g : Bool) (us : List ℕ) (Z : List Entry) → 0 < length us → same_id a b ≡ true → 0 < times a (entries_of b c g us ++ Z)
run_first_times a b c g [] Z pos h = absurd (omega arith)
run_first_times a b c g (u ∷ us) Z pos h = rw h (omega arith)
