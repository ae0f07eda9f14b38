-- The join rule: an insertion's new block lies in just the ranges that its neighbours and the sticking sides say.
use Rattle.std.proofs.Common.{◌≡◌, ℕ, suc, ◌+◌, ◌-◌, ◌<◌, ◌≤◌, Bool, true, false, ◌&&◌, ◌||◌, ltb, leb, ◌⊎◌, List, [], ◌∷◌, ◌++◌, length, sym, refl, ap, ◌∙◌, inl, inr, arith, length-append}
use mathlib.Core.Bool.{or-true}
use lib.Bits.{bit_or}
use Rattle.std.proofs.lemmas.Bool.{cases_Bool, cases_lt, le-leb, lt-leb, lt-ltb, le-ltb}
use Rattle.std.proofs.lemmas.Bool.Decides.{nat_tests}
use Rattle.std.specs.Option.{option_map}
use Rattle.law.specs.Plain.{Id, same_id, Entry, has_id, times, Side, place, start_gap, end_gap}
use Rattle.law.specs.Plain.Side.{Open, Before, After}
use Rattle.law.specs.Faces.{Face, entries, laid, bit, Linked, Filled, SideStands}
use Rattle.law.specs.Joins.{last_id, first_id, last_of, first_of, side_starts, side_ends, links_of, JoinByBits}
use Rattle.law.proofs.Basics.{many-append}
use Rattle.law.proofs.Bits.{bit-or, bit-and}
use Rattle.law.proofs.Ids.{place-either, place_left, place_right, Shifted, stays, moves, shift, run-last-times, run-last-place, run_first_times, run_first_place}
use Rattle.law.proofs.Laid.{length-entries, length-laid}

-- the left neighbour's bit, and its last id
pub last_linked : (I : ℕ → ℕ → Bool) (at : ℕ) (f : Face) (fs : List Face) → Filled (f ∷ fs) → Linked I at (f ∷ fs) → (n : ℕ)
    → bit n (links_of (last_of (f ∷ fs))) ≡ I n (at + length (laid (f ∷ fs)) - 1)
last_linked I at f [] fill h n =
    let z : length (laid (f ∷ [])) ≡ length f.units + 0 = length-laid f [] in
    let p : 0 < length f.units = fill.0 in
    h.0 n (at + length (laid (f ∷ [])) - 1) (omega arith) (omega arith)
last_linked I at f (g ∷ fs) fill h n =
    let z : length (laid (f ∷ g ∷ fs)) ≡ length f.units + length (laid (g ∷ fs)) = length-laid f (g ∷ fs) in
    let w : at + length f.units + length (laid (g ∷ fs)) - 1 ≡ at + length (laid (f ∷ g ∷ fs)) - 1 = omega arith in
    last_linked I (at + length f.units) g fs fill.1 h.1 n ∙ ap (I n) w

last-times : (a : Id) (f : Face) (fs : List Face) → Filled (f ∷ fs) → times a (laid (f ∷ fs)) ≡ 0
    → side_starts (After a) (option_map last_id (last_of (f ∷ fs))) ≡ false
last-times a f [] fill none =
    let z : times a (entries f ++ []) ≡ times a (entries f) + 0 = many-append (has_id a) (entries f) [] in
    run-last-times a f.first f.countable f.removed f.units fill.0 (omega arith)
last-times a f (g ∷ fs) fill none =
    let z : times a (entries f ++ laid (g ∷ fs)) ≡ times a (entries f) + times a (laid (g ∷ fs)) = many-append (has_id a) (entries f) (laid (g ∷ fs)) in
    last-times a g fs fill.1 (omega arith)

last-place : (a : Id) (f : Face) (fs : List Face) → Filled (f ∷ fs) → suc (place a (laid (f ∷ fs))) ≡ length (laid (f ∷ fs))
    → side_starts (After a) (option_map last_id (last_of (f ∷ fs))) ≡ true
last-place a f [] fill h =
    let l : length (laid (f ∷ [])) ≡ length f.units + 0 = length-laid f [] in
    let e : length (entries f) ≡ length f.units = length-entries _ _ _ f.units in
    elim (place-either a (entries f)) [
      | inl k ↦
          let z : place a (entries f ++ []) ≡ place a (entries f) = place_left a (entries f) [] k.0 in
          run-last-place a f.first f.countable f.removed f.units (omega arith)
      | inr k ↦
          let z : place a (entries f ++ []) ≡ length (entries f) + 0 = place_right a (entries f) [] k.1 in
          absurd (omega arith)
    ]
last-place a f (g ∷ fs) fill h =
    let l : length (laid (f ∷ g ∷ fs)) ≡ length f.units + length (laid (g ∷ fs)) = length-laid f (g ∷ fs) in
    let l' : length (laid (g ∷ fs)) ≡ length g.units + length (laid fs) = length-laid g fs in
    let p : 0 < length g.units = fill.1.0 in
    let e : length (entries f) ≡ length f.units = length-entries _ _ _ f.units in
    elim (place-either a (entries f)) [
      | inl k ↦
          let z : place a (entries f ++ laid (g ∷ fs)) ≡ place a (entries f) = place_left a (entries f) (laid (g ∷ fs)) k.0 in
          absurd (omega arith)
      | inr k ↦
          let z : place a (entries f ++ laid (g ∷ fs)) ≡ length (entries f) + place a (laid (g ∷ fs)) = place_right a (entries f) (laid (g ∷ fs)) k.1 in
          last-place a g fs fill.1 (omega arith)
    ]

-- a side's id is not among the new entries, and stands once at most
abbrev pub Sole : Side → List Entry → List Entry → Type 0
Sole Open N X = Unit {0}
Sole (Before a) N X = (times a N ≡ 0) × (times a X ≤ 1)
Sole (After a) N X = (times a N ≡ 0) × (times a X ≤ 1)

-- a gap s before, s' after k entries came into the gap g
abbrev pub Moved : ℕ → ℕ → ℕ → ℕ → Type 0
Moved g k s s' = ((s ≤ g) × (s' ≡ s)) ⊎ ((g ≤ s) × (s' ≡ s + k))

pub start_moved : (S : Side) (A N B : List Entry) → Sole S N (A ++ B) → Moved (length A) (length N) (start_gap S (A ++ B)) (start_gap S (A ++ (N ++ B)))
start_moved Open A N B sole = inl (omega arith, refl)
start_moved (Before a) A N B sole = elim (shift a A N B sole.0) [
  | stays h _ e _ ↦ inl (omega arith, e)
  | moves _ h e ↦ inr (omega arith, e)
]
start_moved (After a) A N B sole = elim (shift a A N B sole.0) [
  | stays h _ e _ ↦ inl (omega arith, omega arith)
  | moves _ h e ↦ inr (omega arith, omega arith)
]

pub end_moved : (S : Side) (A N B : List Entry) → Sole S N (A ++ B) → Moved (length A) (length N) (end_gap S (A ++ B)) (end_gap S (A ++ (N ++ B)))
end_moved Open A N B sole = inr (omega (arith, length-append A B), omega (arith, length-append A B, length-append A (N ++ B), length-append N B))
end_moved (Before a) A N B sole = start_moved (Before a) A N B sole
end_moved (After a) A N B sole = start_moved (After a) A N B sole

-- the old places see the same
pub old_left : (g k s s' t t' q : ℕ) → Moved g k s s' → Moved g k t t' → q < g → (leb s q && ltb q t) ≡ (leb s' q && ltb q t')
old_left g k s s' t t' q h j lo = grind (arith, nat_tests)

pub old_right : (g k s s' t t' q : ℕ) → Moved g k s s' → Moved g k t t' → g ≤ q → (leb s q && ltb q t) ≡ (leb s' (q + k) && ltb (q + k) t')
old_right g k s s' t t' q h j lo = grind (arith, nat_tests)

-- the new places: is the start before them?
pub start_new : (S : Side) (xs ys : List Face) (N : List Entry) → Filled xs → Sole S N (laid xs ++ laid ys)
    → (q : ℕ) → length (laid xs) ≤ q → q < length (laid xs) + length N
    → leb (start_gap S (laid xs ++ (N ++ laid ys))) q ≡ (ltb (start_gap S (laid xs ++ laid ys)) (length (laid xs)) || side_starts S (option_map last_id (last_of xs)))
start_new Open [] ys N fill sole q lo hi = le-leb 0 q (omega arith)
start_new Open (f ∷ fs) ys N fill sole q lo hi =
    let p : 0 < length f.units = fill.0 in
    let z : length (laid (f ∷ fs)) ≡ length f.units + length (laid fs) = length-laid f fs in
    rw (le-leb 0 q (omega arith), lt-ltb 0 (length (laid (f ∷ fs))) (omega arith))
start_new (Before a) xs ys N fill sole q lo hi = elim (shift a (laid xs) N (laid ys) sole.0) [
  | stays h _ e _ ↦ le-leb _ q (omega arith) ∙ sym (ap (λ z. z || false) (lt-ltb _ (length (laid xs)) h))
  | moves _ h e ↦ lt-leb _ q (omega arith) ∙ sym (ap (λ z. z || false) (le-ltb _ (length (laid xs)) (omega arith)))
]
start_new (After a) [] ys N fill sole q lo hi =
    let m : Shifted a [] N (laid ys) = shift a [] N (laid ys) sole.0 in
    elim m [
      | stays h _ e _ ↦ absurd (omega arith)
      | moves _ h e ↦ lt-leb _ q (omega arith) ∙ sym (ap (λ z. z || false) (le-ltb _ 0 (omega arith)))
    ]
start_new (After a) (f ∷ fs) ys N fill sole q lo hi = elim (shift a (laid (f ∷ fs)) N (laid ys) sole.0) [
  | stays h d e _ ↦ le-leb _ q (omega arith) ∙ sym (elim (cases_lt (suc (place a (laid (f ∷ fs) ++ laid ys))) (length (laid (f ∷ fs)))) [
    | inl k ↦ ap (λ z. z || side_starts (After a) (option_map last_id (last_of (f ∷ fs)))) (lt-ltb _ _ k)
    | inr k ↦ ap (λ z. z || side_starts (After a) (option_map last_id (last_of (f ∷ fs)))) (le-ltb _ _ k) ∙ last-place a f fs fill (omega arith)
  ])
  | moves none h e ↦ lt-leb _ q (omega arith) ∙ sym (ap (λ z. z || side_starts (After a) (option_map last_id (last_of (f ∷ fs)))) (le-ltb _ (length (laid (f ∷ fs))) (omega arith)) ∙ last-times a f fs fill none)
]

-- the new places: is the end behind them?
pub end_new : (S : Side) (xs ys : List Face) (N : List Entry) → Filled ys → Sole S N (laid xs ++ laid ys) → SideStands S (laid xs ++ laid ys)
    → (q : ℕ) → length (laid xs) ≤ q → q < length (laid xs) + length N
    → ltb q (end_gap S (laid xs ++ (N ++ laid ys))) ≡ (ltb (length (laid xs)) (end_gap S (laid xs ++ laid ys)) || side_ends S (option_map first_id (first_of ys)))
end_new Open xs [] N fill sole anc q lo hi =
    let l : length (laid xs ++ (N ++ [])) ≡ length (laid xs) + length (N ++ []) = length-append (laid xs) (N ++ []) in
    let m : length (N ++ []) ≡ length N + 0 = length-append N [] in
    lt-ltb q _ (omega arith) ∙ sym (or-true _)
end_new Open xs (f ∷ fs) N fill sole anc q lo hi =
    let p : 0 < length f.units = fill.0 in
    let z : length (laid (f ∷ fs)) ≡ length f.units + length (laid fs) = length-laid f fs in
    let l : length (laid xs ++ (N ++ laid (f ∷ fs))) ≡ length (laid xs) + length (N ++ laid (f ∷ fs)) = length-append (laid xs) (N ++ laid (f ∷ fs)) in
    let m : length (N ++ laid (f ∷ fs)) ≡ length N + length (laid (f ∷ fs)) = length-append N (laid (f ∷ fs)) in
    let o : length (laid xs ++ laid (f ∷ fs)) ≡ length (laid xs) + length (laid (f ∷ fs)) = length-append (laid xs) (laid (f ∷ fs)) in
    lt-ltb q _ (omega arith) ∙ sym (ap (λ z. z || false) (lt-ltb (length (laid xs)) _ (omega arith)))
end_new (Before a) xs [] N fill sole anc q lo hi =
    let l : length (laid xs ++ []) ≡ length (laid xs) + 0 = length-append (laid xs) [] in
    let m : Shifted a (laid xs) N [] = shift a (laid xs) N [] sole.0 in
    elim m [
      | stays h _ e _ ↦ le-ltb q _ (omega arith) ∙ sym (ap (λ z. z || false) (le-ltb (length (laid xs)) _ (omega arith)))
      | moves _ h e ↦ absurd (omega arith)
    ]
end_new (Before a) xs (f ∷ fs) N fill sole anc q lo hi = elim (shift a (laid xs) N (laid (f ∷ fs)) sole.0) [
  | stays h _ e t ↦ le-ltb q _ (omega arith) ∙ sym (ap (λ z. z || same_id a f.first) (le-ltb (length (laid xs)) _ (omega arith)) ∙ elim (cases_Bool (same_id a f.first)) [
    | inl y ↦
        let w : 0 < times a (laid (f ∷ fs)) = run_first_times a f.first f.countable f.removed f.units (laid fs) fill.0 y in
        let v : times a (laid xs ++ laid (f ∷ fs)) ≡ times a (laid xs) + times a (laid (f ∷ fs)) = many-append (has_id a) (laid xs) (laid (f ∷ fs)) in
        let u : times a (laid xs ++ laid (f ∷ fs)) ≤ 1 = sole.1 in
        absurd (omega arith)
    | inr n ↦ n
  ])
  | moves _ h e ↦ lt-ltb q _ (omega arith) ∙ sym (elim (cases_lt (length (laid xs)) (place a (laid xs ++ laid (f ∷ fs)))) [
    | inl k ↦ ap (λ z. z || same_id a f.first) (lt-ltb _ _ k)
    | inr k ↦ ap (λ z. z || same_id a f.first) (le-ltb _ _ k) ∙ run_first_place a f.first f.countable f.removed f.units (laid fs) fill.0 (omega arith)
  ])
]
end_new (After a) xs ys N fill sole anc q lo hi = elim (shift a (laid xs) N (laid ys) sole.0) [
  | stays h _ e _ ↦ le-ltb q _ (omega arith) ∙ sym (ap (λ z. z || false) (le-ltb (length (laid xs)) _ h))
  | moves _ h e ↦ lt-ltb q _ (omega arith) ∙ sym (ap (λ z. z || false) (lt-ltb (length (laid xs)) _ (omega arith)))
]

-- the neighbours' bits and the sticking sides say the same as the gaps
pub join_rule : (s g t : ℕ) (st en : Bool) → (st ≡ true → s ≤ g) → (en ≡ true → g ≤ t)
    → (((ltb s g && leb g t) || st) && ((leb s g && ltb g t) || en)) ≡ ((ltb s g || st) && (ltb g t || en))
join_rule s g t st en hs he = grind (arith, nat_tests)

pub join_by_bits : JoinByBits
join_by_bits p l left right starts ends hs he n =
    bit-and n _ _ ∙ ap (λ z. z && bit n (bit_or (links_of right) ends)) (bit-or n (links_of left) starts)
    ∙ ap (λ z. (bit n (links_of left) || bit n starts) && z) (bit-or n (links_of right) ends) ∙ rw (hs n, he n)
