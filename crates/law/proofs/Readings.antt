-- What is read of a range.
use Rattle.std.proofs.Common.{◌≡◌, ℕ, zero, suc, ◌+◌, ◌-◌, ◌<◌, ◌≤◌, max, Bool, true, false, cond, ◌&&◌, ltb, leb, List, [], ◌∷◌, ◌++◌, length, take, drop, filter, sym, refl, ap, ◌∙◌, inl, inr, add-zero, arith}
use Rattle.std.specs.List.{flat_map}
use Rattle.std.proofs.lemmas.List.Elements.{filter-append}
use Rattle.std.proofs.lemmas.Bool.{cases_Bool, cases_lt, eq-eqb, le-leb, lt-leb, lt-ltb, le-ltb}
use Rattle.law.specs.Plain.{Entry, visible, start_gap, end_gap, within, picked}
use Rattle.law.specs.Faces.{Face, entries, laid, bit, held, Linked}
use Rattle.law.specs.Readings.{RangeBetween, shown, ReadingShown, slice, slices, SlicesRange}
use Rattle.law.proofs.Laid.{length-entries}

picked-append : (I : ℕ → Bool) (at : ℕ) (xs ys : List Entry) → picked I at (xs ++ ys) ≡ picked I at xs ++ picked I (at + length xs) ys
picked-append I at [] ys = rw (add-zero at)
picked-append I at (e ∷ xs) ys =
    let z : at + suc (length xs) ≡ suc at + length xs = omega arith in
    elim (cases_Bool (I at)) [
      | inl b ↦ rw (b, z) (ap (λ r. e ∷ r) (picked-append I (suc at) xs ys))
      | inr b ↦ rw (b, z) (picked-append I (suc at) xs ys)
    ]

-- a face, all of whose places pass or fail alike
picked-alike : (I : ℕ → Bool) (b : Bool) (at : ℕ) (es : List Entry) → ((q : ℕ) → at ≤ q → q < at + length es → b ≡ I q) → picked I at es ≡ cond b es []
picked-alike I true at [] h = refl
picked-alike I false at [] h = refl
picked-alike I b at (e ∷ es) h =
    let r : picked I (suc at) es ≡ cond b es [] = picked-alike I b (suc at) es (λ q lo hi. h q (omega arith) (omega arith)) in
    rw (← h at (omega arith) (omega arith), r) (cond_cons b e es)
  where
    cond_cons : (b : Bool) (e : Entry) (es : List Entry) → cond b (e ∷ cond b es []) (cond b es []) ≡ cond b (e ∷ es) []
    cond_cons true e es = refl
    cond_cons false e es = refl

kept_cond : (b : Bool) (es : List Entry) → filter visible (cond b es []) ≡ cond b (filter visible es) []
kept_cond true es = refl
kept_cond false es = refl

shown-picked : (I : ℕ → ℕ → Bool) (n at : ℕ) (fs : List Face) → Linked I at fs
    → flat_map (shown n) fs ≡ filter visible (picked (I n) at (laid fs))
shown-picked I n at [] h = refl
shown-picked I n at (f ∷ fs) h =
    let z : length (entries f) ≡ length f.units = length-entries _ _ _ f.units in
    let rest : List Entry = picked (I n) (at + length f.units) (laid fs) in
    let alike : picked (I n) at (entries f) ≡ cond (bit n f.links) (entries f) []
    = picked-alike (I n) (bit n f.links) at (entries f) (λ q lo hi. h.0 n q lo (omega arith)) in
    let parts : picked (I n) at (laid (f ∷ fs)) ≡ cond (bit n f.links) (entries f) [] ++ rest
    = picked-append (I n) at (entries f) (laid fs) ∙ rw (alike, z) in
    sym (ap (filter visible) parts ∙ filter-append visible (cond (bit n f.links) (entries f) []) rest
    ∙ rw (kept_cond (bit n f.links) (entries f), ← shown-picked I n (at + length f.units) fs h.1))

picked_like : (I J : ℕ → Bool) (at : ℕ) (xs : List Entry) → ((q : ℕ) → I q ≡ J q) → picked I at xs ≡ picked J at xs
picked_like I J at [] h = refl
picked_like I J at (e ∷ xs) h = rw (h at, picked_like I J (suc at) xs h)

pub reading_shown : ReadingShown
reading_shown F p n k s law live =
    let J : ℕ → ℕ → Bool = held p s.list in
    let same : (q : ℕ) → J n q ≡ within s (p.lists s.list) q = λ q. rw (live, eq-eqb s.list s.list refl) in
    ap (drop k) (shown-picked J n 0 (F s.list) (law.linked s.list)
    ∙ ap (λ z. filter visible (picked (J n) 0 z)) (law.holds s.list)
    ∙ ap (filter visible) (picked_like (J n) (within s (p.lists s.list)) 0 (p.lists s.list) same))

nil_part : (n m : ℕ) → ◌≡◌ {A = List Entry} [] (take n (drop m []))
nil_part zero m = refl
nil_part (suc n) zero = refl
nil_part (suc n) (suc m) = refl

picked-range : (S T at : ℕ) (xs : List Entry) → picked (λ q. leb S q && ltb q T) at xs ≡ take (T - max S at) (drop (S - at) xs)
picked-range S T at [] = nil_part (T - max S at) (S - at)
picked-range S T at (e ∷ xs) = elim (cases_lt at S) [
  | inl h ↦
      let a : S - at ≡ suc (S - suc at) = omega arith in
      let b : max S at ≡ max S (suc at) = omega arith in
      rw (lt-leb S at h, a, b) (picked-range S T (suc at) xs)
  | inr h ↦ elim (cases_lt at T) [
    | inl k ↦
        let a : S - at ≡ 0 = omega arith in
        let b : T - max S at ≡ suc (T - max S (suc at)) = omega arith in
        let c : S - suc at ≡ 0 = omega arith in
        rw (le-leb S at h, lt-ltb at T k, a, b) (ap (λ r. e ∷ r) (picked-range S T (suc at) xs ∙ rw c))
    | inr k ↦
        let b : T - max S at ≡ 0 = omega arith in
        let d : T - max S (suc at) ≡ 0 = omega arith in
        rw (le-leb S at h, le-ltb at T k, b) (picked-range S T (suc at) xs ∙ rw d)
  ]
]

pub range_between : RangeBetween
range_between s X = let S : ℕ = start_gap s.start X in let z : max S 0 ≡ S = omega arith in let y : S - 0 ≡ S = omega arith in
    picked-range S (end_gap s.end X) 0 X ∙ rw (z, y)

slices-picked : (S T at : ℕ) (fs : List Face) → slices S T at fs ≡ picked (λ q. leb S q && ltb q T) at (laid fs)
slices-picked S T at [] = refl
slices-picked S T at (f ∷ fs) =
    let I : ℕ → Bool = λ q. leb S q && ltb q T in
    ap (λ r. slice S T at (entries f) ++ r) (slices-picked S T (at + length f.units) fs)
    ∙ ap (λ r. r ++ picked I (at + length f.units) (laid fs)) (sym (picked-range S T at (entries f)))
    ∙ ap (λ n. picked I at (entries f) ++ picked I (at + n) (laid fs)) (sym (length-entries _ _ _ f.units))
    ∙ sym (picked-append I at (entries f) (laid fs))

pub slices_range : SlicesRange
slices_range s fs = slices-picked (start_gap s.start (laid fs)) (end_gap s.end (laid fs)) 0 fs
