-- A quote reads what lies between its bounds.
use Rattle.std.proofs.Common.{◌≡◌, ℕ, zero, suc, ◌+◌, ◌-◌, ◌<◌, ◌≤◌, true, ◌↔◌, List, [], ◌∷◌, length, take, drop, Some, None, filter, Option, sym, refl, ap, ◌∙◌, subst, inl, inr, zero-add, add-one, arith}
use Rattle.std.specs.List.{slice_get}
use Rattle.std.specs.Option.{option_map}
use Rattle.std.proofs.lemmas.List.{take_all}
use Rattle.std.proofs.lemmas.Option.{slice_get_past}
use Rattle.std.proofs.lemmas.Bool.{cases_Bool, cases_lt}
use Rattle.std.specs.declared.ops.Bound.{Bound}
use Rattle.std.specs.declared.ops.Bound.TheVariants.{Included, Excluded, Unbounded}
use Rattle.law.specs.Plain.{Id, same_id, Entry, visible, seen, has_id, times, gap, Side, place, start_gap, end_gap}
use Rattle.law.specs.Plain.Side.{Open, Before, After}
use Rattle.law.specs.Quotes.{quote_start, quote_end, low, high, QuoteOutside, QuoteReads}
use Rattle.law.proofs.Basics.{none_some, some_some}
use Rattle.law.proofs.Ids.{same_from}
use Rattle.law.proofs.Readings.{range_between}

same_self : (a : Id) → same_id a a ≡ true
same_self a = same_from a a refl refl

nth_times : (n : ℕ) (e : Entry) (X : List Entry) → slice_get X n ≡ Some e → 0 < times e.id X
nth_times n e [] h = none_some e _ h
nth_times zero e (x ∷ xs) h =
    let z : x ≡ e = some_some _ _ h in
    subst (λ y. 0 < times e.id (y ∷ xs)) (sym z) (rw (same_self e.id) (omega arith))
nth_times (suc n) e (x ∷ xs) h =
    let r : 0 < times e.id xs = nth_times n e xs h in
    elim (cases_Bool (has_id e.id x)) [ inl b ↦ rw b (omega arith) | inr b ↦ rw b r ]

-- the entry at a place whose id stands once
nth_place : (n : ℕ) (e : Entry) (X : List Entry) → times e.id X ≤ 1 → slice_get X n ≡ Some e → place e.id X ≡ n
nth_place n e [] one h = none_some e _ h
nth_place zero e (x ∷ xs) one h =
    let z : x ≡ e = some_some _ _ h in
    subst (λ y. place e.id (y ∷ xs) ≡ 0) (sym z) (rw (same_self e.id))
nth_place (suc n) e (x ∷ xs) one h =
    let r : 0 < times e.id xs = nth_times n e xs h in
    elim (cases_Bool (has_id e.id x)) [
      | inl b ↦ let z : suc (times e.id xs) ≤ 1 = rw b at one in absurd (omega arith)
      | inr b ↦ let z : times e.id xs ≤ 1 = rw b at one in rw b (ap suc (nth_place n e xs z h))
    ]

seen-gap : (i : ℕ) (X : List Entry) → i ≤ seen X → seen (take (gap i X) X) ≡ i
seen-gap zero X h = refl
seen-gap (suc i) [] h = absurd (omega arith)
seen-gap (suc i) (e ∷ xs) h = elim (cases_Bool (visible e)) [
  | inl b ↦ let z : suc i ≤ suc (seen xs) = rw b at h in rw b (ap suc (seen-gap i xs (omega arith)))
  | inr b ↦ let z : suc i ≤ seen xs = rw b at h in rw b (seen-gap (suc i) xs z)
]

gap_far : (i : ℕ) (X : List Entry) → seen X < i → gap i X ≡ length X
gap_far zero X h = absurd (omega arith)
gap_far (suc i) [] h = refl
gap_far (suc i) (e ∷ xs) h = elim (cases_Bool (visible e)) [
  | inl b ↦ let z : suc (seen xs) < suc i = rw b at h in rw b (ap suc (gap_far i xs (omega arith)))
  | inr b ↦ let z : seen xs < suc i = rw b at h in rw b (ap suc (gap_far (suc i) xs z))
]

nth_none : (n : ℕ) (X : List Entry) → slice_get X n ≡ None → length X ≤ n
nth_none n [] h = omega arith
nth_none zero (e ∷ xs) h = none_some e _ (sym h)
nth_none (suc n) (e ∷ xs) h = let r : length xs ≤ n = nth_none n xs h in omega arith

mapped_none : (f : Entry → Side) (o : Option Entry) → option_map f o ≡ None → o ≡ None
mapped_none f None h = refl
mapped_none f (Some e) h = none_some (f e) _ (sym h)

-- a bound gives no side just where its entry is missing
no_side : (f : Entry → Side) (X : List Entry) (n : ℕ) → (option_map f (slice_get X n) ≡ None) ↔ (length X ≤ n)
no_side f X n = ((λ h. nth_none n X (mapped_none f (slice_get X n) h)), (λ h. ap (option_map f) (slice_get_past X n h)))

kept_seen : (X : List Entry) → length (filter visible X) ≡ seen X
kept_seen [] = refl
kept_seen (e ∷ xs) = elim (cases_Bool (visible e)) [ inl b ↦ rw b (ap suc (kept_seen xs)) | inr b ↦ rw b (kept_seen xs) ]

no_visible : (f : Entry → Side) (X : List Entry) (n : ℕ) → (option_map f (slice_get (filter visible X) n) ≡ None) ↔ (seen X ≤ n)
no_visible f X n = subst (λ k. (option_map f (slice_get (filter visible X) n) ≡ None) ↔ (k ≤ n)) (kept_seen X) (no_side f (filter visible X) n)

pub quote_outside : QuoteOutside
quote_outside xs i = (
  no_side (λ e. Before e.id) xs (gap i xs),
  no_visible (λ e. After e.id) xs i,
  no_visible (λ e. After e.id) xs i,
  no_visible (λ e. Before e.id) xs i,
)

-- visible entry i stands at some place, with i visible ones before it
record Stands (i : ℕ) (e : Entry) (X : List Entry) : Type 0 where
  pub at : ℕ
  pub there : slice_get X at ≡ Some e
  pub before : seen (take at X) ≡ i
  pub with : seen (take (suc at) X) ≡ suc i

stands : (i : ℕ) (e : Entry) (X : List Entry) → slice_get (filter visible X) i ≡ Some e → Stands i e X
stands i e [] h = none_some e _ h
stands zero e (x ∷ xs) h = elim (cases_Bool (visible x)) [
  | inl b ↦ record { at = 0; there = rw b at h; before = refl; with = rw b }
  | inr b ↦
      let s = stands zero e xs (rw b at h) in
      record { at = suc s.at; there = s.there; before = rw b s.before; with = rw b s.with }
]
stands (suc i) e (x ∷ xs) h = elim (cases_Bool (visible x)) [
  | inl b ↦
      let s = stands i e xs (rw b at h) in
      record { at = suc s.at; there = s.there; before = rw b (ap suc s.before); with = rw b (ap suc s.with) }
  | inr b ↦
      let s = stands (suc i) e xs (rw b at h) in
      record { at = suc s.at; there = s.there; before = rw b s.before; with = rw b s.with }
]

kept_take : (n : ℕ) (X : List Entry) → filter visible (take n X) ≡ take (seen (take n X)) (filter visible X)
kept_take zero X = refl
kept_take (suc n) [] = refl
kept_take (suc n) (e ∷ xs) = elim (cases_Bool (visible e)) [
  | inl b ↦ rw b (ap (λ r. e ∷ r) (kept_take n xs))
  | inr b ↦ rw b (kept_take n xs)
]

kept_drop : (n : ℕ) (X : List Entry) → filter visible (drop n X) ≡ drop (seen (take n X)) (filter visible X)
kept_drop zero X = refl
kept_drop (suc n) [] = refl
kept_drop (suc n) (e ∷ xs) = elim (cases_Bool (visible e)) [
  | inl b ↦ rw b (kept_drop n xs)
  | inr b ↦ rw b (kept_drop n xs)
]

nil_take : (n : ℕ) → take {A = Entry} n [] ≡ []
nil_take zero = refl
nil_take (suc n) = refl

seen_parts : (n m : ℕ) (X : List Entry) → seen (take (n + m) X) ≡ seen (take n X) + seen (take m (drop n X))
seen_parts zero m X = rw (zero-add m, zero-add (seen (take m X)))
seen_parts (suc n) m [] = rw (nil_take (suc n + m), nil_take m)
seen_parts (suc n) m (e ∷ xs) =
    let z : suc n + m ≡ suc (n + m) = omega arith in
    elim (cases_Bool (visible e)) [
      | inl b ↦ rw (z, b, seen_parts n m xs) (omega arith)
      | inr b ↦ rw (z, b) (seen_parts n m xs)
    ]

included_start : (i : ℕ) (e : Entry) (X : List Entry) → times e.id X ≤ 1 → slice_get X (gap i X) ≡ Some e → seen (take (place e.id X) X) ≡ i
included_start i e X one h = elim (cases_lt (seen X) i) [
  | inl k ↦
      let g : gap i X ≡ length X = gap_far i X k in
      none_some e _ (sym (slice_get_past X (gap i X) (omega arith)) ∙ h)
  | inr k ↦ ap (λ n. seen (take n X)) (nth_place (gap i X) e X one h) ∙ seen-gap i X k
]

at_visible : (i : ℕ) (e : Entry) (X : List Entry) → times e.id X ≤ 1 → slice_get (filter visible X) i ≡ Some e
    → (seen (take (place e.id X) X) ≡ i) × (seen (take (suc (place e.id X)) X) ≡ i + 1)
at_visible i e X one h =
    let s : Stands i e X = stands i e X h in
    let z : place e.id X ≡ s.at = nth_place s.at e X one s.there in
    (ap (λ n. seen (take n X)) z ∙ s.before, ap (λ n. seen (take (suc n) X)) z ∙ s.with ∙ sym (add-one i))

mapped_some : (f : Entry → Side) (o : Option Entry) (S : Side) → option_map f o ≡ Some S → (e : Entry) × (o ≡ Some e) × (f e ≡ S)
mapped_some f None S h = none_some S _ h
mapped_some f (Some e) S h = (e, refl, some_some (f e) S h)

start_low : (b : Bound ℕ) (S : Side) (X : List Entry) → ((a : Id) → times a X ≤ 1) → quote_start b X ≡ Some S → seen (take (start_gap S X) X) ≡ low b
start_low (Included i) S X one h =
    let m = mapped_some (λ e. Before e.id) (slice_get X (gap i X)) S h in
    subst (λ z. seen (take (start_gap z X) X) ≡ i) m.2 (included_start i m.0 X (one m.0.id) m.1)
start_low (Excluded i) S X one h =
    let m = mapped_some (λ e. After e.id) (slice_get (filter visible X) i) S h in
    subst (λ z. seen (take (start_gap z X) X) ≡ i + 1) m.2 (at_visible i m.0 X (one m.0.id) m.1).1
start_low Unbounded S X one h = subst (λ z. seen (take (start_gap z X) X) ≡ 0) (some_some Open S h) refl

end_high : (c : Bound ℕ) (S : Side) (X : List Entry) → ((a : Id) → times a X ≤ 1) → quote_end c X ≡ Some S → seen (take (end_gap S X) X) ≡ high c (seen X)
end_high (Included j) S X one h =
    let m = mapped_some (λ e. After e.id) (slice_get (filter visible X) j) S h in
    subst (λ z. seen (take (end_gap z X) X) ≡ j + 1) m.2 (at_visible j m.0 X (one m.0.id) m.1).1
end_high (Excluded j) S X one h =
    let m = mapped_some (λ e. Before e.id) (slice_get (filter visible X) j) S h in
    subst (λ z. seen (take (end_gap z X) X) ≡ j) m.2 (at_visible j m.0 X (one m.0.id) m.1).0
end_high Unbounded S X one h = subst (λ z. seen (take (end_gap z X) X) ≡ seen X) (some_some Open S h) (ap seen (take_all (length X) X (omega arith)))

between : (S T lo hi : ℕ) (X : List Entry) → seen (take S X) ≡ lo → seen (take T X) ≡ hi
    → filter visible (take (T - S) (drop S X)) ≡ take (hi - lo) (drop lo (filter visible X))
between S T lo hi X hs ht = elim (cases_lt T S) [
  | inl k ↦
      let z : T - S ≡ 0 = omega arith in
      let e : T + (S - T) ≡ S = omega arith in
      let p : seen (take (T + (S - T)) X) ≡ seen (take T X) + seen (take (S - T) (drop T X)) = seen_parts T (S - T) X in
      let q : seen (take (T + (S - T)) X) ≡ seen (take S X) = ap (λ n. seen (take n X)) e in
      let y : hi - lo ≡ 0 = omega arith in
      rw (z, y)
  | inr k ↦
      let e : S + (T - S) ≡ T = omega arith in
      let p : seen (take (S + (T - S)) X) ≡ seen (take S X) + seen (take (T - S) (drop S X)) = seen_parts S (T - S) X in
      let q : seen (take (S + (T - S)) X) ≡ seen (take T X) = ap (λ n. seen (take n X)) e in
      let y : seen (take (T - S) (drop S X)) ≡ hi - lo = omega arith in
      kept_take (T - S) (drop S X) ∙ ap (λ n. take n (filter visible (drop S X))) y
      ∙ ap (take (hi - lo)) (kept_drop S X ∙ ap (λ n. drop n (filter visible X)) hs)
]

pub quote_reads : QuoteReads
quote_reads b c s X one hs he =
    ap (filter visible) (range_between s X)
    ∙ between (start_gap s.start X) (end_gap s.end X) (low b) (high c (seen X)) X (start_low b s.start X one hs) (end_high c s.end X one he)
