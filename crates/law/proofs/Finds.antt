-- Where ids and gaps fall among the faces, and which links hold them.
use Rattle.std.proofs.Common.{◌≡◌, ℕ, zero, suc, ◌+◌, ◌-◌, ◌/◌, ◌%◌, ◌^◌, ◌<◌, ◌≤◌, Bool, true, false, cond, ◌&&◌, eqb, ltb, leb, ◌⊎◌, List, [], ◌∷◌, ◌++◌, length, Some, None, Option, sym, refl, ap, ◌∙◌, subst, inl, inr, zero-add, add-one, arith}
use lib.Count.{ones, ones_step}
use Rattle.std.specs.List.{range_with_len}
use Rattle.std.proofs.lemmas.Nat.{shr-shr, mod_below}
use Rattle.std.proofs.lemmas.Bool.{cases_Bool, cases_lt, cases_eq, eq-eqb, eqb-true, leb-true, ltb-true, and_parts, both_ways}
use Rattle.law.specs.Plain.{Id, Entry, visible, many, seen, has_id, times, gap, entries_of, Source, place, within, Plain}
use Rattle.law.specs.Faces.{Face, entries, laid, bit, holds_at, held, Linked, Filled, Inside, Outside, Law}
use Rattle.law.specs.Finds.{In, IdsOnce, IdCounted, IdFound, IdPlaced, many_links, LinksCounted, FacesWhole, FacesLive, FacesLinked, GapSplit, GapAfter}
use Rattle.law.proofs.Basics.{all_right, many-append, many_like}
use Rattle.law.proofs.Bits.{below_two}
use Rattle.law.proofs.Ids.{same_from, apart_clock, times_client, times-before, times_past, times_in, place_left, place_right}
use Rattle.law.proofs.Laid.{laid-append, length-entries, length-laid, linked_right, inside}

pub counted : (F : ℕ → List Face) (p : Plain) → Law F p → (a : Id) (l : ℕ) → 0 < times a (p.lists l) → a.clock < p.counts a.client
counted F p law a l h = elim (cases_lt a.clock (p.counts a.client)) [
  | inl k ↦ k
  | inr k ↦ let z : times a (p.lists l) ≡ 0 = law.never a k l in absurd (omega arith)
]

pub ids_once : IdsOnce
ids_once F p l a law = elim (cases_lt a.clock (p.counts a.client)) [
  | inl h ↦
      let o = law.once a h in
      let z : times a (p.lists o.0) ≡ 1 = o.1 in
      elim (cases_eq l o.0) [
        | inl e ↦ subst (λ m. times a (p.lists m) ≤ 1) (sym e) (omega arith)
        | inr d ↦ let y : times a (p.lists l) ≡ 0 = o.2 l d in omega arith
      ]
  | inr h ↦ let z : times a (p.lists l) ≡ 0 = law.never a h l in omega arith
]

place_in : (a b : Id) (c g : Bool) (us : List ℕ) → a.client ≡ b.client → b.clock ≤ a.clock → a.clock < b.clock + length us
    → place a (entries_of b c g us) ≡ a.clock - b.clock
place_in a b c g [] h lo hi = absurd (omega arith)
place_in a b c g (u ∷ us) h lo hi = elim (cases_eq a.clock b.clock) [
  | inl e ↦ rw (same_from a b h e) (omega arith)
  | inr d ↦ rw (apart_clock a b d, place_in a (record { client = b.client; clock = suc b.clock }) c g us h (omega arith) (omega arith)) (omega arith)
]

-- the list around a face
around : (F : ℕ → List Face) (p : Plain) (l : ℕ) (xs : List Face) (f : Face) (ys : List Face) → Law F p → F l ≡ xs ++ f ∷ ys
    → p.lists l ≡ laid xs ++ (entries f ++ laid ys)
around F p l xs f ys law at = sym (law.holds l) ∙ ap laid at ∙ laid-append xs (f ∷ ys)

times_around : (F : ℕ → List Face) (p : Plain) (l : ℕ) (a : Id) (xs : List Face) (f : Face) (ys : List Face) → Law F p → F l ≡ xs ++ f ∷ ys
    → times a (p.lists l) ≡ times a (laid xs) + (times a (entries f) + times a (laid ys))
times_around F p l a xs f ys law at =
    ap (times a) (around F p l xs f ys law at) ∙ many-append (has_id a) (laid xs) (entries f ++ laid ys)
    ∙ ap (λ z. times a (laid xs) + z) (many-append (has_id a) (entries f) (laid ys))

pub id_counted : IdCounted
id_counted F p l a xs f ys law at h =
    let z : times a (entries f) ≡ 1 = times_in a f.first f.countable f.removed f.units h.0 h.1 h.2 in
    counted F p law a l (omega (arith, times_around F p l a xs f ys law at))

pub id_placed : IdPlaced
id_placed F p l a xs f ys law at h =
    let z : times a (entries f) ≡ 1 = times_in a f.first f.countable f.removed f.units h.0 h.1 h.2 in
    let one : times a (p.lists l) ≤ 1 = ids_once F p l a law in
    let none : times a (laid xs) ≡ 0 = omega (arith, times_around F p l a xs f ys law at) in
    let e : place a (entries f) ≡ a.clock - f.first.clock = place_in a f.first f.countable f.removed f.units h.0 h.1 h.2 in
    let s : place a (entries f) < length (entries f) = omega (arith, length-entries f.first f.countable f.removed f.units) in
    ap (place a) (around F p l xs f ys law at) ∙ place_right a (laid xs) (entries f ++ laid ys) none
    ∙ ap (λ y. length (laid xs) + y) (place_left a (entries f) (laid ys) s ∙ e)

in_face : (a : Id) (f : Face) → 0 < times a (entries f) → In a f
in_face a f h = elim (cases_eq a.client f.first.client) [
  | inr d ↦ let z : times a (entries f) ≡ 0 = times_client a f.first f.countable f.removed f.units d in absurd (omega arith)
  | inl e ↦ elim (cases_lt a.clock f.first.clock) [
    | inl k ↦ let z : times a (entries f) ≡ 0 = times-before a f.first f.countable f.removed f.units k in absurd (omega arith)
    | inr k ↦ elim (cases_lt a.clock (f.first.clock + length f.units)) [
      | inl j ↦ (e, k, j)
      | inr j ↦ let z : times a (entries f) ≡ 0 = times_past a f.first f.countable f.removed f.units j in absurd (omega arith)
    ]
  ]
]

find_face : (a : Id) (fs : List Face) → 0 < times a (laid fs) → (xs : List Face) × (f : Face) × (ys : List Face) × (fs ≡ xs ++ f ∷ ys) × In a f
find_face a [] h = absurd (omega arith)
find_face a (f ∷ fs) h =
    let z : times a (laid (f ∷ fs)) ≡ times a (entries f) + times a (laid fs) = many-append (has_id a) (entries f) (laid fs) in
    elim (cases_lt 0 (times a (entries f))) [
      | inl k ↦ ([], f, fs, refl, in_face a f k)
      | inr k ↦ let r = find_face a fs (omega arith) in (f ∷ r.0, r.1, r.2, ap (λ y. f ∷ y) r.3, r.4)
    ]

pub id_found : IdFound
id_found F p a law h =
    let o = law.once a h in
    let t : times a (laid (F o.0)) ≡ 1 = ap (times a) (law.holds o.0) ∙ o.1 in
    let r = find_face a (F o.0) (omega arith) in
    (o.0, r.0, r.1, r.2, r.3, r.4)

bit_more : (r m : ℕ) → r < 2 → r + m ≡ cond (eqb r 1) (suc m) m
bit_more r m h = elim (below_two r h) [ inl e ↦ rw e (zero-add m) | inr e ↦ rw e (omega arith) ]

-- the ones of a link set, from bit at on
ones_many : (k at x : ℕ) → x / 2 ^ at < 2 ^ k → ones (x / 2 ^ at) ≡ many (λ n. bit n x) (range_with_len at k)
unfolding bit
ones_many zero at x h = let z : x / 2 ^ at ≡ 0 = omega arith in rw z (unfold ones in refl)
ones_many (suc k) at x h =
    let e : x / 2 ^ at / 2 ≡ x / 2 ^ (at + 1) = shr-shr x at 1 in
    let s : x / 2 ^ (at + 1) < 2 ^ k = omega arith in
    ones_step (x / 2 ^ at) ∙ ap (λ y. x / 2 ^ at % 2 + ones y) e ∙ ap (λ y. x / 2 ^ at % 2 + y) (ones_many k (at + 1) x s)
    ∙ bit_more (x / 2 ^ at % 2) (many (λ n. bit n x) (range_with_len (at + 1) k)) (mod_below (x / 2 ^ at) 2 (omega arith))

pub links_counted : LinksCounted
unfolding many_links
links_counted F p l a xs f ys law at h small =
    let J : ℕ → ℕ → Bool = held p l in
    let lk : Linked J (0 + length (laid xs)) (f ∷ ys) = linked_right J 0 xs (f ∷ ys) (subst (λ z. Linked J 0 z) at (law.linked l)) in
    let pl : place a (p.lists l) ≡ length (laid xs) + (a.clock - f.first.clock) = id_placed F p l a xs f ys law at h in
    let one : f.links / 1 ≡ f.links = omega arith in
    let s : f.links / 1 < 2 ^ 64 = omega arith in
    ap ones (sym one) ∙ ones_many 64 0 f.links s
    ∙ many_like (λ n. bit n f.links) (λ n. J n (place a (p.lists l))) (range_with_len 0 64) (λ n. lk.0 n (place a (p.lists l)) (omega arith) (omega arith))

-- a face whose places all say the same of a range
whole_by : (S T at m : ℕ) (b : Bool) → 0 < m → ((q : ℕ) → at ≤ q → q < at + m → b ≡ (leb S q && ltb q T))
    → ((b ≡ true) × ((S ≤ at) × (at + m ≤ T))) ⊎ ((b ≡ false) × ((T ≤ at) ⊎ ((at + m ≤ S) ⊎ (T ≤ S))))
whole_by S T at m true pos h =
    let x : S ≤ at = leb-true S at (and_parts (leb S at) (ltb at T) (sym (h at (omega arith) (omega arith)))).0 in
    let y : at + m - 1 < T = ltb-true (at + m - 1) T (and_parts (leb S (at + m - 1)) (ltb (at + m - 1) T) (sym (h (at + m - 1) (omega arith) (omega arith)))).1 in
    inl (refl, (x, omega arith))
whole_by S T at m false pos h = inr (
  refl,
  elim (cases_lt at T) [
    | inr k ↦ inl k
    | inl k ↦ inr (elim (cases_lt S (at + m)) [
      | inr j ↦ inl j
      | inl j ↦ inr (elim (cases_lt S T) [
        | inr i ↦ i
        | inl i ↦ elim (cases_lt S at) [
          | inl o ↦ absurd (both_ways false refl (h at (omega arith) (omega arith) ∙ inside S T at (omega arith) k))
          | inr o ↦ absurd (both_ways false refl (h S (omega arith) (omega arith) ∙ inside S T S (omega arith) i))
        ]
      ])
    ])
  ],
)

pub faces_whole : FacesWhole
faces_whole F p n s xs f ys law live at =
    let J : ℕ → ℕ → Bool = held p s.list in
    let h : Linked J (0 + length (laid xs)) (f ∷ ys) = linked_right J 0 xs (f ∷ ys) (subst (λ z. Linked J 0 z) at (law.linked s.list)) in
    let fl : Filled (f ∷ ys) = all_right _ xs (f ∷ ys) (subst Filled at (law.filled s.list)) in
    let same : (q : ℕ) → J n q ≡ within s (p.lists s.list) q = λ q. rw (live, eq-eqb s.list s.list refl) in
    whole_by _ _ (length (laid xs)) (length f.units) (bit n f.links) fl.0 (λ q lo hi. h.0 n q (omega arith) (omega arith) ∙ same q)

live_by : (o : Option Source) (l q : ℕ) (X : List Entry) → holds_at o l X q ≡ true → (s : Source) × (o ≡ Some s) × (s.list ≡ l)
live_by None l q X h = absurd (both_ways false refl h)
live_by (Some s) l q X h = (s, refl, eqb-true s.list l (and_parts _ _ h).0)

pub faces_live : FacesLive
faces_live F p n l xs f ys law at set =
    let J : ℕ → ℕ → Bool = held p l in
    let h : Linked J (0 + length (laid xs)) (f ∷ ys) = linked_right J 0 xs (f ∷ ys) (subst (λ z. Linked J 0 z) at (law.linked l)) in
    let fl : Filled (f ∷ ys) = all_right _ xs (f ∷ ys) (subst Filled at (law.filled l)) in
    let pos : 0 < length f.units = fl.0 in
    live_by (p.links n) l (length (laid xs)) (p.lists l) (sym (h.0 n (length (laid xs)) (omega arith) (omega arith)) ∙ set)

apart : (s : Source) (X : List Entry) (at n : ℕ) → 0 < n → Inside s X at n → Outside s X at n → ⊥
apart s X at n pos h (inl k) = omega arith
apart s X at n pos h (inr (inl k)) = omega arith
apart s X at n pos h (inr (inr k)) = omega arith

pub faces_linked : FacesLinked
faces_linked F p l xs f ys law at n = (
  (λ set.
      let o = faces_live F p n l xs f ys law at set in (
        o.0,
        o.1,
        o.2,
        elim (faces_whole F p n o.0 xs f ys law o.1 (ap F o.2 ∙ at)) [
          | inl h ↦ subst (λ m. Inside o.0 (p.lists m) (length (laid xs)) (length f.units)) o.2 h.1
          | inr h ↦ absurd (both_ways (bit n f.links) h.0 set)
        ],
      )),
  (λ s live e ins. elim (faces_whole F p n s xs f ys law live (ap F e ∙ at)) [
    | inl h ↦ h.0
    | inr h ↦
        let fl : Filled (f ∷ ys) = all_right _ xs (f ∷ ys) (subst Filled at (law.filled l)) in
        let out : Outside s (p.lists l) (length (laid xs)) (length f.units) = subst (λ m. Outside s (p.lists m) (length (laid xs)) (length f.units)) e h.1 in
        absurd (apart s (p.lists l) (length (laid xs)) (length f.units) fl.0 ins out)
  ]),
)

pub gap_split : GapSplit
gap_split [] g h = inl ([], [], refl, omega arith)
gap_split (f ∷ fs) g h =
    let z : length (laid (f ∷ fs)) ≡ length f.units + length (laid fs) = length-laid f fs in
    elim (cases_lt g (length f.units)) [
      | inl k ↦ elim (cases_eq g 0) [
        | inl e ↦ inl ([], f ∷ fs, refl, sym e)
        | inr d ↦ inr ([], f, fs, g, refl, zero-add g, omega arith, k)
      ]
      | inr k ↦ elim (gap_split fs (g - length f.units) (omega arith)) [
        | inl r ↦ inl (f ∷ r.0, r.1, ap (λ y. f ∷ y) r.2, length-laid f r.0 ∙ omega (arith, r.3))
        | inr r ↦ inr (f ∷ r.0, r.1, r.2, r.3, ap (λ y. f ∷ y) r.4, omega (arith, length-laid f r.0, r.5), r.6, r.7)
      ]
    ]

gap_suc : (A : List Entry) (e : Entry) (B : List Entry) → visible e ≡ true → gap (suc (seen A)) (A ++ e ∷ B) ≡ suc (length A)
gap_suc [] e B h = rw h
gap_suc (x ∷ A) e B h = elim (cases_Bool (visible x)) [
  | inl b ↦ rw b (ap suc (gap_suc A e B h))
  | inr b ↦ rw b (ap suc (gap_suc A e B h))
]

pub gap_after : GapAfter
gap_after A e B h = rw (add-one (seen A), add-one (length A)) (gap_suc A e B h)
