-- Faces laid out as entries, their links by place, and what of a source hangs on where ids stand.
use Rattle.std.proofs.Common.{◌≡◌, ℕ, zero, suc, ◌+◌, ◌-◌, ◌<◌, ◌≤◌, Bool, true, false, cond, not, ◌&&◌, ltb, leb, List, [], ◌∷◌, ◌++◌, map, length, take, drop, Some, None, Option, sym, refl, ap, ◌∙◌, subst, inl, inr, append_assoc, add-zero, arith, length-append}
use mathlib.Core.Bool.{and-false}
use Rattle.std.proofs.ByRecursion.{All-append, All-map, All-weaker}
use Rattle.std.proofs.lemmas.Bool.{cases_Bool, cases_lt, le-leb, lt-leb, lt-ltb, le-ltb}
use Rattle.law.specs.Plain.{Id, Entry, seen, entries_of, place, Side, Source, start_gap, end_gap}
use Rattle.law.specs.Plain.Side.{Open, Before, After}
use Rattle.law.specs.Faces.{Face, entries, laid, bit, holds_at, Linked, Filled, SideStands}
use Rattle.law.proofs.Basics.{all_left, all_right}

-- the entries of faces
pub laid-append : (xs ys : List Face) → laid (xs ++ ys) ≡ laid xs ++ laid ys
laid-append [] ys = refl
laid-append (f ∷ fs) ys = ap (λ r. entries f ++ r) (laid-append fs ys) ∙ sym (append_assoc (entries f) (laid fs) (laid ys))

pub length-entries : (a : Id) (c g : Bool) (us : List ℕ) → length (entries_of a c g us) ≡ length us
length-entries a c g [] = refl
length-entries a c g (u ∷ us) = ap suc (length-entries _ c g us)

pub seen-entries : (a : Id) (c g : Bool) (us : List ℕ) → seen (entries_of a c g us) ≡ cond (c && not g) (length us) 0
seen-entries a c g us = elim (cases_Bool (c && not g)) [ inl b ↦ rw b (all a us b) | inr b ↦ rw b (none a us b) ]
  where
    all : (a : Id) (us : List ℕ) → (c && not g) ≡ true → seen (entries_of a c g us) ≡ length us
    all a [] b = refl
    all a (u ∷ us) b = rw b (ap suc (all _ us b))

    none : (a : Id) (us : List ℕ) → (c && not g) ≡ false → seen (entries_of a c g us) ≡ 0
    none a [] b = refl
    none a (u ∷ us) b = rw b (none _ us b)

pub length-laid : (f : Face) (fs : List Face) → length (laid (f ∷ fs)) ≡ length f.units + length (laid fs)
length-laid f fs = length-append (entries f) (laid fs) ∙ ap (λ x. x + length (laid fs)) (length-entries _ _ _ f.units)

-- a cut of a run of entries
pub entries-cut : (k : ℕ) (a : Id) (c g : Bool) (us : List ℕ)
    → entries_of a c g (take k us) ++ entries_of (record { client = a.client; clock = a.clock + k }) c g (drop k us) ≡ entries_of a c g us
entries-cut zero a c g us = rw add-zero
entries-cut (suc k) a c g [] = refl
entries-cut (suc k) a c g (u ∷ us) =
    let e : a.clock + suc k ≡ suc a.clock + k = omega arith in
    rw e (ap (λ r. record { id = a; unit = u; countable = c; removed = g } ∷ r) (entries-cut k _ c g us))

-- links by place, of faces in parts
pub linked_join : (I : ℕ → ℕ → Bool) (at : ℕ) (xs ys : List Face) → Linked I at xs → Linked I (at + length (laid xs)) ys → Linked I at (xs ++ ys)
linked_join I at [] ys h k = rw add-zero at k
linked_join I at (f ∷ fs) ys h k =
    let e : at + length (laid (f ∷ fs)) ≡ at + length f.units + length (laid fs) = omega (arith, length-laid f fs) in
    (h.0, linked_join I (at + length f.units) fs ys h.1 (subst (λ x. Linked I x ys) e k))

pub linked_left : (I : ℕ → ℕ → Bool) (at : ℕ) (xs ys : List Face) → Linked I at (xs ++ ys) → Linked I at xs
linked_left I at [] ys h = tt
linked_left I at (f ∷ fs) ys h = (h.0, linked_left I (at + length f.units) fs ys h.1)

pub linked_right : (I : ℕ → ℕ → Bool) (at : ℕ) (xs ys : List Face) → Linked I at (xs ++ ys) → Linked I (at + length (laid xs)) ys
linked_right I at [] ys h = rw add-zero h
linked_right I at (f ∷ fs) ys h =
    let e : at + length (laid (f ∷ fs)) ≡ at + length f.units + length (laid fs) = omega (arith, length-laid f fs) in
    subst (λ x. Linked I x ys) (sym e) (linked_right I (at + length f.units) fs ys h.1)

-- the same faces, d places on
pub linked_move : (I J : ℕ → ℕ → Bool) (at d : ℕ) (fs : List Face)
    → ((n q : ℕ) → at ≤ q → q < at + length (laid fs) → I n q ≡ J n (q + d)) → Linked I at fs → Linked J (at + d) fs
linked_move I J at d [] same h = tt
linked_move I J at d (f ∷ fs) same h =
    let e : at + length f.units + d ≡ at + d + length f.units = omega arith in
    let s : length (laid (f ∷ fs)) ≡ length f.units + length (laid fs) = length-laid f fs in (
      (λ n q lo hi.
          let b : q - d + d ≡ q = omega arith in
          h.0 n (q - d) (omega arith) (omega arith) ∙ same n (q - d) (omega arith) (omega arith) ∙ ap (λ x. J n x) b),
      subst (λ x. Linked J x fs) e (linked_move I J (at + length f.units) d fs (λ n q lo hi. same n q (omega arith) (omega arith)) h.1),
    )

-- faces changed one by one
pub linked_map : (I J : ℕ → ℕ → Bool) (g : Face → Face) → ((f : Face) → length (g f).units ≡ length f.units) → (at : ℕ) (fs : List Face)
    → ((n q : ℕ) → at ≤ q → q < at + length (laid fs) → (f : Face) → bit n f.links ≡ I n q → bit n (g f).links ≡ J n q)
    → Linked I at fs → Linked J at (map g fs)
linked_map I J g long at [] turn h = tt
linked_map I J g long at (f ∷ fs) turn h =
    let s : length (laid (f ∷ fs)) ≡ length f.units + length (laid fs) = length-laid f fs in
    let z : length (g f).units ≡ length f.units = long f in (
      (λ n q lo hi. turn n q lo (omega arith) f (h.0 n q lo (omega arith))),
      subst (λ x. Linked J (at + x) (map g fs)) (sym z)
          (linked_map I J g long (at + length f.units) fs (λ n q lo hi. turn n q (omega arith) (omega arith)) h.1),
    )

pub linked_on : (I J : ℕ → ℕ → Bool) (at : ℕ) (fs : List Face)
    → ((n q : ℕ) → at ≤ q → q < at + length (laid fs) → I n q ≡ J n q) → Linked I at fs → Linked J at fs
linked_on I J at fs same h = rw add-zero at (linked_move I J at 0 fs (λ n q lo hi. rw add-zero (same n q lo hi)) h)

pub long_map : (g : Face → Face) → ((f : Face) → length (g f).units ≡ length f.units) → (ms : List Face) → length (laid (map g ms)) ≡ length (laid ms)
long_map g long [] = refl
long_map g long (f ∷ fs) = omega (arith, length-laid (g f) (map g fs), length-laid f fs, long f, long_map g long fs)

-- faces changed in nothing but their link sets
pub laid-map : (g : Face → Face) → ((f : Face) → entries (g f) ≡ entries f) → (ms : List Face) → laid (map g ms) ≡ laid ms
laid-map g same [] = refl
laid-map g same (f ∷ fs) = rw (same f, laid-map g same fs)

pub laid-three : (xs ms ys : List Face) → laid (xs ++ (ms ++ ys)) ≡ laid xs ++ (laid ms ++ laid ys)
laid-three xs ms ys = laid-append xs (ms ++ ys) ∙ ap (λ r. laid xs ++ r) (laid-append ms ys)

-- faces whose middle part is changed one by one
pub filled_three : (g : Face → Face) → ((f : Face) → length (g f).units ≡ length f.units) → (xs ms ys : List Face)
    → Filled (xs ++ (ms ++ ys)) → Filled (xs ++ (map g ms ++ ys))
filled_three g long xs ms ys h =
    let r : Filled (ms ++ ys) = all_right _ xs _ h in
    let m : Filled (map g ms) = All-map _ g ms (All-weaker _ (λ f. 0 < length (g f).units) (λ f k. rw (long f) k) ms (all_left _ ms ys r)) in
    All-append _ xs _ (all_left _ xs _ h) (All-append _ (map g ms) ys m (all_right _ ms ys r))

pub linked_three : (I J : ℕ → ℕ → Bool) (g : Face → Face) → ((f : Face) → length (g f).units ≡ length f.units) → (xs ms ys : List Face)
    → ((n q : ℕ) → q < length (laid xs) → I n q ≡ J n q)
    → ((n q : ℕ) → length (laid xs) ≤ q → q < length (laid xs) + length (laid ms) → (f : Face) → bit n f.links ≡ I n q → bit n (g f).links ≡ J n q)
    → ((n q : ℕ) → length (laid xs) + length (laid ms) ≤ q → I n q ≡ J n q)
    → Linked I 0 (xs ++ (ms ++ ys)) → Linked J 0 (xs ++ (map g ms ++ ys))
linked_three I J g long xs ms ys before turn behind h =
    let r : Linked I (0 + length (laid xs)) (ms ++ ys) = linked_right I 0 xs _ h in
    let z : length (laid (map g ms)) ≡ length (laid ms) = long_map g long ms in
    linked_join J 0 xs _
    (linked_on I J 0 xs (λ n q lo hi. before n q (omega arith)) (linked_left I 0 xs _ h))
    (linked_join J _ (map g ms) ys
    (linked_map I J g long _ ms (λ n q lo hi. turn n q (omega arith) (omega arith)) (linked_left I _ ms ys r))
    (subst (λ k. Linked J (0 + length (laid xs) + k) ys) (sym z)
    (linked_on I J _ ys (λ n q lo hi. behind n q (omega arith)) (linked_right I _ ms ys r))))

-- a source's gaps hang on where its ids stand and on the length
start_like : (s : Side) (X Y : List Entry) → ((a : Id) → place a X ≡ place a Y) → start_gap s X ≡ start_gap s Y
start_like Open X Y h = refl
start_like (Before a) X Y h = h a
start_like (After a) X Y h = ap suc (h a)

end_like : (s : Side) (X Y : List Entry) → ((a : Id) → place a X ≡ place a Y) → length X ≡ length Y → end_gap s X ≡ end_gap s Y
end_like Open X Y h k = k
end_like (Before a) X Y h k = h a
end_like (After a) X Y h k = ap suc (h a)

pub held_like : (o : Option Source) (l : ℕ) (X Y : List Entry) → ((a : Id) → place a X ≡ place a Y) → length X ≡ length Y
    → (q : ℕ) → holds_at o l X q ≡ holds_at o l Y q
held_like None l X Y h k q = refl
held_like (Some s) l X Y h k q = rw (start_like s.start X Y h, end_like s.end X Y h k)

pub anchor_like : (s : Side) (X Y : List Entry) → ((a : Id) → place a X ≡ place a Y) → length X ≡ length Y → SideStands s Y → SideStands s X
anchor_like Open X Y h k z = tt
anchor_like (Before a) X Y h k z = rw (h a, k) z
anchor_like (After a) X Y h k z = rw (h a, k) z

-- a place and two gaps
pub out_left : (a b q : ℕ) → q < a → (leb a q && ltb q b) ≡ false
out_left a b q h = rw (lt-leb a q h)

pub out_right : (a b q : ℕ) → b ≤ q → (leb a q && ltb q b) ≡ false
out_right a b q h = rw (le-ltb q b h) (and-false (leb a q))

pub inside : (a b q : ℕ) → a ≤ q → q < b → (leb a q && ltb q b) ≡ true
inside a b q h k = rw (le-leb a q h, lt-ltb q b k)

pub crossed : (a b q : ℕ) → b ≤ a → (leb a q && ltb q b) ≡ false
crossed a b q h = elim (cases_lt q a) [ inl k ↦ out_left a b q k | inr k ↦ out_right a b q (omega arith) ]
