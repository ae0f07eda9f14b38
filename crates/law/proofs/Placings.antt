-- Placing and withdrawing keep the law.
use Rattle.std.proofs.Common.{◌≡◌, ℕ, ◌+◌, ◌-◌, ◌^◌, ◌<◌, ◌≤◌, Bool, true, false, ◌&&◌, ◌||◌, eqb, List, ◌++◌, map, length, Some, None, Option, sym, refl, ap, ◌∙◌, subst, inl, inr, arith, length-append}
use mathlib.Core.Bool.{and-false, and-true, or-false}
use lib.Bits.{bit_and}
use Rattle.std.proofs.ByRecursion.{All-map}
use Rattle.std.proofs.lemmas.Bool.{cases_lt, cases_eq, eq-eqb, ne_eqb}
use Rattle.law.specs.Plain.{Entry, put, Source, start_gap, end_gap, within, Plain, after}
use Rattle.law.specs.Plain.Deed.{Placed, Withdrawn}
use Rattle.law.specs.Faces.{Face, laid, bit, holds_at, held, Linked, Filled, Anchored, Law}
use Rattle.law.specs.Changes.{marked, Placeable, PlaceKeeps, PlaceEmptyKeeps, unmarked, WithdrawKeeps}
use Rattle.law.proofs.Basics.{put_each, none_some, some_some}
use Rattle.law.proofs.Bits.{bit-or, bit-and, bit-one, bit_others}
use Rattle.law.proofs.Laid.{laid-append, laid-three, laid-map, linked_on, linked_map, filled_three, linked_three, out_left, out_right, inside, crossed}

-- no live link has a number from 64 on
high : (o : Option Source) (k l q : ℕ) (X : List Entry) → ((s : Source) → o ≡ Some s → k < 64) → 64 ≤ k → holds_at o l X q ≡ false
high None k l q X few h = refl
high (Some s) k l q X few h = let z : k < 64 = few s refl in absurd (omega arith)

pub withdraw_keeps : WithdrawKeeps
withdraw_keeps F p n law hn =
    let p' : Plain = after p (Withdrawn n) in
    let turn : (m k q x : ℕ) → bit k x ≡ held p m k q → bit k (bit_and x (2 ^ 64 - 1 - 2 ^ n)) ≡ held p' m k q
    = λ m k q x h. elim (cases_eq k n) [
      | inl e ↦ bit-and k x _ ∙ ap (λ y. bit k x && y) (bit_others k n (omega arith) hn) ∙ rw (eq-eqb k n e) (and-false (bit k x))
      | inr e ↦ elim (cases_lt k 64) [
        | inl s ↦ bit-and k x _ ∙ ap (λ y. bit k x && y) (bit_others k n s hn) ∙ rw (ne_eqb k n e) (and-true (bit k x) ∙ h)
        | inr s ↦
            let z : held p m k q ≡ false = high (p.links k) k m q (p.lists m) (law.few k) s in
            bit-and k x _ ∙ ap (λ y. y && bit k (2 ^ 64 - 1 - 2 ^ n)) (h ∙ z) ∙ rw (ne_eqb k n e) (sym z)
      ]
    ] in
    record {
      holds = λ m. laid-map (unmarked n) (λ f. refl) (F m) ∙ law.holds m;
      filled = λ m. All-map _ (unmarked n) (F m) (law.filled m);
      linked = λ m. linked_map (held p m) (held p' m) (unmarked n) (λ f. refl) 0 (F m)
          (λ k q lo hi f h. turn m k q f.links h) (law.linked m);
      anchored = put_each (λ k o. (s : Source) → o ≡ Some s → Anchored s (p.lists s.list)) n None p.links
          (λ s e. none_some s _ e) (λ k _. law.anchored k);
      few = put_each (λ k o. (s : Source) → o ≡ Some s → k < 64) n None p.links (λ s e. none_some s _ e) (λ k _. law.few k);
      once = law.once;
      never = law.never;
      clients = law.clients;
    }

-- what a placing changes of where the links are
module _ (p : Plain) (n : ℕ) (s : Source) (none : p.links n ≡ None) where
  placed_other : (m : ℕ) → (m ≡ s.list → ⊥) → (q k : ℕ) → held p m k q ≡ held (after p (Placed n s)) m k q
  placed_other m d q = put_each (λ k o. held p m k q ≡ holds_at o m (p.lists m) q) n (Some s) p.links
      (rw (none, ne_eqb s.list m (λ e. d (sym e)))) (λ k _. refl)

  placed_here : (q : ℕ) (b : Bool) → within s (p.lists s.list) q ≡ b → (k : ℕ)
      → held (after p (Placed n s)) s.list k q ≡ (held p s.list k q || (eqb k n && b))
  placed_here q b h k = elim (cases_eq k n) [
    | inl e ↦ rw (eq-eqb k n e, e, none, eq-eqb s.list s.list refl) h
    | inr e ↦ rw (ne_eqb k n e) (sym (or-false (held p s.list k q)))
  ]

-- the part of the law that speaks of links alone
placed_anchored : (p : Plain) (n : ℕ) (s : Source) (F : ℕ → List Face) → Law F p → Placeable p n s
    → (k : ℕ) (t : Source) → put n (Some s) p.links k ≡ Some t → Anchored t (p.lists t.list)
placed_anchored p n s F law able =
    put_each (λ k o. (t : Source) → o ≡ Some t → Anchored t (p.lists t.list)) n (Some s) p.links
    (λ t e. subst (λ z. Anchored z (p.lists z.list)) (some_some s t e) able.anchored)
    (λ k _. law.anchored k)

placed_few : (p : Plain) (n : ℕ) (s : Source) (F : ℕ → List Face) → Law F p → Placeable p n s → (k : ℕ) (t : Source) → put n (Some s) p.links k ≡ Some t → k < 64
placed_few p n s F law able = put_each (λ k o. (t : Source) → o ≡ Some t → k < 64) n (Some s) p.links (λ t e. able.small) (λ k _. law.few k)

pub place_keeps : PlaceKeeps
place_keeps F p n s xs ms ys law able there =
    let at : F s.list ≡ xs ++ (ms ++ ys) = there.parts in
    let hs : start_gap s.start (p.lists s.list) ≡ length (laid xs) = there.start_there in
    let he : end_gap s.end (p.lists s.list) ≡ length (laid (xs ++ ms)) = there.end_there in
    let l : ℕ = s.list in
    let p' : Plain = after p (Placed n s) in
    let J : ℕ → ℕ → ℕ → Bool = held p in
    let J' : ℕ → ℕ → ℕ → Bool = held p' in
    let two : length (laid (xs ++ ms)) ≡ length (laid xs) + length (laid ms) = ap length (laid-append xs ms) ∙ length-append (laid xs) (laid ms) in
    let X : List Entry = p.lists l in
    let off : (q : ℕ) → within s X q ≡ false → (k : ℕ) → J l k q ≡ J' l k q
    = λ q o k. sym (placed_here p n s able.free q false o k ∙ ap (λ z. J l k q || z) (and-false (eqb k n)) ∙ or-false (J l k q)) in
    record {
      holds = put_each (λ m z. laid z ≡ p.lists m) l _ F
          (laid-three xs (map (marked n) ms) ys ∙ ap (λ r. laid xs ++ (r ++ laid ys)) (laid-map (marked n) (λ f. refl) ms)
          ∙ sym (laid-three xs ms ys) ∙ ap laid (sym at) ∙ law.holds l)
          (λ m _. law.holds m);
      filled = put_each (λ m z. Filled z) l _ F (filled_three (marked n) (λ f. refl) xs ms ys (subst Filled at (law.filled l))) (λ m _. law.filled m);
      linked = put_each (λ m z. Linked (J' m) 0 z) l _ F
          (linked_three (J l) (J' l) (marked n) (λ f. refl) xs ms ys
          (λ k q hi. off q (out_left _ _ q (omega arith)) k)
          (λ k q lo hi f h. bit-or k f.links (2 ^ n) ∙ ap (λ z. bit k f.links || z) (bit-one k n) ∙ ap (λ z. z || eqb k n) h
          ∙ sym (placed_here p n s able.free q true (inside _ _ q (omega arith) (omega arith)) k ∙ ap (λ z. J l k q || z) (and-true (eqb k n))))
          (λ k q lo. off q (out_right _ _ q (omega arith)) k)
          (subst (λ z. Linked (J l) 0 z) at (law.linked l)))
          (λ m d. linked_on (J m) (J' m) 0 (F m) (λ k q lo hi. placed_other p n s able.free m d q k) (law.linked m));
      anchored = placed_anchored p n s F law able;
      few = placed_few p n s F law able;
      once = law.once;
      never = law.never;
      clients = law.clients;
    }

pub place_empty_keeps : PlaceEmptyKeeps
place_empty_keeps F p n s law able cross =
    let p' : Plain = after p (Placed n s) in
    let J : ℕ → ℕ → ℕ → Bool = held p in
    let J' : ℕ → ℕ → ℕ → Bool = held p' in
    let here : (k q : ℕ) → J s.list k q ≡ J' s.list k q
    = λ k q. sym (placed_here p n s able.free q false (crossed _ _ q cross) k ∙ ap (λ z. J s.list k q || z) (and-false (eqb k n)) ∙ or-false (J s.list k q)) in
    record {
      holds = law.holds;
      filled = law.filled;
      linked = λ m. elim (cases_eq m s.list) [
        | inl e ↦ subst (λ z. Linked (J' z) 0 (F z)) (sym e) (linked_on (J s.list) (J' s.list) 0 (F s.list) (λ k q lo hi. here k q) (law.linked s.list))
        | inr d ↦ linked_on (J m) (J' m) 0 (F m) (λ k q lo hi. placed_other p n s able.free m d q k) (law.linked m)
      ];
      anchored = placed_anchored p n s F law able;
      few = placed_few p n s F law able;
      once = law.once;
      never = law.never;
      clients = law.clients;
    }
