-- An insertion keeps the law, its new block has the right links, and its list grows.
use Rattle.std.proofs.Common.{◌≡◌, ℕ, ◌+◌, ◌-◌, ◌<◌, ◌≤◌, Bool, true, false, cond, ◌&&◌, ◌||◌, eqb, ltb, leb, List, [], ◌∷◌, ◌++◌, length, take, drop, Some, None, Option, sym, refl, ap, ◌∙◌, subst, inl, inr, add-zero, zero-add, arith, length-append}
use mathlib.Core.Bool.{and-false, and-true, or-true}
use Rattle.std.proofs.ByRecursion.{All-append}
use Rattle.std.proofs.lemmas.List.{take_at, drop_at, take-append-drop}
use Rattle.std.proofs.lemmas.Bool.{cases_Bool, cases_lt, cases_eq, eq-eqb, ne_eqb, eqb-true, lt-ltb, leb-true, ltb-true}
use Rattle.std.proofs.lemmas.Bool.Decides.{nat_tests}
use Rattle.std.specs.Option.{option_map}
use Rattle.law.specs.Plain.{Id, Entry, visible, many, seen, has_id, times, gap, entries_of, put_in, Side, Source, place, start_gap, end_gap, within, Plain, put, after}
use Rattle.law.specs.Plain.Side.{Open, Before, After}
use Rattle.law.specs.Plain.Deed.{Inserted}
use Rattle.law.specs.Faces.{Face, laid, bit, holds_at, held, Linked, Filled, SideStands, Anchored, Law}
use Rattle.law.specs.Joins.{last_id, first_id, last_of, first_of, side_starts, side_ends, starts_here, ends_here, links_of}
use Rattle.law.specs.Changes.{new_face, InsertKeeps, InsertLinks, InsertClients, InsertLengthens}
use Rattle.law.proofs.Basics.{put_each, put_each_two, put_same, put_other, all_left, all_right, many-append, with_known, with_last}
use Rattle.law.proofs.Bits.{bit_zero}
use Rattle.law.proofs.Ids.{times_client, times-before, times_past, times_in, standing, stays, moves, shift}
use Rattle.law.proofs.Finds.{counted, ids_once, faces_linked}
use Rattle.law.proofs.Laid.{laid-append, length-entries, seen-entries, length-laid, linked_join, linked_left, linked_right, linked_on, linked_move}
use Rattle.law.proofs.Joins.{Sole, Moved, start_moved, end_moved, old_left, old_right, start_new, end_new, join_rule, last_linked}

end_le : (S : Side) (X : List Entry) → SideStands S X → end_gap S X ≤ length X
end_le Open X h = omega arith
end_le (Before a) X h = omega arith
end_le (After a) X h = h

place_grow : (a : Id) (A N B : List Entry) → times a N ≡ 0 → place a (A ++ B) < length (A ++ B) → place a (A ++ (N ++ B)) < length (A ++ (N ++ B))
place_grow a A N B none h =
    let l : length (A ++ B) ≡ length A + length B = length-append A B in
    let r : length (A ++ (N ++ B)) ≡ length A + length (N ++ B) = length-append A (N ++ B) in
    let n : length (N ++ B) ≡ length N + length B = length-append N B in
    elim (shift a A N B none) [ stays j _ e _ ↦ omega arith | moves _ j e ↦ omega arith ]

anchor_grow : (S : Side) (A N B : List Entry) → Sole S N (A ++ B) → SideStands S (A ++ B) → SideStands S (A ++ (N ++ B))
anchor_grow Open A N B sole h = tt
anchor_grow (Before a) A N B sole h = place_grow a A N B sole.0 h
anchor_grow (After a) A N B sole h = place_grow a A N B sole.0 h

left_bit : (K : ℕ → ℕ → Bool) (xs : List Face) → Filled xs → Linked K 0 xs → (n : ℕ)
    → bit n (links_of (last_of xs)) ≡ (ltb 0 (length (laid xs)) && K n (length (laid xs) - 1))
left_bit K [] fill h n = bit_zero n
left_bit K (f ∷ fs) fill h n =
    let p : 0 < length f.units = fill.0 in
    let z : length (laid (f ∷ fs)) ≡ length f.units + length (laid fs) = length-laid f fs in
    let w : 0 + length (laid (f ∷ fs)) - 1 ≡ length (laid (f ∷ fs)) - 1 = omega arith in
    last_linked K 0 f fs fill h n ∙ ap (K n) w ∙ sym (ap (λ b. b && K n (length (laid (f ∷ fs)) - 1)) (lt-ltb 0 (length (laid (f ∷ fs))) (omega arith)))

right_bit : (K : ℕ → ℕ → Bool) (g : ℕ) (ys : List Face) → Filled ys → Linked K g ys → (n : ℕ)
    → bit n (links_of (first_of ys)) ≡ (ltb 0 (length (laid ys)) && K n g)
right_bit K g [] fill h n = bit_zero n
right_bit K g (f ∷ fs) fill h n =
    let p : 0 < length f.units = fill.0 in
    let z : length (laid (f ∷ fs)) ≡ length f.units + length (laid fs) = length-laid f fs in
    h.0 n g (omega arith) (omega arith) ∙ sym (ap (λ b. b && K n g) (lt-ltb 0 (length (laid (f ∷ fs))) (omega arith)))

left_gaps : (s g t : ℕ) → (ltb 0 g && (leb s (g - 1) && ltb (g - 1) t)) ≡ (ltb s g && leb g t)
left_gaps s g t = grind (arith, nat_tests)

right_gaps : (s g t n : ℕ) → t ≤ g + n → (ltb 0 n && (leb s g && ltb g t)) ≡ (leb s g && ltb g t)
right_gaps s g t n h = grind (arith, nat_tests)

-- what is known of a source that is live on the list
abbrev Known : Source → List Entry → List Entry → Type 0
Known s N X = Sole s.start N X × Sole s.end N X × SideStands s.end X

module _ (l : ℕ) (xs ys : List Face) (N : List Entry) where
  -- the places before the gap, and those behind it
  held_left : (o : Option Source) → ((s : Source) → o ≡ Some s → s.list ≡ l → Known s N (laid xs ++ laid ys)) → (q : ℕ) → q < length (laid xs)
      → holds_at o l (laid xs ++ laid ys) q ≡ holds_at o l (laid xs ++ (N ++ laid ys)) q
  held_left None known q h = refl
  held_left (Some s) known q h = elim (cases_Bool (eqb s.list l)) [
    | inl e ↦
        let k : Known s N (laid xs ++ laid ys) = known s refl (eqb-true _ _ e) in
        let ms = start_moved s.start (laid xs) N (laid ys) k.0 in
        let me = end_moved s.end (laid xs) N (laid ys) k.1 in
        ap (λ z. eqb s.list l && z) (old_left (length (laid xs)) (length N) _ _ _ _ q ms me h)
    | inr e ↦ rw e
  ]

  held_right : (o : Option Source) → ((s : Source) → o ≡ Some s → s.list ≡ l → Known s N (laid xs ++ laid ys)) → (q : ℕ) → length (laid xs) ≤ q
      → holds_at o l (laid xs ++ laid ys) q ≡ holds_at o l (laid xs ++ (N ++ laid ys)) (q + length N)
  held_right None known q h = refl
  held_right (Some s) known q h = elim (cases_Bool (eqb s.list l)) [
    | inl e ↦
        let k : Known s N (laid xs ++ laid ys) = known s refl (eqb-true _ _ e) in
        let ms = start_moved s.start (laid xs) N (laid ys) k.0 in
        let me = end_moved s.end (laid xs) N (laid ys) k.1 in
        ap (λ z. eqb s.list l && z) (old_right (length (laid xs)) (length N) _ _ _ _ q ms me h)
    | inr e ↦ rw e
  ]

  -- the new places
  new_here : (s : Source) → Known s N (laid xs ++ laid ys) → Filled xs → Filled ys → (q : ℕ) → length (laid xs) ≤ q → q < length (laid xs) + length N
      → (((ltb 0 (length (laid xs)) && within s (laid xs ++ laid ys) (length (laid xs) - 1)) || side_starts s.start (option_map last_id (last_of xs)))
      && ((ltb 0 (length (laid ys)) && within s (laid xs ++ laid ys) (length (laid xs))) || side_ends s.end (option_map first_id (first_of ys))))
      ≡ within s (laid xs ++ (N ++ laid ys)) q
  new_here s k fx fy q lo hi =
      let g : ℕ = length (laid xs) in
      let S : ℕ = start_gap s.start (laid xs ++ laid ys) in
      let T : ℕ = end_gap s.end (laid xs ++ laid ys) in
      let st : Bool = side_starts s.start (option_map last_id (last_of xs)) in
      let en : Bool = side_ends s.end (option_map first_id (first_of ys)) in
      let len : length (laid xs ++ laid ys) ≡ length (laid xs) + length (laid ys) = length-append (laid xs) (laid ys) in
      let le : T ≤ length (laid xs ++ laid ys) = end_le s.end (laid xs ++ laid ys) k.2 in
      let ms : Moved g (length N) S (start_gap s.start (laid xs ++ (N ++ laid ys))) = start_moved s.start (laid xs) N (laid ys) k.0 in
      let me : Moved g (length N) T (end_gap s.end (laid xs ++ (N ++ laid ys))) = end_moved s.end (laid xs) N (laid ys) k.1 in
      let a : st ≡ true → S ≤ g = λ t.
      let y : start_gap s.start (laid xs ++ (N ++ laid ys)) ≤ g
      = leb-true _ _ (start_new s.start xs ys N fx k.0 g (omega arith) (omega arith) ∙ ap (λ z. ltb S g || z) t ∙ or-true (ltb S g)) in
      elim ms [ inl h ↦ h.0 | inr h ↦ omega arith ] in
      let b : en ≡ true → g ≤ T = λ t.
      let y : g < end_gap s.end (laid xs ++ (N ++ laid ys))
      = ltb-true _ _ (end_new s.end xs ys N fy k.1 k.2 g (omega arith) (omega arith) ∙ ap (λ z. ltb g T || z) t ∙ or-true (ltb g T)) in
      elim me [ inl h ↦ absurd (omega arith) | inr h ↦ h.0 ] in
      ap (λ z. (z || st) && ((ltb 0 (length (laid ys)) && within s (laid xs ++ laid ys) g) || en)) (left_gaps S g T)
      ∙ ap (λ z. ((ltb S g && leb g T) || st) && (z || en)) (right_gaps S g T (length (laid ys)) (omega arith))
      ∙ join_rule S g T st en a b
      ∙ sym (ap (λ z. z && ltb q (end_gap s.end (laid xs ++ (N ++ laid ys)))) (start_new s.start xs ys N fx k.0 q lo hi)
      ∙ ap (λ z. (ltb S g || st) && z) (end_new s.end xs ys N fy k.1 k.2 q lo hi))

  held_new : (o : Option Source) → ((s : Source) → o ≡ Some s → s.list ≡ l → Known s N (laid xs ++ laid ys)) → Filled xs → Filled ys
      → (q : ℕ) → length (laid xs) ≤ q → q < length (laid xs) + length N
      → (((ltb 0 (length (laid xs)) && holds_at o l (laid xs ++ laid ys) (length (laid xs) - 1)) || starts_here o l (option_map last_id (last_of xs)))
      && ((ltb 0 (length (laid ys)) && holds_at o l (laid xs ++ laid ys) (length (laid xs))) || ends_here o l (option_map first_id (first_of ys))))
      ≡ holds_at o l (laid xs ++ (N ++ laid ys)) q
  held_new None known fx fy q lo hi = rw (and-false (ltb 0 (length (laid xs))))
  held_new (Some s) known fx fy q lo hi = elim (cases_Bool (eqb s.list l)) [
    | inl e ↦ rw e (new_here s (known s refl (eqb-true _ _ e)) fx fy q lo hi)
    | inr e ↦ rw (e, and-false (ltb 0 (length (laid xs))))
  ]

-- ids that stand in a list are not those of the new entries, and stand there once
module _ (F : ℕ → List Face) (p : Plain) (law : Law F p) (c : ℕ) (countable : Bool) (us : List ℕ) where
  abbrev news : List Entry
  news = entries_of (record { client = c; clock = p.counts c }) countable false us

  fresh : (a : Id) → a.clock < p.counts a.client → times a news ≡ 0
  fresh a h = elim (cases_eq a.client c) [
    | inl e ↦ times-before a _ countable false us (subst (λ z. a.clock < p.counts z) e h)
    | inr d ↦ times_client a _ countable false us d
  ]

  sole_side : (S : Side) (m : ℕ) → SideStands S (p.lists m) → Sole S news (p.lists m)
  sole_side Open m h = tt
  sole_side (Before a) m h = (fresh a (counted F p law a m (standing a (p.lists m) h)), ids_once F p m a law)
  sole_side (After a) m h = (fresh a (counted F p law a m (standing a (p.lists m) h)), ids_once F p m a law)

  times-put : (X A B W : List Entry) → X ≡ A ++ B → W ≡ A ++ (news ++ B) → (a : Id) → times a W ≡ times a X + times a news
  times-put X A B W hx hw a =
      let x : times a X ≡ times a A + times a B = ap (times a) hx ∙ many-append (has_id a) A B in
      let y : times a W ≡ times a A + times a (news ++ B) = ap (times a) hw ∙ many-append (has_id a) A (news ++ B) in
      let z : times a (news ++ B) ≡ times a news + times a B = many-append (has_id a) news B in
      omega arith

  module _ (l : ℕ) (W : List Entry) (tW : (a : Id) → times a W ≡ times a (p.lists l) + times a news) where
    times_stay : (a : Id) → times a news ≡ 0 → (m : ℕ) → times a (put l W p.lists m) ≡ times a (p.lists m)
    times_stay a none = put_each (λ m y. times a y ≡ times a (p.lists m)) l W p.lists (omega (arith, tW a)) (λ m _. refl)

    inserted_once : (a : Id) → a.clock < put c (p.counts c + length us) p.counts a.client
        → (m : ℕ) × (times a (put l W p.lists m) ≡ 1) × ((k : ℕ) → (k ≡ m → ⊥) → times a (put l W p.lists k) ≡ 0)
    inserted_once a h = elim (cases_lt a.clock (p.counts a.client)) [
      | inl k ↦ let o = law.once a k in (o.0, times_stay a (fresh a k) o.0 ∙ o.1, λ m d. times_stay a (fresh a k) m ∙ o.2 m d)
      | inr k ↦ elim (cases_eq a.client c) [
        | inl e ↦
            let h' : a.clock < p.counts c + length us = rw (eq-eqb a.client c e) at h in
            let k' : p.counts c ≤ a.clock = subst (λ z. p.counts z ≤ a.clock) e k in
            let n : times a news ≡ 1 = times_in a _ countable false us e k' h' in
            let z : times a (p.lists l) ≡ 0 = law.never a k l in
            let w : times a W ≡ 1 = omega (arith, tW a) in
            (l, ap (times a) (put_same l W p.lists) ∙ w, λ m d. ap (times a) (put_other l m W p.lists d) ∙ law.never a k m)
        | inr d ↦
            let h' : a.clock < p.counts a.client = rw (ne_eqb a.client c d) at h in
            absurd (omega arith)
      ]
    ]

    inserted_never : (a : Id) → put c (p.counts c + length us) p.counts a.client ≤ a.clock → (m : ℕ) → times a (put l W p.lists m) ≡ 0
    inserted_never a h m = elim (cases_eq a.client c) [
      | inl e ↦
          let h' : p.counts c + length us ≤ a.clock = rw (eq-eqb a.client c e) at h in
          let k : p.counts a.client ≤ a.clock = subst (λ z. p.counts z ≤ a.clock) (sym e) (omega arith) in
          times_stay a (times_past a _ countable false us h') m ∙ law.never a k m
      | inr d ↦
          let h' : p.counts a.client ≤ a.clock = rw (ne_eqb a.client c d) at h in
          times_stay a (times_client a _ countable false us d) m ∙ law.never a h' m
    ]

    inserted_anchored : (A B : List Entry) → p.lists l ≡ A ++ B → W ≡ A ++ (news ++ B)
        → (n : ℕ) (s : Source) → p.links n ≡ Some s → Anchored s (put l W p.lists s.list)
    inserted_anchored A B wx xw n s live =
        put_each (λ m y. s.list ≡ m → Anchored s y) l W p.lists
        (λ e.
        let b = law.anchored n s live in
        let x : p.lists s.list ≡ A ++ B = ap p.lists e ∙ wx in
        let u = subst (λ z. Sole s.start news z) x (sole_side s.start s.list b.0) in
        let v = subst (λ z. Sole s.end news z) x (sole_side s.end s.list b.1) in (
          subst (λ z. SideStands s.start z) (sym xw) (anchor_grow s.start A news B u (subst (λ z. SideStands s.start z) x b.0)),
          subst (λ z. SideStands s.end z) (sym xw) (anchor_grow s.end A news B v (subst (λ z. SideStands s.end z) x b.1)),
        ))
        (λ m _ e. subst (λ z. Anchored s (p.lists z)) e (law.anchored n s live))
        s.list refl

pub insert_clients : InsertClients
insert_clients F p l i c countable us law = (
  (λ none. with_last eqb c p.clients (law.clients c ∙ rw none)),
  (λ some. let k : many (eqb c) p.clients ≡ 1 = law.clients c ∙ rw (lt-ltb 0 (p.counts c) some) in with_known eqb c p.clients (omega arith)),
)

clients_after : (F : ℕ → List Face) (p : Plain) → Law F p → (l i c : ℕ) (countable : Bool) (us : List ℕ) → 0 < length us
    → (b : ℕ) → many (eqb b) (after p (Inserted l c i countable us)).clients ≡ cond (ltb 0 ((after p (Inserted l c i countable us)).counts b)) 1 0
clients_after F p law l i c countable us pos b = elim (cases_eq (p.counts c) 0) [
  | inl none ↦
      let k : many (eqb c) p.clients ≡ 0 = law.clients c ∙ rw none in
      ap (many (eqb b)) ((insert_clients F p l i c countable us law).0 none) ∙ many-append (eqb b) p.clients (c ∷ []) ∙ elim (cases_eq b c) [
        | inl e ↦ rw (e, eq-eqb c c refl, k, lt-ltb 0 (p.counts c + length us) (omega arith))
        | inr d ↦ rw (ne_eqb b c d) (add-zero (many (eqb b) p.clients) ∙ law.clients b)
      ]
  | inr some ↦
      let h : 0 < p.counts c = omega arith in
      ap (many (eqb b)) ((insert_clients F p l i c countable us law).1 h) ∙ law.clients b ∙ elim (cases_eq b c) [
        | inl e ↦ rw (e, eq-eqb c c refl, lt-ltb 0 (p.counts c) h, lt-ltb 0 (p.counts c + length us) (omega arith))
        | inr d ↦ rw (ne_eqb b c d)
      ]
]

pub insert_keeps : InsertKeeps
insert_keeps F p l i c w countable us xs ys law new-there =
    let at : F l ≡ xs ++ ys = new-there.parts in
    let hg : length (laid xs) ≡ gap i (p.lists l) = new-there.at_gap in
    let pos : 0 < length us = new-there.some in
    let N : List Entry = news F p law c countable us in
    let p' : Plain = after p (Inserted l c i countable us) in
    let new : Face = new_face p c countable us w in
    let W : List Entry = put_in (gap i (p.lists l)) N (p.lists l) in
    let hn : length N ≡ length us = length-entries _ countable false us in
    let wx : p.lists l ≡ laid xs ++ laid ys = sym (law.holds l) ∙ ap laid at ∙ laid-append xs ys in
    let xw : W ≡ laid xs ++ (N ++ laid ys)
    = ap (λ z. put_in (gap i (p.lists l)) N z) wx
    ∙ rw (take_at (laid xs) (laid ys) (gap i (p.lists l)) hg, drop_at (laid xs) (laid ys) (gap i (p.lists l)) hg) in
    let fl : Filled (xs ++ ys) = subst Filled at (law.filled l) in
    let fx : Filled xs = all_left _ xs ys fl in
    let fy : Filled ys = all_right _ xs ys fl in
    let K : ℕ → ℕ → Bool = λ n q. holds_at (p.links n) l (laid xs ++ laid ys) q in
    let K' : ℕ → ℕ → Bool = λ n q. holds_at (p.links n) l (laid xs ++ (N ++ laid ys)) q in
    let lk : Linked K 0 (xs ++ ys) = subst (λ z. Linked (λ n q. holds_at (p.links n) l z q) 0 (xs ++ ys)) wx (subst (λ z. Linked (held p l) 0 z) at (law.linked l)) in
    let lx : Linked K 0 xs = linked_left K 0 xs ys lk in
    let ly : Linked K (0 + length (laid xs)) ys = linked_right K 0 xs ys lk in
    let ly0 : Linked K (length (laid xs)) ys = subst (λ z. Linked K z ys) (zero-add (length (laid xs))) ly in
    let known : (n : ℕ) (s : Source) → p.links n ≡ Some s → s.list ≡ l → Known s N (laid xs ++ laid ys)
    = λ n s live e.
    let a : Anchored s (p.lists s.list) = law.anchored n s live in
    let sole : (S : Side) → SideStands S (p.lists s.list) → Sole S N (p.lists s.list) = λ S. sole_side F p law c countable us S s.list in
    let b : Known s N (p.lists s.list) = (sole s.start a.0, sole s.end a.1, a.1) in
    subst (λ z. Known s N z) (ap p.lists e ∙ wx) b in
    let bits : (n q : ℕ) → 0 + length (laid xs) ≤ q → q < 0 + length (laid xs) + length us → bit n w ≡ K' n q
    = λ n q lo hi.
    new-there.joins n
    ∙ rw (left_bit K xs fx lx n, right_bit K (length (laid xs)) ys fy ly0 n) (held_new l xs ys N (p.links n) (known n) fx fy q (omega arith) (omega arith)) in
    let moved : Linked K' (0 + length (laid xs) + length us) ys
    = linked_move K K' (0 + length (laid xs)) (length us) ys
    (λ n q lo hi. held_right l xs ys N (p.links n) (known n) q (omega arith) ∙ ap (λ z. K' n (q + z)) hn) ly in
    let lk' : Linked K' 0 (xs ++ new ∷ ys)
    = linked_join K' 0 xs (new ∷ ys) (linked_on K K' 0 xs (λ n q lo hi. held_left l xs ys N (p.links n) (known n) q (omega arith)) lx) (bits, moved) in
    let tW : (a : Id) → times a W ≡ times a (p.lists l) + times a N
    = times-put F p law c countable us (p.lists l) (laid xs) (laid ys) W wx xw in
    record {
      holds = put_each_two (λ m z y. laid z ≡ y) l (xs ++ new ∷ ys) F W p.lists (laid-append xs (new ∷ ys) ∙ sym xw) (λ m _. law.holds m);
      filled = put_each (λ m z. Filled z) l (xs ++ new ∷ ys) F (All-append _ xs (new ∷ ys) fx (pos, fy)) (λ m _. law.filled m);
      linked = put_each_two (λ m z y. Linked (λ n q. holds_at (p.links n) m y q) 0 z) l (xs ++ new ∷ ys) F W p.lists
          (subst (λ y. Linked (λ n q. holds_at (p.links n) l y q) 0 (xs ++ new ∷ ys)) (sym xw) lk') (λ m _. law.linked m);
      anchored = inserted_anchored F p law c countable us l W tW (laid xs) (laid ys) wx xw;
      few = law.few;
      once = inserted_once F p law c countable us l W tW;
      never = inserted_never F p law c countable us l W tW;
      clients = clients_after F p law l i c countable us pos;
    }

pub insert_links : InsertLinks
insert_links F p l i c w countable us xs ys law new-there =
    let new : Face = new_face p c countable us w in
    faces_linked _ _ l xs new ys (insert_keeps F p l i c w countable us xs ys law new-there) (put_same l (xs ++ new ∷ ys) F)

pub insert_lengthens : InsertLengthens
insert_lengthens g a countable us X =
    let N : List Entry = entries_of a countable false us in
    let x : seen (take g X ++ drop g X) ≡ seen (take g X) + seen (drop g X) = many-append visible (take g X) (drop g X) in
    let y : seen (take g X ++ drop g X) ≡ seen X = ap seen (take-append-drop g X) in
    let z : seen (put_in g N X) ≡ seen (take g X) + seen (N ++ drop g X) = many-append visible (take g X) (N ++ drop g X) in
    let v : seen (N ++ drop g X) ≡ seen N + seen (drop g X) = many-append visible N (drop g X) in
    let u : seen N ≡ cond countable (length us) 0 = rw and-true at (seen-entries a countable false us) in
    omega arith
