-- A removal keeps the law, shortens its list and answers the right links.
use Rattle.std.proofs.Common.{◌≡◌, ℕ, suc, ◌+◌, ◌-◌, ◌<◌, ◌≤◌, min, max, Bool, true, false, cond, not, ◌&&◌, ◌||◌, ltb, leb, ◌⊎◌, List, [], ◌∷◌, ◌++◌, map, length, sym, refl, ap, ◌∙◌, subst, inl, inr, add-zero, arith}
use mathlib.Core.Path.{fun_ext}
use mathlib.Core.Bool.{and-false, and-not_self, or-false, or_self, or_assoc}
use lib.Bits.{bit_or}
use Rattle.std.proofs.lemmas.List.{map-append}
use Rattle.std.proofs.lemmas.Bool.{cases_Bool, cases_lt, le-leb, lt-leb, lt-ltb, le-ltb}
use Rattle.law.specs.Plain.{Id, Entry, visible, seen, times, entries_of, mark_removed, remove_from, place, Plain, put, after}
use Rattle.law.specs.Plain.Deed.{Removed}
use Rattle.law.specs.Faces.{Face, entries, laid, bit, held, Linked, Filled, Law}
use Rattle.law.specs.Changes.{struck, RemoveKeeps, RemoveNoneKeeps, RemoveShortens, hides_any, union, RemoveAnswers}
use Rattle.law.proofs.Basics.{put_each, put_each_two, put_same, all_left, all_right}
use Rattle.law.proofs.Bits.{bit_zero, bit-or}
use Rattle.law.proofs.Laid.{length-entries, laid-three, long_map, linked_left, linked_right, linked_on, filled_three, linked_three, held_like, anchor_like}

-- an entry after a removal that reaches it
abbrev strike : Entry → Entry
strike e = cond (visible e) (mark_removed e) e

-- the part of the list before the removal, and the part that it reaches
remove_from_before : (i n v : ℕ) (A xs : List Entry) → v + seen A ≤ i → remove_from i n v (A ++ xs) ≡ A ++ remove_from i n (v + seen A) xs
remove_from_before i n v [] xs h = rw add-zero
remove_from_before i n v (e ∷ A) xs h = elim (cases_Bool (visible e)) [
  | inl b ↦
      let h' : v + suc (seen A) ≤ i = rw b at h in
      let z : v + suc (seen A) ≡ suc v + seen A = omega arith in
      rw (b, lt-leb i v (omega arith), z) (ap (λ r. e ∷ r) (remove_from_before i n (suc v) A xs (omega arith)))
  | inr b ↦
      let h' : v + seen A ≤ i = rw b at h in
      rw b (ap (λ r. e ∷ r) (remove_from_before i n v A xs h'))
]

remove_from_in : (i n v : ℕ) (ms xs : List Entry) → i ≤ v → v + seen ms ≤ i + n → remove_from i n v (ms ++ xs) ≡ map strike ms ++ remove_from i n (v + seen ms) xs
remove_from_in i n v [] xs lo h = rw add-zero
remove_from_in i n v (e ∷ ms) xs lo h = elim (cases_Bool (visible e)) [
  | inl b ↦
      let h' : v + suc (seen ms) ≤ i + n = rw b at h in
      let z : v + suc (seen ms) ≡ suc v + seen ms = omega arith in
      rw (b, le-leb i v lo, lt-ltb v (i + n) (omega arith), z) (ap (λ r. mark_removed e ∷ r) (remove_from_in i n (suc v) ms xs (omega arith) (omega arith)))
  | inr b ↦
      let h' : v + seen ms ≤ i + n = rw b at h in
      rw b (ap (λ r. e ∷ r) (remove_from_in i n v ms xs lo h'))
]

-- where no visible entry of this part has an index from i to i + n - 1, nothing is marked
remove_from_none : (i n v : ℕ) (xs : List Entry) → min (i + n) (v + seen xs) ≤ max i v → remove_from i n v xs ≡ xs
remove_from_none i n v [] h = refl
remove_from_none i n v (e ∷ xs) h = elim (cases_Bool (visible e)) [
  | inl b ↦
      let k : min (i + n) (v + suc (seen xs)) ≤ max i v = rw b at h in
      let z : (leb i v && ltb v (i + n)) ≡ false = elim (cases_lt v i) [
        | inl j ↦ rw (lt-leb i v j)
        | inr j ↦ rw (le-ltb v (i + n) (omega arith)) (and-false (leb i v))
      ] in
      rw (b, z) (ap (λ r. e ∷ r) (remove_from_none i n (suc v) xs (omega arith)))
  | inr b ↦ let k : min (i + n) (v + seen xs) ≤ max i v = rw b at h in rw b (ap (λ r. e ∷ r) (remove_from_none i n v xs k))
]

-- ids stay
id_stays : (b : Bool) (e : Entry) → (cond b (mark_removed e) e).id ≡ e.id
id_stays true e = refl
id_stays false e = refl

place-remove_from : (a : Id) (i n v : ℕ) (xs : List Entry) → place a (remove_from i n v xs) ≡ place a xs
place-remove_from a i n v [] = refl
place-remove_from a i n v (e ∷ xs) = rw (id_stays (visible e && (leb i v && ltb v (i + n))) e, place-remove_from a i n (cond (visible e) (suc v) v) xs)

times-remove_from : (a : Id) (i n v : ℕ) (xs : List Entry) → times a (remove_from i n v xs) ≡ times a xs
times-remove_from a i n v [] = refl
times-remove_from a i n v (e ∷ xs) = rw (id_stays (visible e && (leb i v && ltb v (i + n))) e, times-remove_from a i n (cond (visible e) (suc v) v) xs)

length-remove_from : (i n v : ℕ) (xs : List Entry) → length (remove_from i n v xs) ≡ length xs
length-remove_from i n v [] = refl
length-remove_from i n v (e ∷ xs) = ap suc (length-remove_from i n (cond (visible e) (suc v) v) xs)

entry_struck : (a : Id) (u : ℕ) (c g : Bool)
    → strike (record { id = a; unit = u; countable = c; removed = g }) ≡ record { id = a; unit = u; countable = c; removed = c || g }
entry_struck a u true true = refl
entry_struck a u true false = refl
entry_struck a u false g = refl

entries-struck : (a : Id) (c g : Bool) (us : List ℕ) → map strike (entries_of a c g us) ≡ entries_of a c (c || g) us
entries-struck a c g [] = refl
entries-struck a c g (u ∷ us) = rw (entry_struck a u c g, entries-struck (record { client = a.client; clock = suc a.clock }) c g us)

laid-struck : (ms : List Face) → map strike (laid ms) ≡ laid (map struck ms)
laid-struck [] = refl
laid-struck (f ∷ fs) = map-append strike (entries f) (laid fs)
    ∙ rw (entries-struck f.first f.countable f.removed f.units, laid-struck fs)

remove_from_three : (i n : ℕ) (X M Y : List Entry) → seen X ≡ i → (seen M ≡ n) ⊎ ((seen M ≤ n) × (seen Y ≡ 0))
    → remove_from i n 0 (X ++ (M ++ Y)) ≡ X ++ (map strike M ++ Y)
remove_from_three i n X M Y hx hm =
    let z : 0 + seen X ≡ i = omega arith in
    let few : seen M ≤ n = elim hm [ inl h ↦ omega arith | inr h ↦ h.0 ] in
    let end : min (i + n) (0 + seen X + seen M + seen Y) ≤ max i (0 + seen X + seen M) = elim hm [ inl h ↦ omega arith | inr h ↦ omega arith ] in
    remove_from_before i n 0 X (M ++ Y) (omega arith)
    ∙ ap (λ r. X ++ r) (remove_from_in i n (0 + seen X) M Y (omega arith) (omega arith))
    ∙ ap (λ r. X ++ (map strike M ++ r)) (remove_from_none i n (0 + seen X + seen M) Y end)

pub remove_none_keeps : RemoveNoneKeeps
remove_none_keeps F p l i n law none =
    let few : min (i + n) (0 + seen (p.lists l)) ≤ max i 0 = elim none [ inl h ↦ omega arith | inr h ↦ omega arith ] in
    let all : (m : ℕ) → p.lists m ≡ put l (remove_from i n 0 (p.lists l)) p.lists m
    = put_each (λ m z. p.lists m ≡ z) l _ p.lists (sym (remove_from_none i n 0 (p.lists l) few)) (λ m _. refl) in
    subst (λ L. Law F (record { names = p.names; lists = L; clients = p.clients; counts = p.counts; words = p.words; links = p.links })) (fun_ext all) law

pub remove_keeps : RemoveKeeps
remove_keeps F p l i n xs ms ys law taking =
    let at : F l ≡ xs ++ (ms ++ ys) = taking.parts in
    let p' : Plain = after p (Removed l i n) in
    let J : ℕ → ℕ → ℕ → Bool = held p in
    let J' : ℕ → ℕ → ℕ → Bool = held p' in
    let pl : (m : ℕ) (a : Id) → place a (p'.lists m) ≡ place a (p.lists m)
    = put_each (λ m z. (a : Id) → place a z ≡ place a (p.lists m)) l _ p.lists (λ a. place-remove_from a i n 0 (p.lists l)) (λ m _ a. refl) in
    let ln : (m : ℕ) → length (p'.lists m) ≡ length (p.lists m)
    = put_each (λ m z. length z ≡ length (p.lists m)) l _ p.lists (length-remove_from i n 0 (p.lists l)) (λ m _. refl) in
    let tm : (m : ℕ) (a : Id) → times a (p'.lists m) ≡ times a (p.lists m)
    = put_each (λ m z. (a : Id) → times a z ≡ times a (p.lists m)) l _ p.lists (λ a. times-remove_from a i n 0 (p.lists l)) (λ m _ a. refl) in
    let lf : (m : ℕ) → Linked (J' m) 0 (F m)
    = λ m. linked_on (J m) (J' m) 0 (F m) (λ k q lo hi. sym (held_like (p.links k) m (p'.lists m) (p.lists m) (pl m) (ln m) q)) (law.linked m) in
    let whole : p.lists l ≡ laid xs ++ (laid ms ++ laid ys) = sym (law.holds l) ∙ ap laid at ∙ laid-three xs ms ys in
    record {
      holds = put_each_two (λ m z w. laid z ≡ w) l _ F _ p.lists
          (laid-three xs (map struck ms) ys ∙ ap (λ r. laid xs ++ (r ++ laid ys)) (sym (laid-struck ms))
          ∙ sym (remove_from_three i n (laid xs) (laid ms) (laid ys) taking.before taking.reach) ∙ ap (remove_from i n 0) (sym whole))
          (λ m _. law.holds m);
      filled = put_each (λ m z. Filled z) l _ F (filled_three struck (λ f. refl) xs ms ys (subst Filled at (law.filled l))) (λ m _. law.filled m);
      linked = put_each (λ m z. Linked (J' m) 0 z) l _ F
          (linked_three (J' l) (J' l) struck (λ f. refl) xs ms ys (λ k q lo. refl) (λ k q lo hi f h. h) (λ k q lo. refl) (subst (λ z. Linked (J' l) 0 z) at (lf l)))
          (λ m _. lf m);
      anchored = λ k s live. (anchor_like s.start _ _ (pl s.list) (ln s.list) (law.anchored k s live).0, anchor_like s.end _ _ (pl s.list) (ln s.list) (law.anchored k s live).1);
      few = law.few;
      once = λ a h. let o = law.once a h in (o.0, tm o.0 a ∙ o.1, λ m d. tm m a ∙ o.2 m d);
      never = λ a h m. tm m a ∙ law.never a h m;
      clients = law.clients;
    }

-- which entries two lists hide
hides_same : (I : ℕ → Bool) (at : ℕ) (xs : List Entry) → hides_any I at xs xs ≡ false
hides_same I at [] = refl
hides_same I at (e ∷ xs) = rw (and-not_self (visible e), hides_same I (suc at) xs)

hides_append : (I : ℕ → Bool) (at : ℕ) (A B X Y : List Entry) → length A ≡ length B
    → hides_any I at (A ++ X) (B ++ Y) ≡ (hides_any I at A B || hides_any I (at + length A) X Y)
hides_append I at [] [] X Y h = rw (add-zero at)
hides_append I at [] (b ∷ B) X Y h = absurd (omega arith)
hides_append I at (a ∷ A) [] X Y h = absurd (omega arith)
hides_append I at (a ∷ A) (b ∷ B) X Y h =
    let z : at + suc (length A) ≡ suc at + length A = omega arith in
    rw (z, hides_append I (suc at) A B X Y (omega arith)) (sym (or_assoc _ (hides_any I (suc at) A B) _))

-- a run of visible entries, all alike to the test
hides_run : (I : ℕ → Bool) (b : Bool) (at : ℕ) (a : Id) (u : ℕ) (us : List ℕ) → ((q : ℕ) → at ≤ q → q < at + suc (length us) → b ≡ I q)
    → hides_any I at (entries_of a true false (u ∷ us)) (entries_of a true true (u ∷ us)) ≡ b
hides_run I b at a u [] h = rw (← h at (omega arith) (omega arith)) (or-false b)
hides_run I b at a u (w ∷ us) h =
    let r = hides_run I b (suc at) (record { client = a.client; clock = suc a.clock }) w us (λ q lo hi. h q (omega arith) (omega arith)) in
    rw (← h at (omega arith) (omega arith)) (ap (λ t. b || t) r ∙ or_self b)

hides_face : (I : ℕ → Bool) (at : ℕ) (a : Id) (c g : Bool) (b : Bool) (us : List ℕ) → 0 < length us → ((q : ℕ) → at ≤ q → q < at + length us → b ≡ I q)
    → hides_any I at (entries_of a c g us) (entries_of a c (c || g) us) ≡ cond (c && not g) b false
hides_face I at a true false b [] pos h = absurd (omega arith)
hides_face I at a true false b (u ∷ us) pos h = hides_run I b at a u us h
hides_face I at a true true b us pos h = hides_same I at (entries_of a true true us)
hides_face I at a false g b us pos h = hides_same I at (entries_of a false g us)

bit-union : (k x rest : ℕ) (b : Bool) → (cond b (bit k x) false || bit k rest) ≡ bit k (cond b (bit_or x rest) rest)
bit-union k x rest true = sym (bit-or k x rest)
bit-union k x rest false = refl

hides_faces : (I : ℕ → ℕ → Bool) (k at : ℕ) (ms : List Face) → Filled ms → Linked I at ms
    → hides_any (I k) at (laid ms) (laid (map struck ms)) ≡ bit k (union ms)
hides_faces I k at [] fill h = sym (bit_zero k)
hides_faces I k at (f ∷ fs) fill h =
    let x : length (entries f) ≡ length f.units = length-entries _ _ _ f.units in
    let y : length (entries (struck f)) ≡ length f.units = length-entries _ _ _ f.units in
    hides_append (I k) at (entries f) (entries (struck f)) (laid fs) (laid (map struck fs)) (omega arith)
    ∙ rw (hides_face (I k) at f.first f.countable f.removed (bit k f.links) f.units fill.0 (h.0 k), x, hides_faces I k (at + length f.units) fs fill.1 h.1)
    (bit-union k f.links (union fs) (f.countable && not f.removed))

pub remove_answers : RemoveAnswers
remove_answers F p l i n xs ms ys law taking k =
    let J : ℕ → ℕ → Bool = held p l in
    let lr : Linked J (0 + length (laid xs)) (ms ++ ys) = linked_right J 0 xs (ms ++ ys) (subst (λ z. Linked J 0 z) taking.parts (law.linked l)) in
    let fr : Filled (ms ++ ys) = all_right _ xs (ms ++ ys) (subst Filled taking.parts (law.filled l)) in
    let was : p.lists l ≡ laid xs ++ (laid ms ++ laid ys) = sym (law.holds l) ∙ ap laid taking.parts ∙ laid-three xs ms ys in
    let is : (after p (Removed l i n)).lists l ≡ laid xs ++ (laid (map struck ms) ++ laid ys)
    = sym ((remove_keeps F p l i n xs ms ys law taking).holds l) ∙ ap laid (put_same l _ F) ∙ laid-three xs (map struck ms) ys in
    let long : length (laid (map struck ms)) ≡ length (laid ms) = long_map struck (λ f. refl) ms in
    sym (ap (λ X. hides_any (J k) 0 X ((after p (Removed l i n)).lists l)) was
    ∙ ap (λ Y. hides_any (J k) 0 (laid xs ++ (laid ms ++ laid ys)) Y) is
    ∙ hides_append (J k) 0 (laid xs) (laid xs) _ _ refl
    ∙ ap (λ z. z || hides_any (J k) (0 + length (laid xs)) (laid ms ++ laid ys) (laid (map struck ms) ++ laid ys)) (hides_same (J k) 0 (laid xs))
    ∙ hides_append (J k) (0 + length (laid xs)) (laid ms) (laid (map struck ms)) (laid ys) (laid ys) (sym long)
    ∙ ap (λ z. hides_any (J k) (0 + length (laid xs)) (laid ms) (laid (map struck ms)) || z) (hides_same (J k) _ (laid ys))
    ∙ or-false _ ∙ hides_faces J k (0 + length (laid xs)) ms (all_left _ ms ys fr) (linked_left J _ ms ys lr))

-- how many visible entries are left
seen-remove_from : (i n v : ℕ) (X : List Entry) → seen (remove_from i n v X) + (min (i + n) (v + seen X) - max i v) ≡ seen X
seen-remove_from i n v [] = omega arith
seen-remove_from i n v (e ∷ xs) = elim (cases_Bool (visible e)) [
  | inl b ↦
      let r : seen (remove_from i n (suc v) xs) + (min (i + n) (suc v + seen xs) - max i (suc v)) ≡ seen xs = seen-remove_from i n (suc v) xs in
      elim (cases_lt v i) [
        | inl h ↦ rw (b, lt-leb i v h, b) (omega arith)
        | inr h ↦ elim (cases_lt v (i + n)) [
          | inl k ↦ rw (b, le-leb i v h, lt-ltb v (i + n) k, and-false e.countable) (omega arith)
          | inr k ↦ rw (b, le-leb i v h, le-ltb v (i + n) k, b) (omega arith)
        ]
      ]
  | inr b ↦ rw (b, b) (seen-remove_from i n v xs)
]

pub remove_shortens : RemoveShortens
remove_shortens i n X = omega (arith, seen-remove_from i n 0 X)
