-- What each call makes of the faces, and that it keeps the law.
use Rattle.std.specs.Prelude.{◌≡◌, ℕ, suc, ◌+◌, ◌-◌, ◌^◌, ◌<◌, ◌≤◌, min, Bool, false, cond, not, ◌&&◌, ◌||◌, ◌⊎◌, List, [], ◌∷◌, ◌++◌, map, length, take, drop, None, bit_and, bit_or}
use Rattle.law.specs.Plain.{Id, Entry, visible, seen, gap, entries_of, put_in, remove_from, Source, start_gap, end_gap, Plain, put, after}
use Rattle.law.specs.Plain.Deed.{Inserted, Removed, Placed, Withdrawn}
use Rattle.law.specs.Faces.{Face, laid, bit, held, JustLinks, Anchored, Law}
use Rattle.law.specs.Joins.{last_of, first_of, Joins}

-- The two pieces of a face that is cut at the offset k.
abbrev pub left_piece : ℕ → Face → Face
left_piece k f = record {
  first = f.first;
  removed = f.removed;
  links = f.links;
  countable = f.countable;
  units = take k f.units;
}

abbrev pub right_piece : ℕ → Face → Face
right_piece k f = record {
  first = record { client = f.first.client; clock = f.first.clock + k };
  removed = f.removed;
  links = f.links;
  countable = f.countable;
  units = drop k f.units;
}

-- A cut of list l at the offset k inside the face f, with the faces xs before it and ys behind it.
pub record Cuts (F : ℕ → List Face) (l k : ℕ) (xs : List Face) (f : Face) (ys : List Face) : Type 0 where
  pub parts : F l ≡ xs ++ f ∷ ys
  pub low : 0 < k
  pub high : k < length f.units

abbrev pub cut_faces : (ℕ → List Face) → ℕ → ℕ → List Face → Face → List Face → ℕ → List Face
cut_faces F l k xs f ys = put l (xs ++ left_piece k f ∷ right_piece k f ∷ ys) F

-- A cut keeps the law, and changes nothing in the plain document.
abbrev pub CutKeeps : Type 0
CutKeeps = (F : ℕ → List Face) (p : Plain) (l k : ℕ) (xs : List Face) (f : Face) (ys : List Face)
    → Law F p → Cuts F l k xs f ys → Law (cut_faces F l k xs f ys) p

-- The block of an insertion by client c: its clocks continue that client's count.
abbrev pub new_face : Plain → ℕ → Bool → List ℕ → ℕ → Face
new_face p c countable us w = record {
  first = record { client = c; clock = p.counts c };
  removed = false;
  links = w;
  countable = countable;
  units = us;
}

-- An insertion of the units us at i into list l, between the faces xs before its gap and ys behind it; w is the new block's link set.
pub record Inserts (F : ℕ → List Face) (p : Plain) (l i w : ℕ) (us : List ℕ) (xs ys : List Face) : Type 0 where
  pub parts : F l ≡ xs ++ ys
  pub at_gap : length (laid xs) ≡ gap i (p.lists l)
  pub some : 0 < length us
  pub joins : Joins p l (last_of xs) (first_of ys) w

abbrev pub insert_faces : (ℕ → List Face) → Plain → ℕ → ℕ → ℕ → Bool → List ℕ → List Face → List Face → ℕ → List Face
insert_faces F p l c w countable us xs ys = put l (xs ++ new_face p c countable us w ∷ ys) F

-- An insertion keeps the law.
abbrev pub InsertKeeps : Type 0
InsertKeeps = (F : ℕ → List Face) (p : Plain) (l i c w : ℕ) (countable : Bool) (us : List ℕ) (xs ys : List Face)
    → Law F p → Inserts F p l i w us xs ys
    → Law (insert_faces F p l c w countable us xs ys) (after p (Inserted l c i countable us))

-- By the join rule the new block's link set is just the live links of its list whose range, as the list then stands, holds it.
abbrev pub InsertLinks : Type 0
InsertLinks = (F : ℕ → List Face) (p : Plain) (l i c w : ℕ) (countable : Bool) (us : List ℕ) (xs ys : List Face)
    → Law F p → Inserts F p l i w us xs ys
    → JustLinks (after p (Inserted l c i countable us)) l (length (laid xs)) (length us) w

-- A client that has inserted nothing comes last among the clients; any other stands there already.
abbrev pub InsertClients : Type 0
InsertClients = (F : ℕ → List Face) (p : Plain) (l i c : ℕ) (countable : Bool) (us : List ℕ) → Law F p
    → (p.counts c ≡ 0 → (after p (Inserted l c i countable us)).clients ≡ p.clients ++ c ∷ [])
    × (0 < p.counts c → (after p (Inserted l c i countable us)).clients ≡ p.clients)

-- The visible length after an insertion.
abbrev pub InsertLengthens : Type 0
InsertLengthens = (g : ℕ) (first : Id) (countable : Bool) (us : List ℕ) (xs : List Entry)
    → seen (put_in g (entries_of first countable false us) xs) ≡ seen xs + cond countable (length us) 0

-- A face in the reach of a removal: marked if it is countable, with its links.
abbrev pub struck : Face → Face
struck f = record {
  first = f.first;
  removed = f.countable || f.removed;
  links = f.links;
  countable = f.countable;
  units = f.units;
}

-- A removal of n from i in list l, once the faces are cut before its first entry and after its last: the faces ms hold just the visible
-- entries i to i + n - 1, or all from i on where there are fewer.
pub record Removes (F : ℕ → List Face) (l i n : ℕ) (xs ms ys : List Face) : Type 0 where
  pub parts : F l ≡ xs ++ (ms ++ ys)
  -- the faces before them hold the visible entries below i
  pub before : seen (laid xs) ≡ i
  pub reach : (seen (laid ms) ≡ n) ⊎ ((seen (laid ms) ≤ n) × (seen (laid ys) ≡ 0))

abbrev pub remove_faces : (ℕ → List Face) → ℕ → List Face → List Face → List Face → ℕ → List Face
remove_faces F l xs ms ys = put l (xs ++ (map struck ms ++ ys)) F

-- A removal keeps the law.
abbrev pub RemoveKeeps : Type 0
RemoveKeeps = (F : ℕ → List Face) (p : Plain) (l i n : ℕ) (xs ms ys : List Face)
    → Law F p → Removes F l i n xs ms ys → Law (remove_faces F l xs ms ys) (after p (Removed l i n))

-- A removal of nothing, or from behind the last visible entry.
abbrev pub RemovesNone : Plain → ℕ → ℕ → ℕ → Type 0
RemovesNone p l i n = (n ≡ 0) ⊎ (seen (p.lists l) ≤ i)

-- It changes no face.
abbrev pub RemoveNoneKeeps : Type 0
RemoveNoneKeeps = (F : ℕ → List Face) (p : Plain) (l i n : ℕ)
    → Law F p → RemovesNone p l i n → Law F (after p (Removed l i n))

-- The visible length after a removal: as many fewer as it removed, which is n or all from i on.
abbrev pub RemoveShortens : Type 0
RemoveShortens = (i n : ℕ) (xs : List Entry) → seen (remove_from i n 0 xs) + min n (seen xs - i) ≡ seen xs

-- Whether an entry whose place passes a test is visible in the one list and not in the other; the first stands at the place at.
abbrev pub hides_any : (ℕ → Bool) → ℕ → List Entry → List Entry → Bool
hides_any test at [] ys = false
hides_any test at (x ∷ xs) [] = false
hides_any test at (x ∷ xs) (y ∷ ys) = ((visible x && not (visible y)) && test at) || hides_any test (suc at) xs ys

-- The union of the link sets of the visible faces.
abbrev pub union : List Face → ℕ
union [] = 0
union (f ∷ fs) = cond (f.countable && not f.removed) (bit_or f.links (union fs)) (union fs)

-- The union of the link sets of the blocks that a removal marks is the live links whose range holds an entry that it marks.
abbrev pub RemoveAnswers : Type 0
RemoveAnswers = (F : ℕ → List Face) (p : Plain) (l i n : ℕ) (xs ms ys : List Face)
    → Law F p → Removes F l i n xs ms ys
    → (k : ℕ) → bit k (union ms) ≡ hides_any (held p l k) 0 (p.lists l) ((after p (Removed l i n)).lists l)

-- A face that link n is added to.
abbrev pub marked : ℕ → Face → Face
marked n f = record {
  first = f.first;
  removed = f.removed;
  links = bit_or f.links (2 ^ n);
  countable = f.countable;
  units = f.units;
}

-- A source that can be placed under a number: no live link has it, and the source's anchors stand in its list.
pub record Placeable (p : Plain) (n : ℕ) (s : Source) : Type 0 where
  pub free : p.links n ≡ None
  pub small : n < 64
  pub anchored : Anchored s (p.lists s.list)

-- A placing, once the faces are cut at both gaps: the faces ms are those inside the range.
pub record Places (F : ℕ → List Face) (p : Plain) (s : Source) (xs ms ys : List Face) : Type 0 where
  pub parts : F s.list ≡ xs ++ (ms ++ ys)
  pub start_there : start_gap s.start (p.lists s.list) ≡ length (laid xs)
  pub end_there : end_gap s.end (p.lists s.list) ≡ length (laid (xs ++ ms))

abbrev pub place_faces : (ℕ → List Face) → ℕ → ℕ → List Face → List Face → List Face → ℕ → List Face
place_faces F l n xs ms ys = put l (xs ++ (map (marked n) ms ++ ys)) F

-- A placing keeps the law.
abbrev pub PlaceKeeps : Type 0
PlaceKeeps = (F : ℕ → List Face) (p : Plain) (n : ℕ) (s : Source) (xs ms ys : List Face)
    → Law F p → Placeable p n s → Places F p s xs ms ys → Law (place_faces F s.list n xs ms ys) (after p (Placed n s))

-- A source whose range is empty: its gaps meet or cross.
abbrev pub EmptyRange : Plain → Source → Type 0
EmptyRange p s = end_gap s.end (p.lists s.list) ≤ start_gap s.start (p.lists s.list)

-- Placing such a one changes no face.
abbrev pub PlaceEmptyKeeps : Type 0
PlaceEmptyKeeps = (F : ℕ → List Face) (p : Plain) (n : ℕ) (s : Source)
    → Law F p → Placeable p n s → EmptyRange p s → Law F (after p (Placed n s))

-- A face that link n is taken from.
abbrev pub unmarked : ℕ → Face → Face
unmarked n f = record {
  first = f.first;
  removed = f.removed;
  links = bit_and f.links (2 ^ 64 - 1 - 2 ^ n);
  countable = f.countable;
  units = f.units;
}

abbrev pub withdraw_faces : (ℕ → List Face) → ℕ → ℕ → List Face
withdraw_faces F n l = map (unmarked n) (F l)

-- A withdrawal, which takes its link out of every face, keeps the law.
abbrev pub WithdrawKeeps : Type 0
WithdrawKeeps = (F : ℕ → List Face) (p : Plain) (n : ℕ) → Law F p → n < 64 → Law (withdraw_faces F n) (after p (Withdrawn n))
