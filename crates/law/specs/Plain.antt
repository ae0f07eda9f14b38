-- The plain document: lists of entries, live links and the log of calls that makes them, told without blocks.
use Rattle.std.specs.Prelude.{ℕ, zero, suc, ◌+◌, Bool, true, false, cond, not, ◌&&◌, List, [], ◌∷◌, ◌++◌, length, take, drop, Some, None, filter, Option, ◌==◌, nat_eq, nat_le, nat_lt}
use Rattle.std.specs.Str.{bytes_eq}

-- An id: a client number, and that client's clock. 1:4 is client 1, clock 4.
pub record Id : Type 0 where
  pub client : ℕ
  pub clock : ℕ

-- Whether two ids are the same.
abbrev pub same_id : Id → Id → Bool
same_id a b = a.client == b.client && a.clock == b.clock

-- An entry of a plain list: one unit of an inserted content, with its id, whether its content is countable, and the removed mark.
pub record Entry : Type 0 where
  pub id : Id
  pub unit : ℕ
  pub countable : Bool
  pub removed : Bool

-- An entry is visible if it is countable and not removed.
abbrev pub visible : Entry → Bool
visible e = e.countable && not e.removed

-- How many elements of a list pass a test.
abbrev pub many : {X : Type 0} → (X → Bool) → List X → ℕ
many test [] = 0
many test (x ∷ xs) = cond (test x) (suc (many test xs)) (many test xs)

-- How many entries are visible: the length that a list keeps, L. Visible indices are 0 to L - 1.
abbrev pub seen : List Entry → ℕ
seen xs = many visible xs

-- Whether an entry has an id, and how often the id stands in a list.
abbrev pub has_id : Id → Entry → Bool
has_id a e = same_id a e.id

abbrev pub times : Id → List Entry → ℕ
times a xs = many (has_id a) xs

-- A gap lies between two entries, at the front or at the back, and is told by the number of entries before it. This is the one directly
-- after visible entry i - 1, before any hidden entries that follow it; the very front for i = 0.
abbrev pub gap : ℕ → List Entry → ℕ
gap zero xs = 0
gap (suc i) [] = 0
gap (suc i) (e ∷ xs) = suc (gap (cond (visible e) i (suc i)) xs)

-- The entries of a run of units: one for each, in order, their clocks counting on from the first id's.
abbrev pub entries_of : Id → Bool → Bool → List ℕ → List Entry
entries_of first countable removed [] = []
entries_of first countable removed (u ∷ us) =
    record { id = first; unit = u; countable = countable; removed = removed }
    ∷ entries_of (record { client = first.client; clock = suc first.clock }) countable removed us

-- The list with more entries put into a gap.
abbrev pub put_in : ℕ → List Entry → List Entry → List Entry
put_in g more xs = take g xs ++ (more ++ drop g xs)

-- An entry with the removed mark.
abbrev pub mark_removed : Entry → Entry
mark_removed e = record { id = e.id; unit = e.unit; countable = e.countable; removed = true }

-- A removal of n from i marks the visible entries i to i + n - 1, as far as they exist; v visible ones stand before this part of the list.
abbrev pub remove_from : ℕ → ℕ → ℕ → List Entry → List Entry
remove_from i n v [] = []
remove_from i n v (e ∷ xs) =
    cond (visible e && (nat_le i v && nat_lt v (i + n))) (mark_removed e) e ∷ remove_from i n (cond (visible e) (suc v) v) xs

-- A side of a source: open on its list, or anchored at an entry and sticking just before or just after it.
pub data Side : Type 0 where
  Open : Side
  Before : Id → Side
  After : Id → Side

-- A source: a list, by its number, with a start and an end there.
pub record Source : Type 0 where
  pub list : ℕ
  pub start : Side
  pub end : Side

-- The place of the entry with an id: how many entries stand before it. It is the whole length if there is none.
abbrev pub place : Id → List Entry → ℕ
place a [] = 0
place a (e ∷ xs) = cond (has_id a e) 0 (suc (place a xs))

-- The gap of a start: Before a is the gap just before entry a, After a the gap just after it; an open start is the front.
abbrev pub start_gap : Side → List Entry → ℕ
start_gap Open xs = 0
start_gap (Before a) xs = place a xs
start_gap (After a) xs = suc (place a xs)

-- The gap of an end: the same, but an open end is the back.
abbrev pub end_gap : Side → List Entry → ℕ
end_gap Open xs = length xs
end_gap (Before a) xs = place a xs
end_gap (After a) xs = suc (place a xs)

-- The range: place q is in it where start gap ≤ q < end gap. So where the gaps meet or cross, it holds none.
abbrev pub within : Source → List Entry → ℕ → Bool
within s xs q = nat_le (start_gap s.start xs) q && nat_lt q (end_gap s.end xs)

-- The entries whose places pass a test; the first of them stands at the place at.
abbrev pub picked : (ℕ → Bool) → ℕ → List Entry → List Entry
picked test at [] = []
picked test at (e ∷ xs) = cond (test at) (e ∷ picked test (suc at) xs) (picked test (suc at) xs)

-- The entries of the range, hidden ones too.
abbrev pub range : Source → List Entry → List Entry
range s xs = picked (within s xs) 0 xs

-- What a reading from k gives: the visible entries of the range, from the k-th on.
abbrev pub reading : Source → ℕ → List Entry → List Entry
reading s k xs = drop k (filter visible (range s xs))

-- A plain document.
pub record Plain : Type 0 where
  -- the names of the open lists, none twice: a list's number is its name's place here
  pub names : List (List ℕ)
  -- the lists by number
  pub lists : ℕ → List Entry
  -- the clients that have inserted, in the order of their first insertion, none twice: a 17th is refused
  pub clients : List ℕ
  -- how many units each client has inserted, over all lists: its next clock
  pub counts : ℕ → ℕ
  -- the unit words that makings have appended
  pub words : List ℕ
  -- the live links by number: a placing makes its source one, until its number is withdrawn
  pub links : ℕ → Option Source

-- A new document: no list is open, nothing inserted, nothing made, nothing placed.
abbrev pub empty : Plain
empty = record { names = []; lists = λ _. []; clients = []; counts = λ _. 0; words = []; links = λ _. None }

-- A function changed at one number.
abbrev pub put : {X : Type 0} → ℕ → X → (ℕ → X) → ℕ → X
put n x f m = cond (m == n) x (f m)

-- A list with an element, none twice: where a like one stands already it is unchanged, and a new one comes last.
abbrev pub with_new : {X : Type 0} → (X → X → Bool) → X → List X → List X
with_new like x [] = x ∷ []
with_new like x (y ∷ ys) = cond (like x y) (y ∷ ys) (y ∷ with_new like x ys)

-- A deed: what a call did, if it was accepted. A refused call, a cut and a reading are Nothing; these and makings change nothing in the
-- plain lists. An accepted insertion stands here with its content's countable, and with its units as the word table gave them at that
-- moment, never as the content: a content has its units only over the words, so that a making which overwrote words would change the blocks
-- and the plain lists alike, and the law would not tell.
pub data Deed : Type 0 where
  Opened : (name : List ℕ) → Deed
  Made : (words : List ℕ) → Deed
  Inserted : (list client index : ℕ) (countable : Bool) (units : List ℕ) → Deed
  Removed : (list index number : ℕ) → Deed
  Placed : (link : ℕ) (source : Source) → Deed
  Withdrawn : (link : ℕ) → Deed
  Nothing : Deed

-- A log: the deeds of a run of calls on one document, oldest first.
abbrev pub Log : Type 0
Log = List Deed

-- What a deed makes of the plain document.
abbrev pub after : Plain → Deed → Plain
after p (Opened name) = record {
  names = with_new bytes_eq name p.names;
  lists = p.lists;
  clients = p.clients;
  counts = p.counts;
  words = p.words;
  links = p.links;
}
after p (Made ws) = record {
  names = p.names;
  lists = p.lists;
  clients = p.clients;
  counts = p.counts;
  words = p.words ++ ws;
  links = p.links;
}
after p (Inserted l c i countable us) = record {
  names = p.names;
  lists = put l (put_in (gap i (p.lists l)) (entries_of (record { client = c; clock = p.counts c }) countable false us) (p.lists l)) p.lists;
  clients = with_new nat_eq c p.clients;
  counts = put c (p.counts c + length us) p.counts;
  words = p.words;
  links = p.links;
}
after p (Removed l i n) = record {
  names = p.names;
  lists = put l (remove_from i n 0 (p.lists l)) p.lists;
  clients = p.clients;
  counts = p.counts;
  words = p.words;
  links = p.links;
}
after p (Placed n s) = record {
  names = p.names;
  lists = p.lists;
  clients = p.clients;
  counts = p.counts;
  words = p.words;
  links = put n (Some s) p.links;
}
after p (Withdrawn n) = record {
  names = p.names;
  lists = p.lists;
  clients = p.clients;
  counts = p.counts;
  words = p.words;
  links = put n None p.links;
}
after p Nothing = p

-- What a log makes of a plain document.
abbrev pub run : Plain → Log → Plain
run p [] = p
run p (d ∷ ds) = run (after p d) ds

-- The plain document of a log: what it makes of a new one.
abbrev pub plain : Log → Plain
plain ds = run empty ds
