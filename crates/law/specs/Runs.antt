-- The law over any run of calls.
use Rattle.std.specs.Prelude.{◌≡◌, ℕ, ◌<◌, Bool, List, [], ◌∷◌, ◌++◌}
use Rattle.law.specs.Plain.{Source, Plain, empty, Deed, Log, after, plain}
use Rattle.law.specs.Plain.Deed.{Opened, Made, Inserted, Removed, Placed, Withdrawn, Nothing}
use Rattle.law.specs.Faces.{Face, Law}
use Rattle.law.specs.Changes.{Cuts, cut_faces, Inserts, insert_faces, Removes, remove_faces, RemovesNone, Placeable, Places, place_faces, EmptyRange, withdraw_faces}

-- Faces that are the same at every list obey the same law.
abbrev pub SameFaces : Type 0
SameFaces = (F G : ℕ → List Face) (p : Plain) → ((l : ℕ) → F l ≡ G l) → Law F p → Law G p

-- A new document obeys the law.
abbrev pub EmptyLawful : Type 0
EmptyLawful = Law (λ _. []) empty

-- Opening a list, making a content, and what is nothing in the log change no face.
abbrev pub OpenKeeps : Type 0
OpenKeeps = (F : ℕ → List Face) (p : Plain) (name : List ℕ) → Law F p → Law F (after p (Opened name))

abbrev pub MakeKeeps : Type 0
MakeKeeps = (F : ℕ → List Face) (p : Plain) (ws : List ℕ) → Law F p → Law F (after p (Made ws))

abbrev pub NothingKeeps : Type 0
NothingKeeps = (F : ℕ → List Face) (p : Plain) → Law F p → Law F (after p Nothing)

-- The plain document one deed further.
abbrev pub PlainMore : Type 0
PlainMore = (ds : Log) (d : Deed) → plain (ds ++ d ∷ []) ≡ after (plain ds) d

-- The faces that a run of calls can come to, with its log: from none on, by cuts, which are no deed, and by the deeds of the calls.
pub data Reached : (ℕ → List Face) → Log → Type 0 where
  Fresh : Reached (λ _. []) []
  Cut : (F : ℕ → List Face) (ds : Log) (l k : ℕ) (xs : List Face) (f : Face) (ys : List Face)
      → Reached F ds → Cuts F l k xs f ys → Reached (cut_faces F l k xs f ys) ds
  OpenList : (F : ℕ → List Face) (ds : Log) (name : List ℕ) → Reached F ds → Reached F (ds ++ Opened name ∷ [])
  Make : (F : ℕ → List Face) (ds : Log) (ws : List ℕ) → Reached F ds → Reached F (ds ++ Made ws ∷ [])
  Stay : (F : ℕ → List Face) (ds : Log) → Reached F ds → Reached F (ds ++ Nothing ∷ [])
  Insert : (F : ℕ → List Face) (ds : Log) (l i c w : ℕ) (countable : Bool) (us : List ℕ) (xs ys : List Face)
      → Reached F ds → Inserts F (plain ds) l i w us xs ys
      → Reached (insert_faces F (plain ds) l c w countable us xs ys) (ds ++ Inserted l c i countable us ∷ [])
  Remove : (F : ℕ → List Face) (ds : Log) (l i n : ℕ) (xs ms ys : List Face)
      → Reached F ds → Removes F l i n xs ms ys → Reached (remove_faces F l xs ms ys) (ds ++ Removed l i n ∷ [])
  RemoveNone : (F : ℕ → List Face) (ds : Log) (l i n : ℕ)
      → Reached F ds → RemovesNone (plain ds) l i n → Reached F (ds ++ Removed l i n ∷ [])
  Place : (F : ℕ → List Face) (ds : Log) (n : ℕ) (s : Source) (xs ms ys : List Face)
      → Reached F ds → Placeable (plain ds) n s → Places F (plain ds) s xs ms ys
      → Reached (place_faces F s.list n xs ms ys) (ds ++ Placed n s ∷ [])
  PlaceEmpty : (F : ℕ → List Face) (ds : Log) (n : ℕ) (s : Source)
      → Reached F ds → Placeable (plain ds) n s → EmptyRange (plain ds) s → Reached F (ds ++ Placed n s ∷ [])
  Withdraw : (F : ℕ → List Face) (ds : Log) (n : ℕ)
      → Reached F ds → n < 64 → Reached (withdraw_faces F n) (ds ++ Withdrawn n ∷ [])

-- The law holds over any run.
abbrev pub RunsLawful : Type 0
RunsLawful = (F : ℕ → List Face) (ds : Log) → Reached F ds → Law F (plain ds)
