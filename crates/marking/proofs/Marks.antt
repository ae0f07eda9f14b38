-- A walk along a run of a list that changes the faces of its cells, one after another, and nothing else.
use Rattle.std.proofs.Common.{◌≡◌, ℕ, suc, ◌<◌, ◌≢◌, List, [], ◌∷◌, ◌++◌, map, length, get_or, set, None, Option, sym, refl, ap, ◌∙◌, subst, append_assoc, arith}
use Rattle.std.proofs.lemmas.List.{map-append, map_push}
use Rattle.table.specs.declared.block.Block.{Block}
use Rattle.table.specs.Cells.{Face, Cell, cell, block, face_of, Holds, front, last, Path, Apart, cells, Stands, Kept}
use Rattle.table.proofs.Paths.{holds_other, holds_unique, all_back, seg_back}
use Rattle.table.proofs.Afters.{here}
use Rattle.table.proofs.Computed.{cells_of, stands_of, kept_of}
use Rattle.table.proofs.Walks.{Opened}
use Rattle.marking.specs.Faces.{on_face}
use Rattle.marking.proofs.Faces.{front_refaced, refaced_path, refaced_other}

-- How far a walk over the cells ms has come, which stand between pre and ys in list l: the table was t and is u, the cells done
-- have what mark makes of their faces, and the cells rest are still to come.
pub record Marking {C : Type 0} (mark : Face C → Face C) (t : List (Block C)) (l : ℕ) (pre ms ys : List (Cell C)) (u : List (Block C)) (cur : Option ℕ) : Type 0 where
  pub done : List (Cell C)
  pub rest : List (Cell C)
  pub parts : ms ≡ done ++ rest
  pub at_hand : front (rest ++ ys) ≡ cur
  pub path : Path u l None (pre ++ (map (on_face mark) done ++ (rest ++ ys)))
  pub others : (m : ℕ) (head : Option ℕ) → l ≢ m → Stands t m head → Path u m None (cells t head)
  pub elsewhere : (i : ℕ) (b : Block C) → Apart i ms → Holds t i b → Holds u i b

regroup : {X : Type 0} (f : X → X) (pre done : List X) (x : X) (post : List X) → (pre ++ map f done) ++ f x ∷ post ≡ pre ++ (map f (done ++ x ∷ []) ++ post)
regroup f pre done x post =
    append_assoc pre (map f done) (f x ∷ post)
    ∙ ap (λ xs. pre ++ xs) (sym (ap (λ xs. xs ++ post) (map_push f done x) ∙ append_assoc (map f done) (f x ∷ []) post))

module _ {C : Type 0} {mark : Face C → Face C} {t : List (Block C)} {l : ℕ} {pre ms ys : List (Cell C)} where
  abbrev pub marking_start : {start cur : Option ℕ} → Stands t l start → cells t start ≡ pre ++ (ms ++ ys) → front (ms ++ ys) ≡ cur → Marking mark t l pre ms ys t cur
  marking_start s parts e = record {
    done = [];
    rest = ms;
    parts = refl;
    at_hand = e;
    path = subst (λ (xs : List (Cell C)). Path t l None xs) parts s.path;
    others = λ m head ne o. o.path;
    elsewhere = λ i b apart h. h;
  }

  module _ {u : List (Block C)} {cur : Option ℕ} (m : Marking mark t l pre ms ys u cur) where
    path : Path u l None ((pre ++ map (on_face mark) m.done) ++ (m.rest ++ ys))
    path = subst (λ (xs : List (Cell C)). Path u l None xs) (sym (append_assoc pre (map (on_face mark) m.done) (m.rest ++ ys))) m.path

    pub remaining : cells u cur ≡ m.rest ++ ys
    remaining = cells_of u l _ cur (m.rest ++ ys) (seg_back u l None (pre ++ map (on_face mark) m.done) (m.rest ++ ys) None path) m.at_hand

  module _ {u : List (Block C)} {cur : Option ℕ} (m : Marking mark t l pre ms ys u cur) where
    -- One cell more.
    module _ {i : ℕ} (o : Opened i m.rest) where
      pub turn_path : Path u l None ((pre ++ map (on_face mark) m.done) ++ cell i o.face ∷ (o.rest ++ ys))
      turn_path = subst (λ (xs : List (Cell C)). Path u l None ((pre ++ map (on_face mark) m.done) ++ (xs ++ ys))) o.parts (path m)

      turn_here : Path u l (last None (pre ++ map (on_face mark) m.done)) (cell i o.face ∷ (o.rest ++ ys))
      turn_here = here u l i (pre ++ map (on_face mark) m.done) o.face (o.rest ++ ys) turn_path

      pub marking_within : i < length u
      marking_within = turn_here.0.within

      pub next_parts : ms ≡ (m.done ++ cell i o.face ∷ []) ++ o.rest
      next_parts = m.parts ∙ ap (λ (xs : List (Cell C)). m.done ++ xs) o.parts ∙ sym (append_assoc m.done (cell i o.face ∷ []) o.rest)

      pub away : (j : ℕ) → Apart j ms → j ≢ i
      away j apart e = (all_back (λ (c : Cell C). c.at ≢ j) m.done (cell i o.face ∷ o.rest)
          (subst (λ (xs : List (Cell C)). Apart j xs) (m.parts ∙ ap (λ (xs : List (Cell C)). m.done ++ xs) o.parts) apart)).0 (sym e)

      pub marking_falls : {v : List (Block C)} {next : Option ℕ} (n : Marking mark t l pre ms ys v next) → n.rest ≡ o.rest → length (cells v next) < length (cells u cur)
      marking_falls {v = v} {next = next} n e =
          let was : length (cells u cur) ≡ suc (length (o.rest ++ ys)) = ap length (remaining m ∙ ap (λ (xs : List (Cell C)). xs ++ ys) o.parts) in
          let is : length (cells v next) ≡ length (o.rest ++ ys) = ap length (remaining n ∙ ap (λ (xs : List (Cell C)). xs ++ ys) e) in
          omega arith

      module _ {b : Block C} (read : b ≡ get_or u i b) where
        b_is : b ≡ block l (last None (pre ++ map (on_face mark) m.done)) (front (o.rest ++ ys)) o.face
        b_is = holds_unique u i b _ (record { within = marking_within; is = read }) turn_here.0

        pub marking_face : face_of b ≡ o.face
        marking_face = ap face_of b_is

        pub next_at_hand : front (o.rest ++ ys) ≡ b.right
        next_at_hand = ap (λ (y : Block C). y.right) (sym b_is)

        -- The face is changed in the record.
        module _ {v : Block C} (e : v ≡ block b.list b.left b.right (mark (face_of b))) where
          v_is : v ≡ block l (last None (pre ++ map (on_face mark) m.done)) (front (o.rest ++ ys)) (mark o.face)
          v_is = e ∙ ap (λ (y : Block C). block y.list y.left y.right (mark (face_of y))) b_is

          pub write_path : Path (set u i v) l None (pre ++ (map (on_face mark) (m.done ++ cell i o.face ∷ []) ++ (o.rest ++ ys)))
          write_path =
              subst (λ (y : Block C). Path (set u i y) l None (pre ++ (map (on_face mark) (m.done ++ cell i o.face ∷ []) ++ (o.rest ++ ys)))) (sym v_is)
              (subst (λ (xs : List (Cell C)). Path (set u i (block l (last None (pre ++ map (on_face mark) m.done)) (front (o.rest ++ ys)) (mark o.face))) l None xs) (regroup (on_face mark) pre m.done (cell i o.face) (o.rest ++ ys))
              (refaced_path u l i (pre ++ map (on_face mark) m.done) o.face (o.rest ++ ys) turn_path (mark o.face)))

          abbrev pub marking_write : Marking mark t l pre ms ys (set u i v) b.right
          marking_write = record {
            done = m.done ++ cell i o.face ∷ [];
            rest = o.rest;
            parts = next_parts;
            at_hand = next_at_hand;
            path = write_path;
            others = λ k head ne s. refaced_other u l i (pre ++ map (on_face mark) m.done) o.face (o.rest ++ ys) turn_path k (cells t head) v ne (m.others k head ne s);
            elsewhere = λ j y apart h. holds_other u j i y v (m.elsewhere j y apart h) (away j apart);
          }

        -- The face is as it is to be already.
        module _ (same : mark o.face ≡ o.face) where
          pub keep_path : Path u l None (pre ++ (map (on_face mark) (m.done ++ cell i o.face ∷ []) ++ (o.rest ++ ys)))
          keep_path =
              subst (λ (xs : List (Cell C)). Path u l None xs) (regroup (on_face mark) pre m.done (cell i o.face) (o.rest ++ ys))
              (subst (λ (f : Face C). Path u l None ((pre ++ map (on_face mark) m.done) ++ cell i f ∷ (o.rest ++ ys))) (sym same) turn_path)

          abbrev pub marking_keep : Marking mark t l pre ms ys u b.right
          marking_keep = record {
            done = m.done ++ cell i o.face ∷ [];
            rest = o.rest;
            parts = next_parts;
            at_hand = next_at_hand;
            path = keep_path;
            others = m.others;
            elsewhere = m.elsewhere;
          }

    -- No cell is left that has to be changed.
    module _ {start : Option ℕ} (s : Stands t l start) (parts : cells t start ≡ pre ++ (ms ++ ys)) (same : map (on_face mark) m.rest ≡ m.rest) where
      all_marked : map (on_face mark) m.done ++ (m.rest ++ ys) ≡ map (on_face mark) ms ++ ys
      all_marked =
          sym (append_assoc (map (on_face mark) m.done) m.rest ys)
          ∙ ap (λ (xs : List (Cell C)). (map (on_face mark) m.done ++ xs) ++ ys) (sym same)
          ∙ ap (λ (xs : List (Cell C)). xs ++ ys) (sym (ap (map (on_face mark)) m.parts ∙ map-append (on_face mark) m.done m.rest))

      now_path : Path u l None (pre ++ (map (on_face mark) ms ++ ys))
      now_path = subst (λ (xs : List (Cell C)). Path u l None (pre ++ xs)) all_marked m.path

      now_front : front (pre ++ (map (on_face mark) ms ++ ys)) ≡ start
      now_front = front_refaced mark pre ms ys ∙ ap front (sym parts) ∙ s.starts

      pub marking_stands : Stands u l start
      marking_stands = stands_of u l start _ now_path now_front

      pub marking_cells : cells u start ≡ pre ++ (map (on_face mark) ms ++ ys)
      marking_cells = cells_of u l None start _ now_path now_front

    pub marking_others : (k : ℕ) (head : Option ℕ) → l ≢ k → Stands t k head → Kept t u k head
    marking_others k head ne s = kept_of t u k head s (m.others k head ne s)
