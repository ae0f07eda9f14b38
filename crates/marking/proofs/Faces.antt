-- A block's record written with another face.
use Rattle.std.proofs.Common.{◌≡◌, ℕ, ◌≢◌, List, [], ◌∷◌, ◌++◌, map, set, Some, None, refl}
use Rattle.table.specs.declared.block.Block.{Block}
use Rattle.table.specs.Cells.{Face, Cell, cell, block, front, last, Path}
use Rattle.table.proofs.Paths.{holds_same, seg_join, seg_front, write_apart, lists_apart, path_apart, path_avoids}
use Rattle.table.proofs.Afters.{here}
use Rattle.marking.specs.Faces.{on_face}

module _ {C : Type 0} where
  -- New faces leave the places as they are.
  pub front_refaced : (mark : Face C → Face C) (xs ms ys : List (Cell C)) → front (xs ++ (map (on_face mark) ms ++ ys)) ≡ front (xs ++ (ms ++ ys))
  front_refaced mark [] [] ys = refl
  front_refaced mark [] (c ∷ ms) ys = refl
  front_refaced mark (x ∷ xs) ms ys = refl

  module _ (t : List (Block C)) (l i : ℕ) (pre : List (Cell C)) (f : Face C) (post : List (Cell C)) (path : Path t l None (pre ++ cell i f ∷ post)) where
    this : Path t l (last None pre) (cell i f ∷ post)
    this = here t l i pre f post path

    pub refaced_path : (g : Face C) → Path (set t i (block l (last None pre) (front post) g)) l None (pre ++ cell i g ∷ post)
    refaced_path g =
        let b : Block C = block l (last None pre) (front post) g in
        seg_join (set t i b) l None pre (cell i g ∷ post) None
        (write_apart t l None pre (Some i) i b (seg_front t l None pre (cell i f ∷ post) None path) (path_avoids t l None pre (cell i f ∷ post) path).0)
        (holds_same t i b this.0.within, write_apart t l (Some i) post None i b this.1 (path_apart t l (last None pre) (cell i f) post this))

    -- A list of another number stands as it did, whatever is written.
    pub refaced_other : (m : ℕ) (ys : List (Cell C)) (b : Block C) → l ≢ m → Path t m None ys → Path (set t i b) m None ys
    refaced_other m ys b ne other = write_apart t m None ys None i b other (lists_apart t l m (last None pre) None None None (cell i f ∷ post) ys this other ne).0
