-- A block that is cut in two, among the blocks of its list.
use Rattle.std.specs.Prelude.{◌≡◌, ℕ, ◌<◌, Bool, cond, List, ◌∷◌, ◌++◌}
use Rattle.content.specs.declared.content.Content.{Ghosts}
use Rattle.table.specs.Cells.{Face, Cell, cell}
use Rattle.table.specs.Cuts.{left_piece, right_piece}

-- A cut takes one new block.
abbrev pub one_if : Bool → ℕ
one_if b = cond b 1 0

-- One of the cells has units on both sides of an offset.
pub record CutBlock {C : Type 0} (K : Ghosts C) (cs : List (Cell C)) : Type 0 where
  pub pre : List (Cell C)
  pub place : ℕ
  pub face : Face C
  pub post : List (Cell C)
  pub offset : ℕ
  pub parts : cs ≡ pre ++ cell place face ∷ post
  pub low : 0 < offset
  pub high : offset < K.size face.content

-- The cells with that block cut there, its right piece in the record j.
abbrev pub pieces : {C : Type 0} {K : Ghosts C} {cs : List (Cell C)} → ℕ → CutBlock K cs → List (Cell C)
pieces {C} {K} j w = w.pre ++ cell w.place (left_piece K w.offset w.face) ∷ cell j (right_piece K w.offset w.face) ∷ w.post
