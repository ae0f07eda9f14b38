-- A list of three blocks in three records.
use Rattle.std.proofs.Common.{◌≡◌, ℕ, ◌<◌, List, [], ◌∷◌, ◌++◌, Some, None, Option, sym, refl, ◌∙◌, subst, lit<}
use Rattle.std.specs.List.{AllByRecursion}
use Rattle.content.specs.declared.content.Content.{Ghosts}
use Rattle.table.specs.declared.block.Block.{Block}
use Rattle.table.specs.Cells.{Face, Cell, cell, block, front, Path, cells}
use Rattle.table.specs.Lookups.{visible}
use Rattle.table.proofs.Computed.{cells_of, stands_of}
use Rattle.marking.specs.Strikes.{Strikable}

-- Their cells.
abbrev three : {C : Type 0} → Face C → Face C → Face C → List (Cell C)
three f g h = cell 0 f ∷ cell 1 g ∷ cell 2 h ∷ []

module _ {C : Type 0} (K : Ghosts C) {a b c : Block C} {f g h : Face C} (ea : a ≡ block 0 None (Some 1) f) (eb : b ≡ block 0 (Some 0) (Some 2) g) (ec : c ≡ block 0 (Some 1) None h) where
  row : Path (a ∷ b ∷ c ∷ []) 0 None (three f g h)
  row = (record { within = lit< tt; is = sym ea }, (record { within = lit< tt; is = sym eb }, (record { within = lit< tt; is = sym ec }, tt)))

  row_is : cells (a ∷ b ∷ c ∷ []) (Some 0) ≡ three f g h
  row_is = cells_of (a ∷ b ∷ c ∷ []) 0 None (Some 0) (three f g h) row refl

  -- The cells between pre and ys may be struck.
  pub strikable : (pre ms ys : List (Cell C)) (from : Option ℕ) (n : ℕ) → three f g h ≡ pre ++ (ms ++ ys) → front (ms ++ ys) ≡ from → visible K ms ≡ n
      → AllByRecursion (λ z. 0 < K.size z.face.content) (three f g h) → Strikable K (a ∷ b ∷ c ∷ []) from n
  strikable pre ms ys from n parts at_hand sum filled = record {
    list = 0;
    start = Some 0;
    pre = pre;
    ms = ms;
    ys = ys;
    stands = stands_of (a ∷ b ∷ c ∷ []) 0 (Some 0) (three f g h) row refl;
    parts = row_is ∙ parts;
    at_hand = at_hand;
    sum = sum;
    filled = subst (λ (xs : List (Cell C)). AllByRecursion (λ z. 0 < K.size z.face.content) xs) (sym row_is) filled;
  }
