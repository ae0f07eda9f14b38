-- What the code of split writes, and what that is of the cells.
use Rattle.std.proofs.Common.{◌≡◌, ℕ, ◌+◌, ◌-◌, ◌^◌, ◌<◌, ◌≤◌, List, ◌∷◌, ◌++◌, length, get_or, set, Some, None, sym, ap, ◌∙◌, subst, ap₂, arith}
use Rattle.content.specs.declared.content.Content.{Ghosts}
use Rattle.table.specs.declared.block.Block.{Block}
use Rattle.table.specs.Cells.{Cell, cell, block, front, last, Path, Apart, cells}
use Rattle.table.specs.Cuts.{later, left_piece, right_piece, put_after, Cuttable, Cut}
use Rattle.table.specs.Puts.{Relinks}
use Rattle.table.proofs.Paths.{holds_unique, front-within}
use Rattle.table.proofs.Computed.{cells_of, stands_of, kept_of}
use Rattle.table.proofs.Afters.{here, front_kept, after_path, after_relink, after_other}

abbrev right_of : {C : Type 0} → ℕ → ℕ → C → Block C → Block C
right_of i k z b = record { id = later b.id k; list = b.list; left = Some i; right = b.right; origin = Some (later b.id (k - 1)); right_origin = b.right_origin; removed = b.removed; links = b.links; content = z }

abbrev left_of : {C : Type 0} → ℕ → C → Block C → Block C
left_of j a b = record { id = b.id; list = b.list; left = b.left; right = Some j; origin = b.origin; right_origin = b.right_origin; removed = b.removed; links = b.links; content = a }

module _ {C : Type 0} {K : Ghosts C} {t : List (Block C)} {i k j : ℕ} (w : Cuttable K t i k j) where
  path : Path t w.list None (w.pre ++ cell i w.face ∷ w.post)
  path = subst (λ cs. Path t w.list None cs) w.parts w.stands.path

  free : Apart j (w.pre ++ cell i w.face ∷ w.post)
  free = subst (λ (cs : List (Cell C)). Apart j cs) w.parts w.free

  pub i_within : i < length t
  i_within = (here t w.list i w.pre w.face w.post path).0.within

  module _ {b : Block C} (read : b ≡ get_or t i b) where
    b_is : b ≡ block w.list (last None w.pre) (front w.post) w.face
    b_is = holds_unique t i b _ (record { within = i_within; is = read }) (here t w.list i w.pre w.face w.post path).0

    pub below : k < K.size b.content
    below = subst (λ (y : Block C). k < K.size y.content) (sym b_is) w.some_right

    pub clocked : b.id.clock + k < 2 ^ 32
    clocked =
        let ids : b.id.clock + K.size b.content ≤ 2 ^ 32 = subst (λ (y : Block C). y.id.clock + K.size y.content ≤ 2 ^ 32) (sym b_is) w.ids in
        let lt : k < K.size b.content = below in
        omega arith

    right_is : front w.post ≡ b.right
    right_is = ap (λ (y : Block C). y.right) (sym b_is)

    pub next-within : (n : ℕ) → b.right ≡ Some n → n < length t
    next-within n e = front-within t w.list (Some i) w.post n (here t w.list i w.pre w.face w.post path).1 (right_is ∙ e)

    module _ {a z : C} (ea : a ≡ K.fore k b.content) (ez : z ≡ K.rear k b.content) {u : List (Block C)}
        (relinks : Relinks (set (set t j (right_of i k z b)) i (left_of j a b)) b.right j u) where
      two_is : set (set t j (right_of i k z b)) i (left_of j a b)
          ≡ set (set t j (block w.list (Some i) (front w.post) (right_piece K k w.face))) i (block w.list (last None w.pre) (Some j) (left_piece K k w.face))
      two_is = ap₂ (λ (x y : C). set (set t j (right_of i k y b)) i (left_of j x b)) ea ez
          ∙ ap (λ (y : Block C). set (set t j (right_of i k (K.rear k y.content) y)) i (left_of j (K.fore k y.content) y)) b_is

      table : u ≡ put_after t w.list i j (last None w.pre) (left_piece K k w.face) (right_piece K k w.face) w.post
      table = after_relink t w.list i w.pre w.face w.post path j free _ _ _ _ b.right u two_is right_is relinks

      now_path : Path u w.list None (w.pre ++ cell i (left_piece K k w.face) ∷ cell j (right_piece K k w.face) ∷ w.post)
      now_path = subst (λ v. Path v w.list None (w.pre ++ cell i (left_piece K k w.face) ∷ cell j (right_piece K k w.face) ∷ w.post)) (sym table)
          (after_path t w.list i w.pre w.face w.post path j free w.room (left_piece K k w.face) (right_piece K k w.face))

      now_front : front (w.pre ++ cell i (left_piece K k w.face) ∷ cell j (right_piece K k w.face) ∷ w.post) ≡ w.start
      now_front = front_kept w.pre i _ w.face _ w.post ∙ ap front (sym w.parts) ∙ w.stands.starts

      pub cut : Cut K t i k j w u
      cut = record {
        table = table;
        stands = stands_of u w.list w.start _ now_path now_front;
        now_cells = cells_of u w.list None w.start _ now_path now_front;
        others = λ m start ne s apart. kept_of t u m start s
            (subst (λ v. Path v m None (cells t start)) (sym table) (after_other t w.list i w.pre w.face w.post path j m (cells t start) _ _ ne s.path apart));
      }
