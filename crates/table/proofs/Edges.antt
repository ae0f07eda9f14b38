-- What stands beside a gap.
use Rattle.std.proofs.Common.{◌≡◌, ℕ, zero, suc, ◌-◌, ◌<◌, List, [], ◌∷◌, ◌++◌, length, get_or, Some, None, Option, sym, refl, ap, ◌∙◌, subst, append_assoc, arith}
use Rattle.std.proofs.lemmas.Option.{slice_get_read}
use Rattle.std.specs.List.{slice_get, AllByRecursion}
use Rattle.content.specs.declared.content.Content.{Ghosts}
use Rattle.table.specs.declared.block.Block.{Block}
use Rattle.table.specs.Cells.{Cell, cell, block, face_of, front, last, Path, with_block, cells_from, cells}
use Rattle.table.specs.Cuts.{later}
use Rattle.table.specs.Gaps.{Numbered, Gap, last_id, last_links, LeftIs, RightIs}
use Rattle.table.proofs.Paths.{all_back, holds_unique, seg_back}
use Rattle.table.proofs.Splices.{Ends, ends_some, ends-none}

module _ {C : Type 0} where
  last_id_end : (K : Ghosts C) (xs : List (Cell C)) (c : Cell C) → last_id K (xs ++ c ∷ []) ≡ Some (later c.face.id (K.size c.face.content - 1))
  last_id_end K [] c = refl
  last_id_end K (x ∷ []) c = refl
  last_id_end K (x ∷ y ∷ xs) c = last_id_end K (y ∷ xs) c

  last_links_end : (xs : List (Cell C)) (c : Cell C) → last_links (xs ++ c ∷ []) ≡ c.face.links
  last_links_end [] c = refl
  last_links_end (x ∷ []) c = refl
  last_links_end (x ∷ y ∷ xs) c = last_links_end (y ∷ xs) c

  module _ {K : Ghosts C} {t : List (Block C)} {start left : Option ℕ} (w : Gap K t start left) where
    pub left_none : left ≡ None → LeftIs K w.pre w.post (record { last = None; links = 0; right = start })
    left_none e =
        let z : w.pre ≡ [] = ends-none w.pre (w.ends ∙ e) in
        record {
          id = sym (ap (last_id K) z);
          set = sym (ap last_links z);
          right = sym w.stands.starts ∙ ap front w.parts ∙ ap (λ (xs : List (Cell C)). front (xs ++ w.post)) z;
        }

    module _ {i : ℕ} (e : left ≡ Some i) where
      end : Ends i w.pre
      end = ends_some i w.pre (w.ends ∙ e)

      parts : cells t start ≡ end.before ++ cell i end.face ∷ w.post
      parts = w.parts ∙ ap (λ (xs : List (Cell C)). xs ++ w.post) end.parts ∙ append_assoc end.before (cell i end.face ∷ []) w.post

      here : Path t w.list (last None end.before) (cell i end.face ∷ w.post)
      here = seg_back t w.list None end.before (cell i end.face ∷ w.post) None (subst (λ (xs : List (Cell C)). Path t w.list None xs) parts w.stands.path)

      pub left_within : i < length t
      left_within = here.0.within

      module _ {b : Block C} (read : b ≡ get_or t i b) where
        b_is : b ≡ block w.list (last None end.before) (front w.post) end.face
        b_is = holds_unique t i b _ (record { within = left_within; is = read }) here.0

        pub left_numbered : Numbered K (face_of b)
        left_numbered =
            subst (λ (y : Block C). Numbered K (face_of y)) (sym b_is)
            (all_back (λ (c : Cell C). Numbered K c.face) end.before (cell i end.face ∷ w.post) (subst (λ (xs : List (Cell C)). AllByRecursion (λ c. Numbered K c.face) xs) parts w.numbered)).0

        pub left_some : (n : ℕ) → n ≡ K.size b.content → LeftIs K w.pre w.post (record { last = Some (later b.id (n - 1)); links = b.links; right = b.right })
        left_some n en = record {
          id = ap (λ m. Some (later b.id (m - 1))) en ∙ ap (λ (y : Block C). Some (later y.id (K.size y.content - 1))) b_is
              ∙ sym (last_id_end K end.before (cell i end.face)) ∙ sym (ap (last_id K) end.parts);
          set = ap (λ (y : Block C). y.links) b_is ∙ sym (last_links_end end.before (cell i end.face)) ∙ sym (ap last_links end.parts);
          right = ap (λ (y : Block C). y.right) b_is;
        }

  from_none : (k : ℕ) (t : List (Block C)) → cells_from k t None ≡ []
  from_none zero t = refl
  from_none (suc k) t = refl

  pub right_none : (t : List (Block C)) (right : Option ℕ) → right ≡ None → RightIs (cells t right) (record { first = None; links = 0 })
  unfolding cells
  right_none t right e =
      subst (λ (xs : List (Cell C)). RightIs xs (record { first = None; links = 0 })) (sym (ap (cells_from (length t) t) e ∙ from_none (length t) t))
      (record { id = refl; set = refl })

  from_some : (k : ℕ) (t : List (Block C)) (i : ℕ) (b : Block C) → i < k → slice_get t i ≡ Some b → RightIs (cells_from k t (Some i)) (record { first = Some b.id; links = b.links })
  from_some zero t i b lt e = absurd (omega arith)
  from_some (suc k) t i b lt e =
      subst (λ (o : Option (Block C)). RightIs (with_block o (λ y. cell i (face_of y) ∷ cells_from k t y.right)) (record { first = Some b.id; links = b.links })) (sym e)
      (record { id = refl; set = refl })

  pub right_some : (t : List (Block C)) (right : Option ℕ) (i : ℕ) (b : Block C) → right ≡ Some i → i < length t → b ≡ get_or t i b → RightIs (cells t right) (record { first = Some b.id; links = b.links })
  unfolding cells
  right_some t right i b e lt read =
      subst (λ o. RightIs (cells_from (length t) t o) (record { first = Some b.id; links = b.links })) (sym e)
      (from_some (length t) t i b lt (slice_get_read t (length t) i b refl lt read))
