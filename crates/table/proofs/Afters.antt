-- A block put after another, which may get a new face too.
use Rattle.std.proofs.Common.{◌≡◌, ℕ, ◌<◌, ◌≢◌, List, [], ◌∷◌, ◌++◌, length, set, Some, None, Option, sym, refl, ap, ◌∙◌, subst, length-set}
use Rattle.std.specs.List.{AllByRecursion}
use Rattle.table.specs.declared.block.Block.{Block}
use Rattle.table.specs.Cells.{Face, Cell, cell, block, Holds, front, last, Seg, Path, Apart}
use Rattle.table.specs.Cuts.{relinked, put_after}
use Rattle.table.specs.Puts.{Within, Relinks}
use Rattle.table.proofs.Paths.{holds_other, holds_same, all_front, all_back, seg_join, seg_front, seg_back, write_apart, lists_apart, path_apart, path_avoids}

pub within_all : {X : Type 0} (t u : List X) (n : Option ℕ) → length u ≡ length t → ((m : ℕ) → n ≡ Some m → m < length t) → Within u n
within_all t u None e h = tt
within_all t u (Some m) e h = subst (λ k. m < k) (sym e) (h m refl)

module _ {C : Type 0} where
  -- What a new left neighbour does to a run that ends its list.

  pub relinked_path : (t : List (Block C)) (l : ℕ) (p q : Option ℕ) (xs : List (Cell C)) → Path t l q xs → Path (relinked t l p xs) l p xs
  relinked_path t l p q [] a = tt
  relinked_path t l p q (x ∷ xs) a = (
    holds_same t x.at (block l p (front xs) x.face) a.0.within,
    write_apart t l (Some x.at) xs None x.at (block l p (front xs) x.face) a.1 (path_apart t l q x xs a),
  )

  pub relinked_holds : (t : List (Block C)) (l : ℕ) (p : Option ℕ) (xs : List (Cell C)) (i : ℕ) (b : Block C) → Holds t i b → Apart i xs → Holds (relinked t l p xs) i b
  relinked_holds t l p [] i b h a = h
  relinked_holds t l p (x ∷ xs) i b h a = holds_other t i x.at b (block l p (front xs) x.face) h (λ e. a.0 (sym e))

  pub relinked_seg : (t : List (Block C)) (l m : ℕ) (p : Option ℕ) (xs : List (Cell C)) (q : Option ℕ) (ys : List (Cell C)) (n : Option ℕ) → Seg t m q ys n → AllByRecursion (λ x. Apart x.at ys) xs → Seg (relinked t l p xs) m q ys n
  relinked_seg t l m p [] q ys n s a = s
  relinked_seg t l m p (x ∷ xs) q ys n s a = write_apart t m q ys n x.at (block l p (front xs) x.face) s a.0

  pub front_kept : (xs : List (Cell C)) (i : ℕ) (f g : Face C) (ys zs : List (Cell C)) → front (xs ++ cell i f ∷ ys) ≡ front (xs ++ cell i g ∷ zs)
  front_kept [] i f g ys zs = refl
  front_kept (x ∷ xs) i f g ys zs = refl

  module _ (t : List (Block C)) (l i : ℕ) (pre : List (Cell C)) (f : Face C) (post : List (Cell C)) (path : Path t l None (pre ++ cell i f ∷ post)) where
    pub here : Path t l (last None pre) (cell i f ∷ post)
    here = seg_back t l None pre (cell i f ∷ post) None path

    module _ (j : ℕ) (free : Apart j (pre ++ cell i f ∷ post)) where
      j_here : Apart j (cell i f ∷ post)
      j_here = all_back (λ (c : Cell C). c.at ≢ j) pre (cell i f ∷ post) free

      -- The cells after i are as they were once i and the free record j are written.
      pub after_kept : (b1 b2 : Block C) → Path (set (set t j b2) i b1) l (Some i) post
      after_kept b1 b2 =
          write_apart (set t j b2) l (Some i) post None i b1 (write_apart t l (Some i) post None j b2 here.1 j_here.1) (path_apart t l (last None pre) (cell i f) post here)

      pub after_path : j < length t → (f1 f2 : Face C) → Path (put_after t l i j (last None pre) f1 f2 post) l None (pre ++ cell i f1 ∷ cell j f2 ∷ post)
      after_path room f1 f2 =
          let b2 : Block C = block l (Some i) (front post) f2 in
          let b1 : Block C = block l (last None pre) (Some j) f1 in
          let t1 : List (Block C) = set t j b2 in
          let t2 : List (Block C) = set t1 i b1 in
          let later-on : AllByRecursion (λ y. Apart y.at pre) (cell i f ∷ post) = path_avoids t l None pre (cell i f ∷ post) path in
          let i-post : Apart i post = path_apart t l (last None pre) (cell i f) post here in
          let room2 : i < length t1 = simp length-set here.0.within in
          let ahead : Seg t l None pre (Some i) = seg_front t l None pre (cell i f ∷ post) None path in
          let ahead1 : Seg t1 l None pre (Some i) = write_apart t l None pre (Some i) j b2 ahead (all_front (λ (c : Cell C). c.at ≢ j) pre (cell i f ∷ post) free) in
          let ahead2 : Seg t2 l None pre (Some i) = write_apart t1 l None pre (Some i) i b1 ahead1 later-on.0 in
          let ahead3 : Seg (relinked t2 l (Some j) post) l None pre (Some i) = relinked_seg t2 l l (Some j) post None pre (Some i) ahead2 later-on.1 in
          let held2 : Holds t2 j b2 = holds_other t1 j i b2 b1 (holds_same t j b2 room) (λ e. j_here.0 (sym e)) in
          seg_join (relinked t2 l (Some j) post) l None pre (cell i f1 ∷ cell j f2 ∷ post) None ahead3 (
            relinked_holds t2 l (Some j) post i b1 (holds_same t1 i b1 room2) i-post,
            (
              relinked_holds t2 l (Some j) post j b2 held2 j_here.1,
              relinked_path t2 l (Some j) (Some i) post (after_kept b1 b2),
            ),
          )

      -- What the code writes, where relink is called with the right neighbour.
      pub after_relink : (b1 b2 : Block C) (f1 f2 : Face C) (r : Option ℕ) (u : List (Block C))
          → set (set t j b2) i b1 ≡ set (set t j (block l (Some i) (front post) f2)) i (block l (last None pre) (Some j) f1)
          → front post ≡ r → Relinks (set (set t j b2) i b1) r j u → u ≡ put_after t l i j (last None pre) f1 f2 post
      after_relink b1 b2 f1 f2 r u e right relinks =
          relinks l (Some i) post (after_kept b1 b2) right ∙ ap (λ v. relinked v l (Some j) post) e

    -- A list of another number stands as it did.
    pub after_other : (j m : ℕ) (ys : List (Cell C)) (f1 f2 : Face C) → l ≢ m → Path t m None ys → Apart j ys → Path (put_after t l i j (last None pre) f1 f2 post) m None ys
    after_other j m ys f1 f2 ne other free =
        let apart : AllByRecursion (λ x. Apart x.at ys) (cell i f ∷ post) = lists_apart t l m (last None pre) None None None (cell i f ∷ post) ys here other ne in
        let b2 : Block C = block l (Some i) (front post) f2 in
        let b1 : Block C = block l (last None pre) (Some j) f1 in
        relinked_seg (set (set t j b2) i b1) l m (Some j) post None ys None
        (write_apart (set t j b2) m None ys None i b1 (write_apart t m None ys None j b2 other free) apart.0)
        apart.1
