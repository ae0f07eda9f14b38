-- What the code of splice_in writes, and what that is of the cells.
use Rattle.std.proofs.Common.{◌≡◌, ℕ, ◌<◌, ◌≢◌, List, [], ◌∷◌, ◌++◌, length, get_or, set, Some, None, Option, sym, refl, ap, ◌∙◌, subst, ap₂, append_assoc}
use Rattle.std.specs.List.{AllByRecursion}
use Rattle.table.specs.declared.block.Block.{Block}
use Rattle.table.specs.Cells.{Face, Cell, cell, block, face_of, front, last, Path, Apart, cells}
use Rattle.table.specs.Cuts.{relinked, put_after}
use Rattle.table.specs.Puts.{Relinks, told, put_between, Spliceable, Put}
use Rattle.table.proofs.Paths.{none_some, some_some, holds_same, holds_unique, all_front, all_back, last-append, write_apart, lists_apart, front-within}
use Rattle.table.proofs.Computed.{cells_of, stands_of, kept_of}
use Rattle.table.proofs.Afters.{relinked_path, relinked_holds, relinked_seg, here, front_kept, after_path, after_relink}

abbrev placed : {C : Type 0} → Option ℕ → Option ℕ → Block C → Block C
placed p r b = record { id = b.id; list = b.list; left = p; right = r; origin = b.origin; right_origin = b.right_origin; removed = b.removed; links = b.links; content = b.content }

abbrev with_right : {C : Type 0} → Option ℕ → Block C → Block C
with_right n b = record { id = b.id; list = b.list; left = b.left; right = n; origin = b.origin; right_origin = b.right_origin; removed = b.removed; links = b.links; content = b.content }

module _ {C : Type 0} where
  -- The cells up to i, with the last of them taken off.
  pub record Ends (i : ℕ) (xs : List (Cell C)) : Type 0 where
    pub before : List (Cell C)
    pub face : Face C
    pub parts : xs ≡ before ++ cell i face ∷ []

  pub ends_some : (i : ℕ) (xs : List (Cell C)) → last None xs ≡ Some i → Ends i xs
  ends_some i [] e = absurd (none_some i e)
  ends_some i (x ∷ []) e = record { before = []; face = x.face; parts = ap (λ n. cell n x.face ∷ []) (some_some x.at i e) }
  ends_some i (x ∷ y ∷ xs) e =
      let r = ends_some i (y ∷ xs) e in
      record { before = x ∷ r.before; face = r.face; parts = ap (λ ys. x ∷ ys) r.parts }

  last_some : (q : Option ℕ) (x : Cell C) (xs : List (Cell C)) → (i : ℕ) × (last q (x ∷ xs) ≡ Some i)
  last_some q x [] = (x.at, refl)
  last_some q x (y ∷ xs) = last_some (Some x.at) y xs

  pub ends-none : (xs : List (Cell C)) → last None xs ≡ None → xs ≡ []
  ends-none [] e = refl
  ends-none (x ∷ xs) e = let r = last_some None x xs in absurd (none_some r.0 (sym e ∙ r.1))

  told_at : (t : List (Block C)) (l : ℕ) (q : Option ℕ) (xs : List (Cell C)) (i : ℕ) (f : Face C) (n : Option ℕ) → told t l q (xs ++ cell i f ∷ []) n ≡ set t i (block l (last q xs) n f)
  told_at t l q [] i f n = refl
  told_at t l q (x ∷ []) i f n = refl
  told_at t l q (x ∷ y ∷ xs) i f n = told_at t l (Some x.at) (y ∷ xs) i f n

  told_seg : (t : List (Block C)) (l m : ℕ) (p : Option ℕ) (xs : List (Cell C)) (r : Option ℕ) (ys : List (Cell C)) → Path t m None ys → AllByRecursion (λ x. Apart x.at ys) xs → Path (told t l p xs r) m None ys
  told_seg t l m p [] r ys s a = s
  told_seg t l m p (x ∷ []) r ys s a = write_apart t m None ys None x.at (block l p r x.face) s a.0
  told_seg t l m p (x ∷ y ∷ xs) r ys s a = told_seg t l m (Some x.at) (y ∷ xs) r ys s a.1

  between_after : (t : List (Block C)) (l i j : ℕ) (xs : List (Cell C)) (f f2 : Face C) (post : List (Cell C)) → put_between t l j (xs ++ cell i f ∷ []) f2 post ≡ put_after t l i j (last None xs) f f2 post
  between_after t l i j xs f f2 post =
      ap (λ u. relinked u l (Some j) post)
      (told_at (set t j (block l (last None (xs ++ cell i f ∷ [])) (front post) f2)) l None xs i f (Some j)
      ∙ ap (λ p. set (set t j (block l p (front post) f2)) i (block l (last None xs) (Some j) f)) (last-append None xs (cell i f ∷ [])))

  -- A list of another number stands as it did.
  between_other : (t : List (Block C)) (l m j : ℕ) (pre : List (Cell C)) (f : Face C) (post ys : List (Cell C))
      → Path t l None (pre ++ post) → Path t m None ys → l ≢ m → Apart j ys → Path (put_between t l j pre f post) m None ys
  between_other t l m j pre f post ys path other ne free =
      let apart : AllByRecursion (λ x. Apart x.at ys) (pre ++ post) = lists_apart t l m None None None None (pre ++ post) ys path other ne in
      let b : Block C = block l (last None pre) (front post) f in
      relinked_seg (told (set t j b) l None pre (Some j)) l m (Some j) post None ys None
      (told_seg (set t j b) l m None pre (Some j) ys (write_apart t m None ys None j b other free) (all_front (λ (x : Cell C). Apart x.at ys) pre post apart))
      (all_back (λ (x : Cell C). Apart x.at ys) pre post apart)

  module _ {t : List (Block C)} {l : ℕ} {start left : Option ℕ} {j : ℕ} (w : Spliceable t l start left j) where
    path : Path t l None (w.pre ++ w.post)
    path = subst (λ cs. Path t l None cs) w.parts w.stands.path

    free : Apart j (w.pre ++ w.post)
    free = subst (λ (cs : List (Cell C)). Apart j cs) w.parts w.free

    starts : front (w.pre ++ w.post) ≡ start
    starts = ap front (sym w.parts) ∙ w.stands.starts

    put : (f : Face C) (u : List (Block C)) (begin : Option ℕ) → u ≡ put_between t l j w.pre f w.post
        → begin ≡ front (w.pre ++ cell j f ∷ w.post) → Path u l None (w.pre ++ cell j f ∷ w.post) → Put t l start left j f w u begin
    put f u begin table begins p = record {
      table = table;
      begins = begins;
      stands = stands_of u l begin _ p (sym begins);
      now_cells = cells_of u l None begin _ p (sym begins);
      others = λ m start' ne s apart. kept_of t u m start' s
          (subst (λ v. Path v m None (cells t start')) (sym table) (between_other t l m j w.pre f w.post (cells t start') path s.path ne apart));
    }

    -- After a block.
    module _ {i : ℕ} (e : left ≡ Some i) where
      ends : Ends i w.pre
      ends = ends_some i w.pre (w.ends ∙ e)

      regroup : (ys : List (Cell C)) → w.pre ++ ys ≡ ends.before ++ cell i ends.face ∷ ys
      regroup ys = ap (λ xs. xs ++ ys) ends.parts ∙ append_assoc ends.before (cell i ends.face ∷ []) ys

      end_path : Path t l None (ends.before ++ cell i ends.face ∷ w.post)
      end_path = subst (λ xs. Path t l None xs) (regroup w.post) path

      end_free : Apart j (ends.before ++ cell i ends.face ∷ w.post)
      end_free = subst (λ (xs : List (Cell C)). Apart j xs) (regroup w.post) free

      end_here : Path t l (last None ends.before) (cell i ends.face ∷ w.post)
      end_here = here t l i ends.before ends.face w.post end_path

      pub i_within : i < length t
      i_within = end_here.0.within

      module _ {b : Block C} (read : b ≡ get_or t i b) where
        b_is : b ≡ block l (last None ends.before) (front w.post) ends.face
        b_is = holds_unique t i b _ (record { within = i_within; is = read }) end_here.0

        right_is : front w.post ≡ b.right
        right_is = ap (λ (y : Block C). y.right) (sym b_is)

        pub next-within : (n : ℕ) → b.right ≡ Some n → n < length t
        next-within n r = front-within t l (Some i) w.post n end_here.1 (right_is ∙ r)

    -- At the front.
    module _ (e : left ≡ None) where
      no_pre : w.pre ≡ []
      no_pre = ends-none w.pre (w.ends ∙ e)

      front_is : front w.post ≡ start
      front_is = ap (λ xs. front (xs ++ w.post)) (sym no_pre) ∙ starts

      post_path : Path t l None w.post
      post_path = subst (λ xs. Path t l None (xs ++ w.post)) no_pre path

      pub first_within : (n : ℕ) → start ≡ Some n → n < length t
      first_within n r = front-within t l None w.post n post_path (front_is ∙ r)

      post_free : Apart j w.post
      post_free = all_back (λ (c : Cell C). c.at ≢ j) w.pre w.post free

  module _ {t : List (Block C)} (new : Block C) {start left : Option ℕ} {j : ℕ} (w : Spliceable t new.list start left j) where
    module _ {i : ℕ} (e : left ≡ Some i) {b : Block C} (read : b ≡ get_or t i b) {u : List (Block C)}
        (relinks : Relinks (set (set t j (placed (Some i) b.right new)) i (with_right (Some j) b)) b.right j u) where
      two_is : set (set t j (placed (Some i) b.right new)) i (with_right (Some j) b)
          ≡ set (set t j (block new.list (Some i) (front w.post) (face_of new))) i (block new.list (last None (ends w e).before) (Some j) (ends w e).face)
      two_is = ap (λ (y : Block C). set (set t j (placed (Some i) y.right new)) i (with_right (Some j) y)) (b_is w e read)

      after_is : u ≡ put_after t new.list i j (last None (ends w e).before) (ends w e).face (face_of new) w.post
      after_is = after_relink t new.list i (ends w e).before (ends w e).face w.post (end_path w e) j (end_free w e) _ _ _ _ b.right u two_is (right_is w e read) relinks

      after_table : u ≡ put_between t new.list j w.pre (face_of new) w.post
      after_table =
          after_is
          ∙ sym (between_after t new.list i j (ends w e).before (ends w e).face (face_of new) w.post)
          ∙ ap (λ xs. put_between t new.list j xs (face_of new) w.post) (sym (ends w e).parts)

      after_now : Path u new.list None (w.pre ++ cell j (face_of new) ∷ w.post)
      after_now =
          subst (λ xs. Path u new.list None xs) (sym (regroup w e (cell j (face_of new) ∷ w.post)))
          (subst (λ v. Path v new.list None ((ends w e).before ++ cell i (ends w e).face ∷ cell j (face_of new) ∷ w.post)) (sym after_is)
          (after_path t new.list i (ends w e).before (ends w e).face w.post (end_path w e) j (end_free w e) w.room (ends w e).face (face_of new)))

      after_begins : start ≡ front (w.pre ++ cell j (face_of new) ∷ w.post)
      after_begins =
          sym (starts w) ∙ ap front (regroup w e w.post) ∙ front_kept (ends w e).before i _ _ w.post (cell j (face_of new) ∷ w.post)
          ∙ ap front (sym (regroup w e (cell j (face_of new) ∷ w.post)))

      pub put-behind : Put t new.list start left j (face_of new) w u start
      put-behind = put w (face_of new) u start after_table after_begins after_now

    module _ (e : left ≡ None) {u : List (Block C)} (relinks : Relinks (set t j (placed left start new)) start j u) where
      one_is : set t j (placed left start new) ≡ set t j (block new.list None (front w.post) (face_of new))
      one_is = ap₂ (λ p r. set t j (placed p r new)) e (sym (front_is w e))

      kept : Path (set t j (block new.list None (front w.post) (face_of new))) new.list None w.post
      kept = write_apart t new.list None w.post None j (block new.list None (front w.post) (face_of new)) (post_path w e) (post_free w e)

      first_is : u ≡ relinked (set t j (block new.list None (front w.post) (face_of new))) new.list (Some j) w.post
      first_is =
          relinks new.list None w.post (subst (λ v. Path v new.list None w.post) (sym one_is) kept) (front_is w e)
          ∙ ap (λ v. relinked v new.list (Some j) w.post) one_is

      first_table : u ≡ put_between t new.list j w.pre (face_of new) w.post
      first_table = first_is ∙ ap (λ xs. put_between t new.list j xs (face_of new) w.post) (sym (no_pre w e))

      first_now : Path u new.list None (w.pre ++ cell j (face_of new) ∷ w.post)
      first_now =
          let b : Block C = block new.list None (front w.post) (face_of new) in
          subst (λ xs. Path u new.list None (xs ++ cell j (face_of new) ∷ w.post)) (sym (no_pre w e))
          (subst (λ v. Path v new.list None (cell j (face_of new) ∷ w.post)) (sym first_is) (
            relinked_holds (set t j b) new.list (Some j) w.post j b (holds_same t j b w.room) (post_free w e),
            relinked_path (set t j b) new.list (Some j) None w.post kept,
          ))

      pub put_first : Put t new.list start left j (face_of new) w u (Some j)
      put_first = put w (face_of new) u (Some j) first_table (ap (λ xs. front (xs ++ cell j (face_of new) ∷ w.post)) (sym (no_pre w e))) first_now
