-- A link taken out of the sets of the first records.
use Rattle.std.proofs.Common.{◌≡◌, ℕ, zero, suc, ◌+◌, ◌-◌, ◌*◌, ◌%◌, ◌^◌, ◌<◌, ◌≤◌, List, [], ◌∷◌, ◌++◌, map, length, get_or, take, drop, set, Some, None, Option, sym, refl, ap, ◌∙◌, subst, ap₂, arith}
use lib.Bits.{bit_and}
use Rattle.std.proofs.lemmas.Nat.{one_shl}
use Rattle.std.proofs.lemmas.List.{append-nil, take_all, drop_all}
use Rattle.std.proofs.lemmas.List.Edits.{map_over_more}
use Rattle.std.specs.List.{AllByRecursion}
use Rattle.table.specs.declared.block.Block.{Block}
use Rattle.table.specs.Cells.{Cell, block, Holds, front, Path, cells}
use Rattle.table.specs.Clears.{cleared, cleared_cell, Cleared}
use Rattle.table.proofs.Computed.{cells_of, stands_of}

-- What the code writes, where w is the link's bit.
abbrev masked : {C : Type 0} → ℕ → Block C → Block C
masked w b = record { id = b.id; list = b.list; left = b.left; right = b.right; origin = b.origin; right_origin = b.right_origin; removed = b.removed; links = bit_and b.links (2 ^ 64 - 1 - w); content = b.content }

length_through : {X : Type 0} (f : X → X) (t : List X) (k : ℕ) → length (map f (take k t) ++ drop k t) ≡ length t
length_through f t zero = refl
length_through f [] (suc k) = refl
length_through f (y ∷ t) (suc k) = ap suc (length_through f t k)

-- What stands at a place of the front, each element of which is changed by f.
get_or_through : {X : Type 0} (f : X → X) (t : List X) (k i : ℕ) (x : X) → i < k → get_or (map f (take k t) ++ drop k t) i (f x) ≡ f (get_or t i x)
get_or_through f t zero i x lt = absurd (omega arith)
get_or_through f [] (suc k) i x lt = refl
get_or_through f (y ∷ t) (suc k) zero x lt = refl
get_or_through f (y ∷ t) (suc k) (suc i) x lt = get_or_through f t k i x (omega arith)

module _ {C : Type 0} where
  pub clear_more : (n : ℕ) (t u : List (Block C)) (i : ℕ) (b : Block C) → n < 64 → i < length t → u ≡ map (cleared n) (take i t) ++ drop i t → b ≡ get_or u i b
      → set u i (masked ((1 * 2 ^ n) % 2 ^ 64) (get_or u i b)) ≡ map (cleared n) (take (i + 1) t) ++ drop (i + 1) t
  clear_more n t u i b small lt inv read =
      subst (λ w. set u i (masked w (get_or u i b)) ≡ map (cleared n) (take (i + 1) t) ++ drop (i + 1) t) (sym (one_shl n 64 small))
      (map_over_more (cleared n) t u i (get_or u i b) lt inv (ap (get_or u i) read))

  front_through : (n : ℕ) (cs : List (Cell C)) → front (map (cleared_cell n) cs) ≡ front cs
  front_through n [] = refl
  front_through n (c ∷ cs) = refl

  module _ (n : ℕ) (t : List (Block C)) (k : ℕ) (u : List (Block C)) (is : u ≡ map (cleared n) (take k t) ++ drop k t) where
    holds_through : (i : ℕ) (b : Block C) → i < k → Holds t i b → Holds u i (cleared n b)
    holds_through i b lt h = record {
      within = subst (λ m. i < m) (sym (ap length is ∙ length_through (cleared n) t k)) h.within;
      is = ap (cleared n) h.is ∙ sym (get_or_through (cleared n) t k i b lt) ∙ ap (λ v. get_or v i (cleared n b)) (sym is);
    }

    path_through : (l : ℕ) (p : Option ℕ) (cs : List (Cell C)) → Path t l p cs → AllByRecursion (λ c. c.at < k) cs → Path u l p (map (cleared_cell n) cs)
    path_through l p [] s a = tt
    path_through l p (c ∷ cs) s a = (
      subst (λ o. Holds u c.at (block l p o (cleared_cell n c).face)) (sym (front_through n cs)) (holds_through c.at (block l p (front cs) c.face) a.0 s.0),
      path_through l (Some c.at) cs s.1 a.1,
    )

    clear_all : Cleared t k n u
    clear_all = record {
      table = is;
      lists = λ l start w low. stands_of u l start _ (path_through l None (cells t start) w.path low) (front_through n (cells t start) ∙ w.starts);
      now_cells = λ l start w low. cells_of u l None start _ (path_through l None (cells t start) w.path low) (front_through n (cells t start) ∙ w.starts);
    }

  pub clear_done : (n : ℕ) (t : List (Block C)) (k i : ℕ) (xs : List (Block C)) → length (take k t) ≤ i → xs ≡ map (cleared n) (take i (take k t)) ++ drop i (take k t)
      → Cleared t k n (xs ++ drop k t)
  clear_done n t k i xs past is =
      clear_all n t k (xs ++ drop k t)
      (ap (λ ys. ys ++ drop k t) (is ∙ ap₂ (λ ys zs. map (cleared n) ys ++ zs) (take_all i (take k t) past) (drop_all i (take k t) past) ∙ append-nil (map (cleared n) (take k t))))
