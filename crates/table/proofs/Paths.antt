-- Runs of cells under writes to the table.
use Rattle.std.proofs.Common.{◌≡◌, ℕ, ◌<◌, ◌≤◌, ◌≢◌, List, [], ◌∷◌, ◌++◌, length, set, Some, None, Option, sym, refl, ap, ◌∙◌, subst, ap₂, arith, length-set}
use Rattle.std.proofs.lemmas.List.{get_or-set_same, get_or-set_other, get_or_default}
use Rattle.std.specs.List.{AllByRecursion}
use Rattle.table.specs.declared.block.Block.{Block}
use Rattle.table.specs.Cells.{Cell, cell, block, face_of, Holds, front, front_or, last, Seg, Path, Apart}

-- One place of a list.

pub holds_other : {X : Type 0} (t : List X) (i j : ℕ) (x y : X) → Holds t i x → i ≢ j → Holds (set t j y) i x
holds_other t i j x y h ne = record { within = simp length-set h.within; is = h.is ∙ sym (get_or-set_other t j i y x ne) }

pub holds_same : {X : Type 0} (t : List X) (i : ℕ) (x : X) → i < length t → Holds (set t i x) i x
holds_same t i x lt = record { within = simp length-set lt; is = sym (get_or-set_same t i x x lt) }

pub holds_unique : {X : Type 0} (t : List X) (i : ℕ) (x y : X) → Holds t i x → Holds t i y → x ≡ y
holds_unique t i x y h k = h.is ∙ get_or_default t i x y h.within ∙ sym k.is

pub none_some : {X : Type 0} (x : X) → ◌≡◌ {A = Option X} None (Some x) → ⊥
none_some x e = let z : ◌≡◌ {A = ℕ} 0 1 = cc in omega arith

pub some_some : {X : Type 0} (x y : X) → Some x ≡ Some y → x ≡ y
some_some x y e = cc

pub all_front : {X : Type 0} (P : X → Type 0) (xs ys : List X) → AllByRecursion P (xs ++ ys) → AllByRecursion P xs
all_front P [] ys a = tt
all_front P (x ∷ xs) ys a = (a.0, all_front P xs ys a.1)

pub all_back : {X : Type 0} (P : X → Type 0) (xs ys : List X) → AllByRecursion P (xs ++ ys) → AllByRecursion P ys
all_back P [] ys a = a
all_back P (x ∷ xs) ys a = all_back P xs ys a.1

pub all_join : {X : Type 0} (P : X → Type 0) (xs ys : List X) → AllByRecursion P xs → AllByRecursion P ys → AllByRecursion P (xs ++ ys)
all_join P [] ys a b = b
all_join P (x ∷ xs) ys a b = (a.0, all_join P xs ys a.1 b)

module _ {C : Type 0} where
  -- Joining and splitting.

  front-append : (xs ys : List (Cell C)) (n : Option ℕ) → front_or (xs ++ ys) n ≡ front_or xs (front_or ys n)
  front-append [] ys n = refl
  front-append (x ∷ xs) ys n = refl

  pub last-append : (p : Option ℕ) (xs ys : List (Cell C)) → last p (xs ++ ys) ≡ last (last p xs) ys
  last-append p [] ys = refl
  last-append p (x ∷ xs) ys = last-append (Some x.at) xs ys

  pub seg_join : (t : List (Block C)) (l : ℕ) (p : Option ℕ) (xs ys : List (Cell C)) (n : Option ℕ) → Seg t l p xs (front_or ys n) → Seg t l (last p xs) ys n → Seg t l p (xs ++ ys) n
  seg_join t l p [] ys n a b = b
  seg_join t l p (x ∷ xs) ys n a b = (
    subst (λ q. Holds t x.at (block l p q x.face)) (sym (front-append xs ys n)) a.0,
    seg_join t l (Some x.at) xs ys n a.1 b,
  )

  pub seg_front : (t : List (Block C)) (l : ℕ) (p : Option ℕ) (xs ys : List (Cell C)) (n : Option ℕ) → Seg t l p (xs ++ ys) n → Seg t l p xs (front_or ys n)
  seg_front t l p [] ys n a = tt
  seg_front t l p (x ∷ xs) ys n a = (
    subst (λ q. Holds t x.at (block l p q x.face)) (front-append xs ys n) a.0,
    seg_front t l (Some x.at) xs ys n a.1,
  )

  pub seg_back : (t : List (Block C)) (l : ℕ) (p : Option ℕ) (xs ys : List (Cell C)) (n : Option ℕ) → Seg t l p (xs ++ ys) n → Seg t l (last p xs) ys n
  seg_back t l p [] ys n a = a
  seg_back t l p (x ∷ xs) ys n a = seg_back t l (Some x.at) xs ys n a.1

  -- A write outside a run leaves it alone, and two lists never share a record, since a block has its list's number.

  pub write_apart : (t : List (Block C)) (l : ℕ) (p : Option ℕ) (xs : List (Cell C)) (n : Option ℕ) (j : ℕ) (y : Block C) → Seg t l p xs n → Apart j xs → Seg (set t j y) l p xs n
  write_apart t l p [] n j y s a = tt
  write_apart t l p (x ∷ xs) n j y s a = (
    holds_other t x.at j (block l p (front_or xs n) x.face) y s.0 a.0,
    write_apart t l (Some x.at) xs n j y s.1 a.1,
  )

  other_list : (t : List (Block C)) (m : ℕ) (q : Option ℕ) (ys : List (Cell C)) (n : Option ℕ) (i : ℕ) (b : Block C) → Seg t m q ys n → Holds t i b → b.list ≢ m → Apart i ys
  other_list t m q [] n i b s h ne = tt
  other_list t m q (y ∷ ys) n i b s h ne =
      let was : Block C = block m q (front_or ys n) y.face in (
        (λ e. ne (ap (λ (z : Block C). z.list) (holds_unique t i b was h (subst (λ k. Holds t k was) e s.0)))),
        other_list t m (Some y.at) ys n i b s.1 h ne,
      )

  pub lists_apart : (t : List (Block C)) (l m : ℕ) (p q n o : Option ℕ) (xs ys : List (Cell C)) → Seg t l p xs n → Seg t m q ys o → l ≢ m → AllByRecursion (λ x. Apart x.at ys) xs
  lists_apart t l m p q n o [] ys a b ne = tt
  lists_apart t l m p q n o (x ∷ xs) ys a b ne = (
    other_list t m q ys o x.at (block l p (front_or xs n) x.face) b a.0 ne,
    lists_apart t l m (Some x.at) q n o xs ys a.1 b ne,
  )

  -- A place has one run that goes on from it to the end of the list, so no place comes twice.

  path_unique : (t : List (Block C)) (l m : ℕ) (p q : Option ℕ) (xs ys : List (Cell C)) → Path t l p xs → Path t m q ys → front xs ≡ front ys → xs ≡ ys
  path_unique t l m p q [] [] a b e = refl
  path_unique t l m p q [] (y ∷ ys) a b e = absurd (none_some y.at e)
  path_unique t l m p q (x ∷ xs) [] a b e = absurd (none_some x.at (sym e))
  path_unique t l m p q (x ∷ xs) (y ∷ ys) a b e =
      let at : x.at ≡ y.at = some_some x.at y.at e in
      let was : Block C = block l p (front xs) x.face in
      let same : was ≡ block m q (front ys) y.face =
      holds_unique t y.at was (block m q (front ys) y.face) (subst (λ z. Holds t z was) at a.0) b.0 in
      let head : x ≡ y = ap₂ cell at (ap face_of same) in
      let tail : xs ≡ ys = path_unique t l m (Some x.at) (Some y.at) xs ys a.1 b.1 (ap (λ (z : Block C). z.right) same) in
      ap₂ ◌∷◌ head tail

  apart_from : (t : List (Block C)) (l m : ℕ) (p q : Option ℕ) (x : Cell C) (xs ys : List (Cell C)) → Path t l p (x ∷ xs) → Path t m q ys → length ys ≤ length xs → Apart x.at ys
  apart_from t l m p q x xs [] a b le = tt
  apart_from t l m p q x xs (y ∷ ys) a b le = (
    (λ e. let same : length (x ∷ xs) ≡ length (y ∷ ys) = ap length (path_unique t l m p q (x ∷ xs) (y ∷ ys) a b (ap Some (sym e))) in omega arith),
    apart_from t l m p (Some y.at) x xs ys a b.1 (omega arith),
  )

  pub path_apart : (t : List (Block C)) (l : ℕ) (p : Option ℕ) (x : Cell C) (xs : List (Cell C)) → Path t l p (x ∷ xs) → Apart x.at xs
  path_apart t l p x xs a = apart_from t l l p (Some x.at) x xs xs a a.1 (omega arith)

  -- What stands later in a path stands nowhere before.
  pub path_avoids : (t : List (Block C)) (l : ℕ) (p : Option ℕ) (xs ys : List (Cell C)) → Path t l p (xs ++ ys) → AllByRecursion (λ y. Apart y.at xs) ys
  path_avoids t l p xs [] a = tt
  path_avoids t l p xs (y ∷ ys) a = (before t l p xs y ys a, skip xs y ys (path_avoids t l p (xs ++ y ∷ []) ys (subst (λ zs. Path t l p zs) (regroup xs y ys) a)))
    where
      regroup : (xs : List (Cell C)) (y : Cell C) (ys : List (Cell C)) → xs ++ y ∷ ys ≡ (xs ++ y ∷ []) ++ ys
      regroup [] y ys = refl
      regroup (x ∷ xs) y ys = ap (λ zs. x ∷ zs) (regroup xs y ys)

      before : (t : List (Block C)) (l : ℕ) (p : Option ℕ) (xs : List (Cell C)) (y : Cell C) (ys : List (Cell C)) → Path t l p (xs ++ y ∷ ys) → Apart y.at xs
      before t l p [] y ys a = tt
      before t l p (x ∷ xs) y ys a = (
        (λ e. (all_back (λ (c : Cell C). c.at ≢ x.at) xs (y ∷ ys) (path_apart t l p x (xs ++ y ∷ ys) a)).0 (sym e)),
        before t l (Some x.at) xs y ys a.1,
      )

      skip : (xs : List (Cell C)) (y : Cell C) (zs : List (Cell C)) → AllByRecursion (λ z. Apart z.at (xs ++ y ∷ [])) zs → AllByRecursion (λ z. Apart z.at xs) zs
      skip xs y [] a = tt
      skip xs y (z ∷ zs) a = (all_front (λ (c : Cell C). c.at ≢ z.at) xs (y ∷ []) a.0, skip xs y zs a.1)

  pub front-within : (t : List (Block C)) (l : ℕ) (p : Option ℕ) (xs : List (Cell C)) (n : ℕ) → Path t l p xs → front xs ≡ Some n → n < length t
  front-within t l p [] n s e = absurd (none_some n e)
  front-within t l p (x ∷ xs) n s e = subst (λ m. m < length t) (some_some x.at n e) s.0.within
