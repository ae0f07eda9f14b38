-- The computed cells of a list are those of any path from its front.
use Rattle.std.proofs.Common.{◌≡◌, ℕ, zero, suc, ◌<◌, ◌≤◌, ◌≢◌, true, false, nat_eq, List, [], ◌∷◌, map, length, Some, None, Option, sym, refl, ap, ◌∙◌, subst, inl, inr, arith}
use Rattle.std.proofs.lemmas.Option.{slice_get_read}
use Rattle.std.proofs.lemmas.Bool.{cases_eq, true≢false}
use Rattle.std.proofs.lemmas.Bool.Decides.{nat_tests}
use Rattle.std.proofs.lemmas.List.{length-map}
use Rattle.std.proofs.lemmas.Map.Steps.{length-le_from_distinct_below}
use Rattle.std.specs.List.{slice_get, AllByRecursion, IsDistinct, list_any}
use Rattle.table.specs.declared.block.Block.{Block}
use Rattle.table.specs.Cells.{Cell, cell, block, face_of, front, Path, Apart, with_block, cells_from, cells, Stands, Kept}
use Rattle.table.proofs.Paths.{path_apart}

-- Where a cell stands.
abbrev place : {C : Type 0} → Cell C → ℕ
place c = c.at

module _ {C : Type 0} where
  unlike : (i : ℕ) (xs : List (Cell C)) → Apart i xs → AllByRecursion (λ n. nat_eq i n ≡ false) (map place xs)
  unlike i [] a = tt
  unlike i (x ∷ xs) a = (let ne : x.at ≢ i = a.0 in grind (arith, nat_tests), unlike i xs a.1)

  distinct : (t : List (Block C)) (l : ℕ) (p : Option ℕ) (xs : List (Cell C)) → Path t l p xs → IsDistinct nat_eq (map place xs)
  unfolding IsDistinct
  distinct t l p [] s = tt
  distinct t l p (x ∷ xs) s = (unlike x.at xs (path_apart t l p x xs s), distinct t l (Some x.at) xs s.1)

  within : (t : List (Block C)) (l : ℕ) (p : Option ℕ) (xs : List (Cell C)) → Path t l p xs → (n : ℕ) → list_any (nat_eq n) (map place xs) ≡ true → n < length t
  within t l p [] s n e = absurd (true≢false (sym e))
  within t l p (x ∷ xs) s n e = elim (cases_eq n x.at) [
    | inl same ↦ (let lt = s.0.within in omega arith)
    | inr ne ↦ within t l (Some x.at) xs s.1 n (grind (arith, nat_tests))
  ]

  -- No place comes twice, so there are no more cells than records.
  few : (t : List (Block C)) (l : ℕ) (p : Option ℕ) (xs : List (Cell C)) → Path t l p xs → length xs ≤ length t
  few t l p xs s = simp length-map at (length-le_from_distinct_below (map place xs) (length t) (distinct t l p xs s) (within t l p xs s))

  from_fuel : (k : ℕ) (t : List (Block C)) (l : ℕ) (p : Option ℕ) (xs : List (Cell C)) → Path t l p xs → length xs ≤ k → cells_from k t (front xs) ≡ xs
  from_fuel zero t l p [] s le = refl
  from_fuel zero t l p (x ∷ xs) s le = absurd (omega arith)
  from_fuel (suc k) t l p [] s le = refl
  from_fuel (suc k) t l p (x ∷ xs) s le =
      let b : Block C = block l p (front xs) x.face in
      let read : slice_get t x.at ≡ Some b = slice_get_read t (length t) x.at b refl s.0.within s.0.is in
      ap (λ (o : Option (Block C)). with_block o (λ y. cell x.at (face_of y) ∷ cells_from k t y.right)) read
      ∙ ap (λ ys. x ∷ ys) (from_fuel k t l (Some x.at) xs s.1 (omega arith))

  -- Any path from a place is the computed list there.
  pub cells_of : (t : List (Block C)) (l : ℕ) (p start : Option ℕ) (xs : List (Cell C)) → Path t l p xs → front xs ≡ start → cells t start ≡ xs
  unfolding cells
  cells_of t l p start xs s e =
      ap (λ o. cells_from (length t) t o) (sym e) ∙ from_fuel (length t) t l p xs s (few t l p xs s)

  pub stands_of : (t : List (Block C)) (l : ℕ) (start : Option ℕ) (xs : List (Cell C)) → Path t l None xs → front xs ≡ start → Stands t l start
  stands_of t l start xs s e =
      let is : xs ≡ cells t start = sym (cells_of t l None start xs s e) in
      record { path = subst (λ ys. Path t l None ys) is s; starts = ap front (sym is) ∙ e }

  pub kept_of : (t u : List (Block C)) (m : ℕ) (start : Option ℕ) → Stands t m start → Path u m None (cells t start) → Kept t u m start
  kept_of t u m start w s =
      record { stands = stands_of u m start (cells t start) s w.starts; same = cells_of u m None start (cells t start) s w.starts }
