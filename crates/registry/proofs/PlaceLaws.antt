use Rattle.std.proofs.Common.{◌≡◌, ℕ, suc, ◌+◌, Bool, true, false, not, cond, ltb, List, [], ◌∷◌, ◌++◌, map, length, Some, None, Option, MatchOption, refl, sym, ap, subst, arith}
use Rattle.std.specs.Option.{option_map}
use Rattle.std.specs.List.{position, position_or_len}
use Rattle.std.proofs.lemmas.Grind.{common_steps}
use Rattle.law.specs.Plain.{with_new}
use Rattle.registry.specs.Places.{place_by}

-- The place is the first position that passes.
pub place_found : {X : Type 0} (test : X → Bool) (xs : List X) → position test xs ≡ place_by test xs
place_found test [] = refl
place_found test (x ∷ xs) = step (test x) (position_or_len test xs) (length xs) (place_by test xs) (place_found test xs)
  where
    step : (t : Bool) (n l : ℕ) (o : Option ℕ) → cond (ltb n l) (Some n) None ≡ o
        → cond (ltb (cond (not t) (1 + n) 0) (suc l)) (Some (cond (not t) (1 + n) 0)) None ≡ cond t (Some 0) (option_map suc o)
    step true n l o e = grind (arith, common_steps)
    step false n l o e = grind (arith, common_steps)

-- It is the same in a list whose elements are seen through f.
pub place_seen : {X Y : Type 0} (f : X → Y) (test : Y → Bool) (xs : List X) → place_by (λ x. test (f x)) xs ≡ place_by test (map f xs)
place_seen f test [] = refl
place_seen f test (x ∷ xs) = ap (λ o. cond (test (f x)) (Some 0) (option_map suc o)) (place_seen f test xs)

-- The list more has x last, or where x has a place is the old one.
abbrev pub Adds : {X : Type 0} → X → List X → Option ℕ → List X → Type 0
Adds x xs o more = MatchOption o (more ≡ xs ++ x ∷ []) (λ _. more ≡ xs)

-- What is known stays where it is, and what is new comes last.
pub placed : {X : Type 0} (like : X → X → Bool) (x : X) (xs : List X) (o : Option ℕ) → o ≡ place_by (like x) xs → Adds x xs o (with_new like x xs)
placed {X} like x xs o e = subst (λ p. Adds x xs p (with_new like x xs)) (sym e) (here xs)
  where
    step : (t : Bool) (y : X) (ys more : List X) (p : Option ℕ) → Adds x ys p more
        → Adds x (y ∷ ys) (cond t (Some 0) (option_map suc p)) (cond t (y ∷ ys) (y ∷ more))
    step true y ys more p h = refl
    step false y ys more None h = ap (λ q. y ∷ q) h
    step false y ys more (Some k) h = ap (λ q. y ∷ q) h

    here : (ys : List X) → Adds x ys (place_by (like x) ys) (with_new like x ys)
    here [] = refl
    here (y ∷ ys) = step (like x y) y ys (with_new like x ys) (place_by (like x) ys) (here ys)
