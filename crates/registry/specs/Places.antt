use Rattle.std.specs.Prelude.{ℕ, suc, Bool, cond, List, [], ◌∷◌, Some, None, Option}
use Rattle.std.specs.Option.{option_map}

-- The place of the first element that passes a test.
abbrev pub place_by : {X : Type 0} → (X → Bool) → List X → Option ℕ
place_by test [] = None
place_by test (x ∷ xs) = cond (test x) (Some 0) (option_map suc (place_by test xs))
