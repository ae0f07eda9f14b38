use Rattle.std.proofs.Common.{◌≡◌, ℕ, suc, ◌+◌, ◌-◌, ◌<◌, ◌≤◌, Bool, true, false, cond, List, [], ◌∷◌, ◌++◌, length, take, set, Some, None, Option, sym, refl, ap, ◌∙◌, arith}
use Rattle.std.specs.Bool.{then_some}
use Rattle.std.specs.Option.{option_map}
use Rattle.std.proofs.lemmas.Iterator.Adapters.{option_map_id}
use Rattle.std.proofs.lemmas.List.{append_assoc, append-nil, take_all, take_more_set}
use Rattle.notation.specs.Numerals.{and_then}
use Rattle.lines.specs.Parts.{ended, front, counted}

more_by : (was : List ℕ) (n : ℕ) (o : Option (List ℕ)) → option_map (λ ns. (was ++ n ∷ []) ++ ns) o ≡ option_map (λ ns. was ++ ns) (option_map (λ ns. n ∷ ns) o)
more_by was n None = refl
more_by was n (Some ns) = ap Some (append_assoc was (n ∷ []) ns)

-- None is read yet.
pub counted_start : (line : List ℕ) (N : ℕ) → option_map (λ ns. ns) (counted (N - 0) line) ≡ counted N line
counted_start line N = let same : N - 0 ≡ N = omega arith in option_map_id (counted (N - 0) line) ∙ ap (λ m. counted m line) same

-- One number more of N, where i are read.
pub counted_more : (xs line more : List ℕ) (all : Option (List ℕ)) (n i N : ℕ) → length xs ≡ N → i < N → Some (n, more) ≡ front line
    → option_map (λ ns. take i xs ++ ns) (counted (N - i) line) ≡ all
    → option_map (λ ns. take (i + 1) (set xs i n) ++ ns) (counted (N - (i + 1)) more) ≡ all
counted_more xs line more all n i N l h e a =
    let k : ℕ = N - (i + 1) in
    let left : N - i ≡ suc k = omega arith in
    ap (λ z. option_map (λ ns. z ++ ns) (counted k more)) (take_more_set xs i n (omega arith))
    ∙ (more_by (take i xs) n (counted k more)
    ∙ (ap (λ o. option_map (λ ns. take i xs ++ ns) (and_then o (λ p. option_map (λ ns. p.0 ∷ ns) (counted k p.1)))) e
    ∙ (ap (λ m. option_map (λ ns. take i xs ++ ns) (counted m line)) (sym left) ∙ a)))

-- No number where one is due.
pub counted_none : (xs line : List ℕ) (all : Option (List ℕ)) (i N : ℕ) → i < N → None ≡ front line
    → option_map (λ ns. take i xs ++ ns) (counted (N - i) line) ≡ all → None ≡ all
counted_none xs line all i N h e a =
    let k : ℕ = N - (i + 1) in
    let left : N - i ≡ suc k = omega arith in
    ap (λ o. option_map (λ ns. take i xs ++ ns) (and_then o (λ p. option_map (λ ns. p.0 ∷ ns) (counted k p.1)))) e
    ∙ (ap (λ m. option_map (λ ns. take i xs ++ ns) (counted m line)) (sym left) ∙ a)

last_by : (xs : List ℕ) (t : Bool) → then_some t xs ≡ option_map (λ ns. xs ++ ns) (cond t (Some []) None)
last_by xs true = ap Some (sym (append-nil xs))
last_by xs false = refl

-- All are read, and nothing more may stand there.
pub counted_all : (xs line : List ℕ) (all : Option (List ℕ)) (i N : ℕ) → length xs ≡ N → N ≤ i
    → option_map (λ ns. take i xs ++ ns) (counted (N - i) line) ≡ all → then_some (ended line) xs ≡ all
counted_all xs line all i N l h a =
    let left : N - i ≡ 0 = omega arith in
    last_by xs (ended line)
    ∙ (ap (λ z. option_map (λ ns. z ++ ns) (counted 0 line)) (sym (take_all i xs (omega arith)))
    ∙ (ap (λ m. option_map (λ ns. take i xs ++ ns) (counted m line)) (sym left) ∙ a))
