use Rattle.std.proofs.Common.{◌≡◌, ℕ, ◌+◌, ◌-◌, ◌<◌, cond, eqb, List, length, take, drop, None, Option, sym, ap, ◌∙◌, arith}
use Rattle.std.specs.Option.{option_map}
use Rattle.std.proofs.lemmas.List.{take_rest, length-drop, drop-drop}
use Rattle.std.proofs.lemmas.Bool.{ne_eqb, cond-false}
use Rattle.notation.specs.Words.{up_to}
use Rattle.notation.specs.Numerals.{and_then, number_in}
use Rattle.spelling.specs.Sides.{clock_in, id_in}

-- What stands after the first byte, as a part of a slice.
abbrev pub behind : List ℕ → List ℕ
behind w = take (length w - 1) (drop 1 w)

-- An id by what stands before and after its colon.
pub id_parts : (w a r : List ℕ) (n : ℕ) (c k : Option ℕ) → n ≡ up_to 0x3A w → a ≡ take n w → r ≡ drop n w → 0 < length r
    → c ≡ number_in a → k ≡ clock_in (behind r) → and_then c (λ x. option_map (λ y. (x, y)) k) ≡ id_in w
id_parts w a r n c k e f b l p q =
    let more : n ≡ length w → ⊥ = λ h. omega (arith, l, ap length b, length-drop n w) in
    let rest : behind r ≡ drop (n + 1) w = take_rest r 1 ∙ (ap (drop 1) b ∙ (drop-drop 1 n w ∙ ap (λ m. drop m w) (omega arith))) in
    let F : ℕ → Option (ℕ × ℕ) = λ m. cond (eqb m (length w)) None (and_then (number_in (take m w)) (λ x. option_map (λ y. (x, y)) (clock_in (drop (m + 1) w)))) in
    ap (λ o. and_then o (λ x. option_map (λ y. (x, y)) k)) (p ∙ ap number_in f)
    ∙ (ap (λ o. and_then (number_in (take n w)) (λ x. option_map (λ y. (x, y)) o)) (q ∙ ap clock_in rest)
    ∙ (sym (cond-false (eqb n (length w)) _ _ (ne_eqb n (length w) more)) ∙ ap F e))
