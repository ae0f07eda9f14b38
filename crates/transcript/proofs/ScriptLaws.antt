use Rattle.std.proofs.Common.{◌≡◌, ℕ, suc, ◌+◌, Bool, true, false, cond, not, eqb, List, [], ◌∷◌, ◌++◌, take, drop, refl, sym, ap, ◌∙◌, one-add}
use Rattle.std.specs.List.{flat_map}
use Rattle.std.proofs.lemmas.List.{append_assoc, append-nil}
use Rattle.notation.specs.Words.{up_to}
use Rattle.transcript.specs.Script.{answer_line, lines_from, lines_in, transcript}

-- The lines after a line, by what stands behind it: a line feed and the others, or nothing where it is the last.
abbrev others : List ℕ → List (List ℕ)
others [] = []
others (b ∷ bs) = lines_in bs

by_byte : (t : Bool) (front bs : List ℕ) (b : ℕ) → lines_from (front ++ b ∷ []) bs ≡ ((front ++ b ∷ []) ++ take (up_to 0x0A bs) bs) ∷ others (drop (up_to 0x0A bs) bs)
    → cond t (front ∷ lines_from [] bs) (lines_from (front ++ b ∷ []) bs)
    ≡ (front ++ take (cond (not t) (1 + up_to 0x0A bs) 0) (b ∷ bs)) ∷ others (drop (cond (not t) (1 + up_to 0x0A bs) 0) (b ∷ bs))
by_byte true front bs b h = ap (λ q. q ∷ lines_from [] bs) (sym (append-nil front))
by_byte false front bs b h =
    let n : ℕ = up_to 0x0A bs in
    let k : suc n ≡ 1 + n = sym (one-add n) in
    h ∙ (ap (λ q. q ∷ others (drop n bs)) (append_assoc front (b ∷ []) (take n bs))
    ∙ ap (λ q. (front ++ take q (b ∷ bs)) ∷ others (drop q (b ∷ bs))) k)

-- The first line of a script, of which the front is known already, and the lines after it.
first_line : (front bs : List ℕ) → lines_from front bs ≡ (front ++ take (up_to 0x0A bs) bs) ∷ others (drop (up_to 0x0A bs) bs)
first_line front [] = ap (λ q. q ∷ []) (sym (append-nil front))
first_line front (b ∷ bs) = by_byte (eqb b 0x0A) front bs b (first_line (front ++ b ∷ []) bs)

-- An empty line gives no answer, so that nothing comes after the last line.
others_told : (bs : List ℕ) → flat_map answer_line (others bs) ≡ transcript (drop 1 bs)
others_told [] = refl
others_told (b ∷ bs) = refl

line_next : (bs line after : List ℕ) (n : ℕ) → n ≡ up_to 0x0A bs → line ≡ take n bs → after ≡ drop n bs → transcript bs ≡ answer_line line ++ transcript (drop 1 after)
line_next bs line after n e f a =
    ap (flat_map answer_line) (first_line [] bs)
    ∙ (ap (λ k. answer_line (take k bs) ++ flat_map answer_line (others (drop k bs))) (sym e)
    ∙ (ap (λ q. answer_line (take n bs) ++ q) (others_told (drop n bs))
    ∙ (ap (λ q. answer_line q ++ transcript (drop 1 (drop n bs))) (sym f) ∙ ap (λ q. answer_line line ++ transcript (drop 1 q)) (sym a))))

-- One line more is told: that, and what the rest of the script tells, make the whole.
pub line_more : (was next whole bs line after rest : List ℕ) (n : ℕ) → n ≡ up_to 0x0A bs → line ≡ take n bs → after ≡ drop n bs → rest ≡ drop 1 after
    → next ≡ was ++ answer_line line → was ++ transcript bs ≡ whole → next ++ transcript rest ≡ whole
line_more was next whole bs line after rest n e f a r p h =
    ap (λ q. next ++ transcript q) r
    ∙ (ap (λ q. q ++ transcript (drop 1 after)) p
    ∙ (append_assoc was (answer_line line) (transcript (drop 1 after)) ∙ (ap (λ q. was ++ q) (sym (line_next bs line after n e f a)) ∙ h)))
