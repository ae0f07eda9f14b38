use Rattle.std.proofs.Common.{◌≡◌, ℕ, suc, ◌+◌, Bool, true, false, cond, not, eqb, List, [], ◌∷◌, ◌++◌, length, take, drop, sym, refl, ap, ◌∙◌, one-add, arith}
use Rattle.std.specs.List.{prefix_len}
use Rattle.std.proofs.lemmas.List.{append_assoc, append-nil}
use Rattle.std.proofs.lemmas.Bool.{cond-true}
use Rattle.notation.specs.Words.{is_blank, up_to, trimmed, first_word, after_word, before, words_from, words_in}

by_byte : (t : Bool) (front bs : List ℕ) (b : ℕ)
    → words_from (front ++ b ∷ []) bs ≡ before ((front ++ b ∷ []) ++ take (up_to 0x20 bs) bs) (words_in (drop (up_to 0x20 bs) bs))
    → eqb b 0x20 ≡ t
    → cond t (before front (words_from [] bs)) (words_from (front ++ b ∷ []) bs)
    ≡ before (front ++ take (cond (not t) (1 + up_to 0x20 bs) 0) (b ∷ bs)) (words_in (drop (cond (not t) (1 + up_to 0x20 bs) 0) (b ∷ bs)))
by_byte true front bs b h e =
    ap (before front) (sym (cond-true (eqb b 0x20) (words_from [] bs) (words_from (b ∷ []) bs) e))
    ∙ ap (λ q. before q (words_in (b ∷ bs))) (sym (append-nil front))
by_byte false front bs b h e =
    let n : ℕ = up_to 0x20 bs in
    let k : suc n ≡ 1 + n = sym (one-add n) in
    h ∙ (ap (λ q. before q (words_in (drop n bs))) (append_assoc front (b ∷ []) (take n bs))
    ∙ ap (λ q. before (front ++ take q (b ∷ bs)) (words_in (drop q (b ∷ bs)))) k)

-- The first word of a line, of which the front is known already, and the words after it.
first_word_lem : (front bs : List ℕ) → words_from front bs ≡ before (front ++ take (up_to 0x20 bs) bs) (words_in (drop (up_to 0x20 bs) bs))
first_word_lem front [] = ap (λ q. before q []) (sym (append-nil front))
first_word_lem front (b ∷ bs) = by_byte (eqb b 0x20) front bs b (first_word_lem (front ++ b ∷ []) bs) refl

trimmed_by : (t : Bool) (bs : List ℕ) (b : ℕ) → words_in bs ≡ words_in (trimmed bs) → eqb b 0x20 ≡ t
    → words_in (b ∷ bs) ≡ words_in (drop (cond t (1 + prefix_len is_blank bs) 0) (b ∷ bs))
trimmed_by true bs b h e =
    let k : suc (prefix_len is_blank bs) ≡ 1 + prefix_len is_blank bs = sym (one-add (prefix_len is_blank bs)) in
    cond-true (eqb b 0x20) (words_from [] bs) (words_from (b ∷ []) bs) e ∙ (h ∙ ap (λ q. words_in (drop q (b ∷ bs))) k)
trimmed_by false bs b h e = refl

-- Blanks in front do not matter.
words_trimmed : (line : List ℕ) → words_in line ≡ words_in (trimmed line)
words_trimmed [] = refl
words_trimmed (b ∷ bs) = trimmed_by (eqb b 0x20) bs b (words_trimmed bs) refl

-- The words of a line are its first word, if it has one, and those after it.
pub words_next : (line : List ℕ) → words_in line ≡ before (first_word line) (words_in (after_word line))
words_next line = words_trimmed line ∙ first_word_lem [] (trimmed line)

no_word_by : (t : Bool) (bs : List ℕ) (b : ℕ) → (length (first_word bs) ≡ 0 → words_in bs ≡ []) → eqb b 0x20 ≡ t
    → length (take (up_to 0x20 (drop (cond t (1 + prefix_len is_blank bs) 0) (b ∷ bs))) (drop (cond t (1 + prefix_len is_blank bs) 0) (b ∷ bs))) ≡ 0
    → words_in (b ∷ bs) ≡ []
no_word_by true bs b h e l =
    let k : 1 + prefix_len is_blank bs ≡ suc (prefix_len is_blank bs) = one-add (prefix_len is_blank bs) in
    cond-true (eqb b 0x20) (words_from [] bs) (words_from (b ∷ []) bs) e
    ∙ h (sym (ap (λ q. length (take (up_to 0x20 (drop q (b ∷ bs))) (drop q (b ∷ bs)))) k) ∙ l)
no_word_by false bs b h e l =
    let n : cond (not (eqb b 0x20)) (1 + up_to 0x20 bs) 0 ≡ suc (up_to 0x20 bs) = ap (λ q. cond (not q) (1 + up_to 0x20 bs) 0) e ∙ one-add (up_to 0x20 bs) in
    let z : suc (length (take (up_to 0x20 bs) bs)) ≡ 0 = sym (ap (λ q. length (take q (b ∷ bs))) n) ∙ l in
    absurd (omega arith)

-- Where the first word is empty there is none.
pub no_word : (line : List ℕ) → length (first_word line) ≡ 0 → words_in line ≡ []
no_word [] l = refl
no_word (b ∷ bs) l = no_word_by (eqb b 0x20) bs b (no_word bs) refl l

before_some : (w : List ℕ) (ws : List (List ℕ)) → (length w ≡ 0 → ⊥) → before w ws ≡ w ∷ ws
before_some [] ws h = absurd (h refl)
before_some (b ∷ bs) ws h = refl

-- A first word that is not empty, and the words after it.
pub a_word : (line w more : List ℕ) → w ≡ first_word line → more ≡ after_word line → (length w ≡ 0 → ⊥) → words_in line ≡ w ∷ words_in more
a_word line w more e m h =
    words_next line ∙ (ap (λ q. before q (words_in (after_word line))) (sym e) ∙ (ap (λ q. before w (words_in q)) (sym m) ∙ before_some w (words_in more) h))
