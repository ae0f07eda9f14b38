use Rattle.std.proofs.Common.{◌≡◌, ℕ, zero, suc, ◌+◌, ◌*◌, ◌/◌, ◌%◌, ◌<◌, ◌≤◌, true, false, ◌&&◌, eqb, ltb, leb, List, [], ◌∷◌, ◌++◌, length, get_or, take, map, sym, refl, ap, ◌∙◌, inl, inr, arith}
use Rattle.std.proofs.lemmas.List.{take_more, append_assoc}
use Rattle.std.proofs.lemmas.Bool.{ne_eqb, cases_lt, lt-ltb, le-ltb, le-leb, lt-leb, and_from, and_right, or_left, or_right, cond-true, cond-false}
use Rattle.std.specs.List.{list_all}
use Rattle.std.specs.Simd.{first_chunks}
use Rattle.std.proofs.Math.Bool.{and_assoc}
use Rattle.notation.specs.Hex.{is_decimal, is_capital, is_hex_digit, nibble, is_hex, bytes_in, digit_of, hex_of}

-- A digit is read as it was written.
decimal_back : (n : ℕ) → n < 10 → (is_hex_digit (0x30 + n) ≡ true) × (nibble (0x30 + n) ≡ n)
decimal_back n h =
    let d : is_decimal (0x30 + n) ≡ true = and_from (leb 0x30 (0x30 + n)) (leb (0x30 + n) 0x39) (le-leb 0x30 (0x30 + n) (omega arith)) (le-leb (0x30 + n) 0x39 (omega arith)) in
    (or_left _ _ (or_left (is_decimal (0x30 + n)) _ d), cond-true (is_decimal (0x30 + n)) _ _ d ∙ omega arith)

capital_back : (n : ℕ) → 10 ≤ n → n < 16 → (is_hex_digit (0x37 + n) ≡ true) × (nibble (0x37 + n) ≡ n)
capital_back n h l =
    let d : is_decimal (0x37 + n) ≡ false = and_right (leb 0x30 (0x37 + n)) (leb (0x37 + n) 0x39) (lt-leb (0x37 + n) 0x39 (omega arith)) in
    let u : is_capital (0x37 + n) ≡ true = and_from (leb 0x41 (0x37 + n)) (leb (0x37 + n) 0x46) (le-leb 0x41 (0x37 + n) (omega arith)) (le-leb (0x37 + n) 0x46 (omega arith)) in (
      or_left _ _ (or_right (is_decimal (0x37 + n)) _ u),
      cond-false (is_decimal (0x37 + n)) _ _ d ∙ (cond-true (is_capital (0x37 + n)) _ _ u ∙ omega arith),
    )

digit_back : (n : ℕ) → n < 16 → (is_hex_digit (digit_of n) ≡ true) × (nibble (digit_of n) ≡ n)
digit_back n h =
    elim (cases_lt n 10) [
      | inl l ↦
          let e = cond-true (ltb n 10) (0x30 + n) (0x37 + n) (lt-ltb n 10 l) in
          (ap is_hex_digit e ∙ (decimal_back n l).0, ap nibble e ∙ (decimal_back n l).1)
      | inr l ↦
          let e = cond-false (ltb n 10) (0x30 + n) (0x37 + n) (le-ltb n 10 l) in
          (ap is_hex_digit e ∙ (capital_back n l h).0, ap nibble e ∙ (capital_back n l h).1)
    ]

-- Bytes as digits are pairs of digits, and say those bytes.
pub hex_back : (bs : List ℕ) → ((i : ℕ) → get_or bs i 0 < 256) → (is_hex (hex_of bs) ≡ true) × (bytes_in (hex_of bs) ≡ bs)
hex_back [] h = (refl, refl)
hex_back (b ∷ bs) h =
    let small : b < 256 = h 0 in
    let hi = digit_back (b / 16) (omega arith) in
    let lo = digit_back (b % 16) (omega arith) in
    let rest = hex_back bs (λ i. h (suc i)) in
    let whole : nibble (digit_of (b / 16)) * 16 + nibble (digit_of (b % 16)) ≡ b = omega (arith, hi.1, lo.1) in (
      and_from _ _ (and_from (is_hex_digit (digit_of (b / 16))) (is_hex_digit (digit_of (b % 16))) hi.0 lo.0) rest.0,
      ap (λ q. q ∷ bytes_in (hex_of bs)) whole ∙ ap (λ q. b ∷ q) rest.1,
    )

-- One byte more.
hex_push : (xs : List ℕ) (b : ℕ) → hex_of (xs ++ b ∷ []) ≡ hex_of xs ++ (digit_of (b / 16) ∷ digit_of (b % 16) ∷ [])
hex_push [] b = refl
hex_push (x ∷ xs) b = ap (λ q. digit_of (x / 16) ∷ digit_of (x % 16) ∷ q) (hex_push xs b)

-- Its two digits pushed.
pub hex_more : (before was next bs : List ℕ) (i x y : ℕ) → i < length bs → x ≡ digit_of (get_or bs i 0 / 16) → y ≡ digit_of (get_or bs i 0 % 16)
    → was ≡ before ++ hex_of (take i bs) → next ≡ was ++ (x ∷ y ∷ []) → next ≡ before ++ hex_of (take (i + 1) bs)
hex_more before was next bs i x y h a b e p =
    let more : hex_of (take (i + 1) bs) ≡ hex_of (take i bs) ++ (digit_of (get_or bs i 0 / 16) ∷ digit_of (get_or bs i 0 % 16) ∷ []) =
    ap hex_of (take_more bs i 0 h) ∙ hex_push (take i bs) (get_or bs i 0) in
    let told = append_assoc before (hex_of (take i bs)) (x ∷ y ∷ []) in
    cc

-- A word of an even number of bytes is hexadecimal where each byte is a digit, and no other word is.
pub hex_even : (w : List ℕ) → length w % 2 ≡ 0 → list_all is_hex_digit w ≡ is_hex w
hex_even [] h = refl
hex_even (a ∷ []) h = absurd (omega arith)
hex_even (a ∷ b ∷ cs) h =
    ap (λ t. is_hex_digit a && (is_hex_digit b && t)) (hex_even cs (omega arith)) ∙ sym (and_assoc (is_hex_digit a) (is_hex_digit b) (is_hex cs))

odd_no : (w : List ℕ) → (length w % 2 ≡ 0 → ⊥) → is_hex w ≡ false
odd_no [] h = absurd (h refl)
odd_no (a ∷ []) h = refl
odd_no (a ∷ b ∷ cs) h = and_right (is_hex_digit a && is_hex_digit b) (is_hex cs) (odd_no cs (λ e. h (omega arith)))

pub hex_odd : (w : List ℕ) → (length w % 2 ≡ 0 → ⊥) → eqb (length w % 2) 0 ≡ is_hex w
hex_odd w h = ne_eqb (length w % 2) 0 h ∙ sym (odd_no w h)

-- What a pair of digits says, and what the pairs of a word say.
abbrev pub byte_of : List ℕ → ℕ
byte_of pair = nibble (get_or pair 0 0) * 16 + nibble (get_or pair 1 0)

pub pairs_read : (k : ℕ) (w : List ℕ) → k ≡ length w / 2 → map byte_of (first_chunks 2 k w) ≡ bytes_in w
pairs_read zero [] h = refl
pairs_read zero (a ∷ []) h = refl
pairs_read zero (a ∷ b ∷ cs) h = absurd (omega arith)
pairs_read (suc k) [] h = absurd (omega arith)
pairs_read (suc k) (a ∷ []) h = absurd (omega arith)
pairs_read (suc k) (a ∷ b ∷ cs) h = ap (λ bs. (nibble a * 16 + nibble b) ∷ bs) (pairs_read k cs (omega arith))
