-- Runs of units that lie in words.
use Rattle.std.specs.Prelude.{◌≡◌, ℕ, zero, suc, ◌+◌, ◌-◌, ◌/◌, ◌%◌, ◌<◌, ◌≤◌, true, false, cond, List, ◌∷◌, ◌++◌, map, length, Some, None, nat_le, nat_lt, slice_index, slice_index_or, refl}
use Rattle.std.proofs.Common.{sym, ap, ap₂, ◌∙◌, add-zero, zero-add, arith, lit<, lt-ltb, le-leb}
use Rattle.std.proofs.Math.Nat.{div-mul-le_self, div-one}
use Rattle.std.proofs.lemmas.Nat.{le-div}
use Rattle.std.specs.List.{range_with_len}
use Rattle.std.proofs.lemmas.Bool.Decides.{nat_tests}
use Rattle.std.proofs.lemmas.List.FromFn.{get_or-map-range_with_len}
use Rattle.std.proofs.lemmas.List.{get_or_append_left, get_or_default, length-append}
use Rattle.content.specs.Meaning.{told}
use Rattle.content.specs.Runs.{run, run_reach, word_at, slot, code_unit}

agree : (f g : ℕ → ℕ) (a n : ℕ) → ((i : ℕ) → a ≤ i → i < a + n → f i ≡ g i) → map f (range_with_len a n) ≡ map g (range_with_len a n)
agree f g a zero h = refl
agree f g a (suc n) h = ap₂ (λ x xs. x ∷ xs) (h a (omega arith) (omega arith)) (agree f g (a + 1) n (λ i low high. h i (omega arith) (omega arith)))

-- Two runs are one where the same stands at each of their places.
pub run_agree : (f g : ℕ → ℕ) (a b : ℕ) → ((i : ℕ) → a ≤ i → i < b → f i ≡ g i) → run f a b ≡ run g a b
run_agree f g a b h = agree f g a (b - a) (λ i low high. h i low (omega arith))

follow : (f : ℕ → ℕ) (a k n : ℕ) → map f (range_with_len a k) ++ map f (range_with_len (a + k) n) ≡ map f (range_with_len a (k + n))
follow f a zero n = ap₂ (λ x m. map f (range_with_len x m)) (add-zero a) (sym (zero-add n))
follow f a (suc k) n =
    let at : a + suc k ≡ a + 1 + k = omega arith in
    let all : suc (k + n) ≡ suc k + n = omega arith in
    ap (λ x. f a ∷ (map f (range_with_len (a + 1) k) ++ map f (range_with_len x n))) at
    ∙ ap (λ xs. f a ∷ xs) (follow f (a + 1) k n)
    ∙ ap (λ m. map f (range_with_len a m)) all

pub run_joins : (f : ℕ → ℕ) (a b k : ℕ) → k < b - a → run f a (a + k) ++ run f (a + k) b ≡ run f a b
run_joins f a b k lt =
    let first : a + k - a ≡ k = omega arith in
    let whole : k + (b - (a + k)) ≡ b - a = omega arith in
    ap (λ n. map f (range_with_len a n) ++ run f (a + k) b) first ∙ follow f a k (b - (a + k)) ∙ ap (λ n. map f (range_with_len a n)) whole

-- A run that has a place has its reach.
pub reach_here : (a b m n : ℕ) → a < b → m ≤ n → run_reach a b m ≤ n
reach_here a b m n lt le = let e : nat_lt a b ≡ true = lt-ltb a b lt in rw e le

reach_at : (a b m n i : ℕ) → run_reach a b m ≤ n → a ≤ i → i < b → m ≤ n
reach_at a b m n i h low high = let e : nat_lt a b ≡ true = lt-ltb a b (omega arith) in rw e at h

-- A place before b lies in no later word than the last before b.
pub place_word : (n i b : ℕ) → 0 < n → i < b → i / n ≤ (b - 1) / n
place_word n i b some lt = le-div (i / n) (b - 1) n some (omega (arith, div-mul-le_self i n))

-- A part of a run that has a place reaches no further than the run.
pub reach_part : (a b m n c d : ℕ) → c < d → m ≤ n → run_reach a b m ≤ run_reach c d n
reach_part a b m n c d lt le =
    let e : nat_lt c d ≡ true = lt-ltb c d lt in
    rw e (elim (nat_lt a b) as (λ x. cond x m 0 ≤ n) [ true ↦ le | false ↦ omega arith ])

-- A run of whole words reaches just past its last place.
pub reach_of_words : (a b : ℕ) → run_reach a b ((b - 1) / 1 + 1) ≡ run_reach a b b
reach_of_words a b = grind (arith, nat_tests)

-- Appended words change no unit of a run that fits, where places count the n slots of one word after those of another.
module _ (at : List ℕ → ℕ → ℕ) (s : ℕ → ℕ → ℕ) (n : ℕ) (some : 0 < n) (lies : (t : List ℕ) (i w : ℕ) → i / n < length t → at t i ≡ s (slice_index_or t (i / n) w) (i % n)) where
  slot_steady : (t u : List ℕ) (i : ℕ) → i / n < length t → at (t ++ u) i ≡ at t i
  slot_steady t u i lt =
      lies (t ++ u) i 0 (rw length-append (omega arith)) ∙ ap (λ w. s w (i % n)) (get_or_append_left t u 0 (i / n) lt) ∙ sym (lies t i 0 lt)

  pub run_steady : (t u : List ℕ) (a b : ℕ) → run_reach a b ((b - 1) / n + 1) ≤ length t → run (at (t ++ u)) a b ≡ run (at t) a b
  run_steady t u a b h =
      run_agree (at (t ++ u)) (at t) a b
      (λ i low high.
      let le = reach_at a b ((b - 1) / n + 1) (length t) i h low high in
      let word = place_word n i b some high in
      slot_steady t u i (omega arith))

-- A word is one unit.
pub word_lies : (t : List ℕ) (i w : ℕ) → i / 1 < length t → word_at t i ≡ slice_index_or t (i / 1) w
word_lies t i w lt = ap (λ k. slice_index t k) (sym (div-one i)) ∙ get_or_default t (i / 1) 0 w lt

-- A word is four units of 16 bits.
pub text_lies : (t : List ℕ) (i w : ℕ) → i / 4 < length t → code_unit t i ≡ slot (slice_index_or t (i / 4) w) (i % 4)
text_lies t i w lt = ap (λ v. slot v (i % 4)) (get_or_default t (i / 4) 0 w lt)

pub words_steady : (t u : List ℕ) (a b : ℕ) → run_reach a b b ≤ length t → run (word_at (t ++ u)) a b ≡ run (word_at t) a b
words_steady t u a b h = run_steady word_at (λ w _. w) 1 (lit< tt) word_lies t u a b (rw reach_of_words h)

pub text_steady : (t u : List ℕ) (a b : ℕ) → run_reach a b ((b - 1) / 4 + 1) ≤ length t → run (code_unit (t ++ u)) a b ≡ run (code_unit t) a b
text_steady t u a b h = run_steady code_unit slot 4 (lit< tt) text_lies t u a b h

-- What a content that fits tells at an offset below its length.
pub told_here : (m len n k v : ℕ) (us : List ℕ) → m ≤ len → k < n → v ≡ slice_index us k → Some v ≡ told (nat_le m len) n us k
told_here m len n k v us fit lt e =
    ap Some e ∙ sym (ap₂ (λ x y. cond x (cond y (Some (slice_index us k)) None) None) (le-leb m len fit) (lt-ltb k n lt))

-- What a run that fits tells at an offset below its length, where v stands at that place.
pub told_run : (f : ℕ → ℕ) (a b m len k v : ℕ) → m ≤ len → a + k < b → v ≡ f (a + k) → Some v ≡ told (nat_le (run_reach a b m) len) (b - a) (run f a b) k
told_run f a b m len k v fit lt e =
    told_here (run_reach a b m) len (b - a) k v (run f a b) (reach_here a b m len (omega arith) fit) (omega arith)
    (e ∙ sym (get_or-map-range_with_len f a (b - a) k (a + k) 0 (omega arith) refl))
