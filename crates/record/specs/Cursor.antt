use Rattle.std.specs.Prelude.{◌≡◌, ℕ, List, Ok, Err, Result, MatchResult}
use Rattle.record.specs.declared.reader.Reader.{Reader}

-- A reader takes the piece that stands at its place, and stands after it; or answers the piece's fault. `view` is what an answer means.
abbrev pub Takes : {A B E : Type 0} → (A → B) → (List ℕ → ℕ → Result (B × ℕ) E) → Reader → Result A E → Reader → Type 0
Takes view piece old r new =
    (new.bytes ≡ old.bytes)
    × MatchResult r (λ x. piece old.bytes.now old.at ≡ Ok (view x, new.at)) (λ e. piece old.bytes.now old.at ≡ Err e)
