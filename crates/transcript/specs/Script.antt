use Rattle.std.specs.Prelude.{ℕ, Bool, cond, ◌||◌, List, [], ◌∷◌, ◌++◌, ◌==◌, slice_index}
use Rattle.std.specs.List.{flat_map}
use Rattle.lines.specs.Parts.{ended}
use Rattle.lines.specs.Calls.{call_in}
use Rattle.transcript.specs.Answers.{answer_to}

-- A line of blanks only, or one that starts with #, gives no answer.
abbrev pub passed_over : List ℕ → Bool
passed_over line = ended line || slice_index line 0 == 0x23

-- Any other line gives one line.
abbrev pub answer_line : List ℕ → List ℕ
answer_line line = cond (passed_over line) [] (answer_to (call_in line) ++ (0x0A ∷ []))

-- The lines of a script, where the bytes so far are the front of the first: each ends before a line feed, and the last at the end.
abbrev pub lines_from : List ℕ → List ℕ → List (List ℕ)
lines_from front [] = front ∷ []
lines_from front (b ∷ bs) = cond (b == 0x0A) (front ∷ lines_from [] bs) (lines_from (front ++ (b ∷ [])) bs)

abbrev pub lines_in : List ℕ → List (List ℕ)
lines_in bs = lines_from [] bs

-- The transcript of a script: the answers of its lines, one after another.
abbrev pub transcript : List ℕ → List ℕ
transcript bs = flat_map answer_line (lines_in bs)
