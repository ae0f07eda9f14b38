use Rattle.std.specs.Prelude.{ℕ, ◌+◌, List, ◌++◌, length, take, drop}

-- A buffer after bytes were written into it from a place on: all before them and all after them is as it was.
abbrev pub written : List ℕ → ℕ → List ℕ → List ℕ
written buf p bytes = take p buf ++ (bytes ++ drop (p + length bytes) buf)
