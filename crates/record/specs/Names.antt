use Rattle.std.specs.Prelude.{ℕ, Bool, ◌&&◌, List, length, nat_le}
use Rattle.std.specs.List.{list_all}

-- A byte of a list's name: 20 to 7E hexadecimal.
abbrev pub printable : ℕ → Bool
printable b = nat_le 0x20 b && nat_le b 0x7E

abbrev pub all_printable : List ℕ → Bool
all_printable bs = list_all printable bs

-- How many bytes a name has: 1 to 32.
abbrev pub name_count : ℕ → Bool
name_count n = nat_le 1 n && nat_le n 32

-- A name that a list may have.
abbrev pub name_fine : List ℕ → Bool
name_fine n = name_count (length n) && all_printable n
