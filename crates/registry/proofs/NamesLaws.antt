use Rattle.std.proofs.Common.{◌≡◌, ℕ, ◌≤◌, true, List, length, take, arith}
use Rattle.std.proofs.lemmas.List.{take_all}
use Rattle.std.proofs.lemmas.Bool.{and_parts}
use Rattle.std.proofs.lemmas.Bool.Decides.{nat_tests}
use Rattle.record.specs.Names.{all_printable, name_count, name_fine}

-- A name that may stand has at most 32 bytes.
pub fine_short : (name : List ℕ) → name_fine name ≡ true → take 32 name ≡ name
fine_short name f = take_all 32 name (short (length name) (and_parts (name_count (length name)) (all_printable name) f).0)
  where
    short : (n : ℕ) → name_count n ≡ true → n ≤ 32
    short n e = grind (arith, nat_tests)
