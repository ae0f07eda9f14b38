use Rattle.std.proofs.Common.{◌≡◌, ℕ, zero, suc, ◌+◌, ◌≤◌, true, cond, leb, List, [], ◌∷◌, ◌++◌, length, take, drop, Some, None, Err, Result, refl, arith}
use Rattle.std.proofs.lemmas.Bool.Decides.{nat_tests}
use Rattle.record.specs.declared.fault.RecordFault.{RecordFault}
use Rattle.record.specs.declared.fault.RecordFault.TheVariants.{Own}
use Rattle.record.specs.declared.fault.RecordCause.TheVariants.{Ends, Name}
use Rattle.record.specs.Names.{all_printable, name_count}
use Rattle.record.specs.Decoding.{name_fault, name_here}

-- The first fault in a name is a byte that is not printable, or else one that is missing.
pub name_faults : (n : ℕ) (bs : List ℕ) → name_fault n bs ≡
    cond (leb n (length bs)) (cond (all_printable (take n bs)) None (Some Name)) (cond (all_printable bs) (Some Ends) (Some Name))
name_faults zero bs = grind (arith, nat_tests)
name_faults (suc n) [] = grind (arith, nat_tests)
name_faults (suc n) (b ∷ bs) = grind (arith, nat_tests, name_faults n bs)

-- A name without a fault lies within the bytes, and all its bytes are printable.
pub name_within : (n : ℕ) (bs : List ℕ) → name_fault n bs ≡ None → n ≤ length bs
name_within n bs e = grind (arith, nat_tests, name_faults n bs)

pub name_printable : (n : ℕ) (bs : List ℕ) → name_fault n bs ≡ None → all_printable (take n bs) ≡ true
name_printable n bs e = grind (arith, nat_tests, name_faults n bs)

-- And printable bytes have no fault, whatever stands after them.
pub name_kept : (n rest : List ℕ) → all_printable n ≡ true → name_fault (length n) (n ++ rest) ≡ None
name_kept [] rest e = refl
name_kept (b ∷ n) rest e = grind (arith, nat_tests, name_kept n rest)

-- What a name's count says of the name.
abbrev pub named : List ℕ → ℕ → ℕ × ℕ → Result (List ℕ × ℕ) RecordFault
named bs p c =
    cond (name_count c.0) (name_here bs p (p + c.1) c.0 (name_fault c.0 (drop (p + c.1) bs))) (Err (Own Name p))
