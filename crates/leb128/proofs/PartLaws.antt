use Rattle.std.proofs.Common.{◌≡◌, ℕ, ◌+◌, ◌-◌, List, ◌++◌, length, take, drop, arith}
use borrow.Rule.Slice.PartMut.{put_mid}
use Rattle.std.proofs.lemmas.List.{drop-drop}
use Rattle.std.proofs.lemmas.Grind.{common_steps}
use Rattle.leb128.specs.Buffers.{written}

-- A write to the rest of a buffer from a place on, which put bytes to its front.
pub put_written : (buf last bs : List ℕ) (p : ℕ) → last ≡ bs ++ drop (length bs) (take (length buf - p) (drop p buf))
    → put_mid p (length buf - p) buf last ≡ written buf p bs
put_written buf last bs p e = grind (arith, common_steps)

-- What stands after a piece.
pub past : (bs a rest : List ℕ) (p : ℕ) → drop p bs ≡ a ++ rest → drop (p + length a) bs ≡ rest
past bs a rest p d = grind (arith, common_steps, drop-drop (length a) p bs)
