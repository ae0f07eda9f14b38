use Rattle.std.proofs.Common.{◌≡◌, ◌*◌, ◌++◌, map, drop}
use Rattle.std.specs.List.{range_with_len}
use Rattle.making.specs.Packed.{packed_at}
use Rattle.making.proofs.packing.pack.Given as goal

abbrev pub invariant-loop-k : goal.invariant-loop-k
invariant-loop-k l = l.words ≡ map (λ k. packed_at l.units (4 * k)) (range_with_len 0 l.k) ++ drop l.k l.initial.words
