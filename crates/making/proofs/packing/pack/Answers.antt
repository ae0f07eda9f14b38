use Rattle.std.proofs.Common.{◌*◌, arith}
use Rattle.making.specs.Packed.{packed_at}
use Rattle.making.proofs.Units.{pack_more}
use Rattle.making.proofs.packing.pack.Goals as goal

pub loop-k-preserved : goal.loop-k-preserved
loop-k-preserved c =
    rw (c.loop-k.invariant, c.packed_word.ensures.value)
    (pack_more c.args.words.now (λ k. packed_at c.args.units.now (4 * k)) c.loop-k.k (omega arith))
