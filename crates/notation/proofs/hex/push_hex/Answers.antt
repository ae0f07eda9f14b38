use Rattle.notation.proofs.HexLaws.{hex_more}
use Rattle.notation.proofs.hex.push_hex.Goals as goal

pub loop-byte-preserved : goal.loop-byte-preserved
loop-byte-preserved c =
    hex_more _ _ _ c.args.bytes.now c.loop-byte.byte-index _ _ c.loop-byte-test.true c.hex_digit.ensures c.hex_digit-in-loop-byte.ensures c.loop-byte.invariant c.in_ok-extend_from_slice.ensures.items
