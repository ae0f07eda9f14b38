use Rattle.std.proofs.Common.{◌∙◌}
use Rattle.notation.proofs.HexLaws.{hex_even, hex_odd, hex_back}
use Rattle.notation.proofs.hex.is_hex.Goals as goal

pub returns-then-word-eq0 : goal.returns-then-word-eq0
returns-then-word-eq0 c =
    record { value = c.all_digits.ensures ∙ hex_even c.args.word.now c.if-word-eq0.true; back = hex_back }

pub returns-else-word-eq0 : goal.returns-else-word-eq0
returns-else-word-eq0 c = record { value = hex_odd c.args.word.now c.if-word-eq0.false; back = hex_back }
