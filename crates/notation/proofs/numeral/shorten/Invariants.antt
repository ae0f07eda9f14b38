use Rattle.std.proofs.Common.{◌≡◌, take, drop, vec_items}
use Rattle.notation.specs.Numerals.{all_short}
use Rattle.notation.proofs.numeral.shorten.Given as goal

abbrev pub invariant-loop-number : goal.invariant-loop-number
invariant-loop-number l =
    (vec_items l.units ≡ take l.number-index l.numbers) × (all_short (drop l.number-index l.numbers) ≡ all_short l.numbers)
