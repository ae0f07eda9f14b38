use Rattle.std.proofs.Common.{◌≡◌, ◌^◌, ◌<◌, drop}
use Rattle.notation.specs.Numerals.{all_digits, value_from}
use Rattle.notation.proofs.numeral.read_number.Given as goal

abbrev pub invariant-loop-digit : goal.invariant-loop-digit
invariant-loop-digit l = record {
  same_value : value_from l.value (drop l.digit-index l.word) ≡ value_from 0 l.word;
  same_digits : all_digits (drop l.digit-index l.word) ≡ all_digits l.word;
  fits : l.value < 2 ^ 64;
}
