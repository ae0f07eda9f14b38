use Rattle.std.proofs.Common.{◌≡◌, ◌++◌, vec_items}
use Rattle.std.specs.Option.{option_map}
use Rattle.notation.specs.Words.{words_in}
use Rattle.notation.specs.Numerals.{all_numbers, numbers_in}
use Rattle.notation.proofs.numeral.read_numbers.Given as goal

abbrev pub invariant-loop-word : goal.invariant-loop-word
invariant-loop-word l = option_map (λ ns. vec_items l.numbers ++ ns) (all_numbers (words_in l.word-iterator.0.now)) ≡ numbers_in l.line
