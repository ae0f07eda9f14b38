use Rattle.std.proofs.Common.{◌++◌, Some, vec_items, sym, ap, ◌∙◌}
use Rattle.std.specs.Option.{option_map}
use Rattle.std.proofs.lemmas.List.{append-nil}
use Rattle.notation.specs.Numerals.{all_numbers}
use Rattle.notation.proofs.NumeralLaws.{numbers_more, no_number}
use Rattle.notation.proofs.numeral.read_numbers.Goals as goal

pub returns-in_default : goal.returns-in_default
returns-in_default c = no_number _ _ _ _ _ c.in-Some.ensures.steps c.in_default.ensures c.loop-word.invariant

pub loop-word-preserved : goal.loop-word-preserved
loop-word-preserved c = numbers_more _ _ _ _ _ _ _ c.in-Some.ensures.steps c.in-Some-read_number.ensures c.in_ok-push.ensures.items c.loop-word.invariant

pub returns : goal.returns
returns c =
    let v = vec_items c.loop-word.numbers in
    ap Some (sym (append-nil v)) ∙ (ap (λ q. option_map (λ ns. v ++ ns) (all_numbers q)) (sym c.in-None.ensures.steps.0) ∙ c.loop-word.invariant)
