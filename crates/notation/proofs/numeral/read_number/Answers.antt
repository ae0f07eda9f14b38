use Rattle.std.proofs.Common.{◌≡◌, ◌+◌, ◌-◌, ◌*◌, get_or, drop, sym, ap, ◌∙◌, arith}
use Rattle.std.proofs.lemmas.List.{drop_all}
use Rattle.std.proofs.lemmas.Bool.{and_left}
use Rattle.std.proofs.lemmas.Bool.Decides.{nat_tests}
use Rattle.notation.specs.Numerals.{all_digits, value_from}
use Rattle.notation.proofs.NumeralLaws.{digits_more, digits_step, value_more, value_grows, no_digits, too_large, number_read}
use Rattle.notation.proofs.numeral.read_number.Goals as goal

pub returns-then-not-is_ascii_digit : goal.returns-then-not-is_ascii_digit
returns-then-not-is_ascii_digit c =
    let w = c.args.word.now in
    let n = c.loop-digit.digit-index in
    no_digits w (sym c.loop-digit.invariant.same_digits ∙ (digits_more w n c.loop-digit-test.true ∙ and_left _ _ (sym c.if-not-is_ascii_digit.ensures.value)))

pub returns-in_err-checked_mul : goal.returns-in_err-checked_mul
returns-in_err-checked_mul c =
    let w = c.args.word.now in
    let n = c.loop-digit.digit-index in
    let v = c.loop-digit.value in
    let g = value_grows (v * 10 + (get_or w n 0 - 48)) (drop (n + 1) w) in
    c.from_residual.ensures ∙ too_large w (omega (arith, value_more w n v c.loop-digit-test.true, c.in_err-checked_mul.ensures))

pub returns-in_err-value : goal.returns-in_err-value
returns-in_err-value c =
    let w = c.args.word.now in
    let n = c.loop-digit.digit-index in
    let v = c.loop-digit.value in
    let g = value_grows (v * 10 + (get_or w n 0 - 48)) (drop (n + 1) w) in
    c.from_residual-in_err-value.ensures ∙ too_large w (omega (arith, value_more w n v c.loop-digit-test.true, c.in_err-value.ensures, c.in_ok-checked_mul.ensures, c.from.ensures))

pub loop-digit-preserved : goal.loop-digit-preserved
loop-digit-preserved c =
    let w = c.args.word.now in
    let n = c.loop-digit.digit-index in
    let v = c.loop-digit.value in
    let e : c.in_ok-value.value ≡ v * 10 + (get_or w n 0 - 48) = omega (arith, c.in_ok-value.ensures, c.in_ok-checked_mul.ensures, c.from.ensures) in
    record {
      same_value = ap (λ q. value_from q (drop (n + 1) w)) e ∙ (sym (value_more w n v c.loop-digit-test.true) ∙ c.loop-digit.invariant.same_value);
      same_digits = sym (digits_step w n c.loop-digit-test.true (sym c.if-not-is_ascii_digit.ensures.value)) ∙ c.loop-digit.invariant.same_digits;
      fits = omega (arith, c.in_ok-value.ensures);
    }

pub returns : goal.returns
returns c =
    let w = c.args.word.now in
    let e = drop_all c.loop-digit.digit-index w c.loop-digit-test.false in
    number_read w c.loop-digit.value (grind (arith, nat_tests, c.if-is_empty.ensures)) (sym c.loop-digit.invariant.same_digits ∙ ap all_digits e) (sym (ap (value_from c.loop-digit.value) e) ∙ c.loop-digit.invariant.same_value) c.loop-digit.invariant.fits
