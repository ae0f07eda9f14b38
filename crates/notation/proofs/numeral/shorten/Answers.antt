use Rattle.std.proofs.Common.{◌+◌, ◌&&◌, [], ◌∷◌, ◌++◌, get_or, take, drop, Some, sym, ap, ◌∙◌, arith}
use Rattle.std.proofs.lemmas.List.{drop_more, drop_all, take_more, take_all}
use Rattle.std.proofs.lemmas.Bool.{lt-ltb, le-ltb, and_left, cond-true, cond-false}
use Rattle.notation.specs.Numerals.{all_short}
use Rattle.notation.proofs.numeral.shorten.Goals as goal

pub returns-in_default : goal.returns-in_default
returns-in_default c =
    let ns = c.args.numbers.now in
    let i = c.loop-number.number-index in
    sym (cond-false (all_short ns) _ _ (sym c.loop-number.invariant.1 ∙ (ap all_short (drop_more ns i 0 c.loop-number-test.true) ∙ and_left _ _ (le-ltb (get_or ns i 0) 65536 (omega (arith, c.in_default.ensures))))))

pub loop-number-preserved : goal.loop-number-preserved
loop-number-preserved c =
    let ns = c.args.numbers.now in
    let i = c.loop-number.number-index in
    let h = c.in-Ok.ensures in (
      c.in_ok-push.ensures.items ∙ (ap (λ q. q ++ c.in-Ok.unit ∷ []) c.loop-number.invariant.0 ∙ (ap (λ q. take i ns ++ q ∷ []) h.1 ∙ sym (take_more ns i 0 c.loop-number-test.true))),
      sym (ap all_short (drop_more ns i 0 c.loop-number-test.true) ∙ ap (λ t. t && all_short (drop (i + 1) ns)) (lt-ltb _ 65536 h.0)) ∙ c.loop-number.invariant.1,
    )

pub returns : goal.returns
returns c =
    let ns = c.args.numbers.now in
    let i = c.loop-number.number-index in
    ap Some (c.loop-number.invariant.0 ∙ take_all i ns c.loop-number-test.false)
    ∙ sym (cond-true (all_short ns) _ _ (sym c.loop-number.invariant.1 ∙ ap all_short (drop_all i ns c.loop-number-test.false)))
