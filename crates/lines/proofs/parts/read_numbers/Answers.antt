use Rattle.std.proofs.Common.{◌∙◌, ap, length-set}
use Rattle.std.specs.Bool.{then_some}
use Rattle.std.proofs.lemmas.List.{length-replicate}
use Rattle.lines.proofs.PartLaws.{counted_start, counted_more, counted_none, counted_all}
use Rattle.lines.proofs.parts.read_numbers.Goals as goal

pub loop-number-init : goal.loop-number-init
loop-number-init g c = record { so_far = counted_start c.args.line.now g.row.N; places = length-replicate g.row.N 0 }

pub returns-in_err-front : goal.returns-in_err-front
returns-in_err-front g c =
    c.from_residual.ensures
    ∙ counted_none c.loop-number.number-items _ _ c.loop-number.number-index _ c.loop-number-test.true c.in_err-front.ensures c.loop-number.invariant.so_far

pub loop-number-preserved : goal.loop-number-preserved
loop-number-preserved g c =
    let xs = c.loop-number.number-items in
    let i = c.loop-number.number-index in
    record {
      so_far = counted_more xs c.loop-number.rest.now c.in_ok-front.more.now _ c.in_ok-front.front i g.row.N c.loop-number.invariant.places c.loop-number-test.true c.in_ok-front.ensures c.loop-number.invariant.so_far;
      places = length-set xs i c.in_ok-front.front ∙ c.loop-number.invariant.places;
    }

pub returns : goal.returns
returns g c =
    c.then_some.ensures
    ∙ (ap (λ t. then_some t c.loop-number.number-items) c.is_ended.ensures
    ∙ counted_all c.loop-number.number-items _ _ c.loop-number.number-index g.row.N c.loop-number.invariant.places c.loop-number-test.false c.loop-number.invariant.so_far)
