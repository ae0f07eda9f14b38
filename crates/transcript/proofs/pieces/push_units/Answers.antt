use Rattle.std.proofs.Common.{vec_items, sym, ◌∙◌, arith}
use Rattle.transcript.proofs.PieceLaws.{unit_told, units_more}
use Rattle.transcript.proofs.pieces.push_units.Goals as goal

pub loop-k-preserved : goal.loop-k-preserved
loop-k-preserved g c =
    let words = c.args.words.now in
    let content = c.args.content.now in
    let us = g.C.Content.units words content in
    let sized = g.met.C.Content.sized words content c.requires in
    let len = c.len-k-end.ensures in
    units_more (vec_items c.args.text.now) (vec_items c.loop-k.text) (vec_items c.push_shown.new.text) us c.loop-k.k c.unwrap-unit.result (omega arith)
    (unit_told _ _ _ _ _ us c.requires (omega arith) (sym c.unwrap-unit.ensures ∙ c.unit.ensures)) c.loop-k.invariant c.in_ok-push_shown.ensures
