use Rattle.std.proofs.Common.{ap, arith}
use lib.Count.{ones}
use Rattle.table.specs.Cells.{Face}
use Rattle.block_store.proofs.Gaps.{cell-within, cell-face}
use Rattle.block_store.proofs.cut.count_links.Goals as goal

pub bounds-blocks-i-in_ok-i : goal.bounds-blocks-i-in_ok-i
bounds-blocks-i-in_ok-i g c = let at = c.in_ok-i.ensures in cell-within (c.requires at.list) _ _ _ _ at.found.parts

pub bounds-blocks-i : goal.bounds-blocks-i
bounds-blocks-i g c = bounds-blocks-i-in_ok-i g c

pub offset_bounds-blocks-i : goal.offset_bounds-blocks-i
offset_bounds-blocks-i g c = let lt = bounds-blocks-i-in_ok-i g c in omega arith

pub returns : goal.returns
returns g c =
    let at = c.in_ok-i.ensures in
    let same = ap (λ (f : Face g.row.C.Denot). f.links) (cell-face (c.requires at.list) _ _ _ _ at.found.parts c.index-blocks-i.result c.index-blocks-i.is) in
    record { place = c.in_ok-i.i; offset = _; at = at; small = omega (arith, same, c.index-blocks-i.element_fits); count = ap ones same }
