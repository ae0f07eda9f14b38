use Rattle.std.proofs.Common.{refl, arith}
use Rattle.content.specs.Lawful.{Lawful}
use Rattle.block_store.proofs.Gaps.{closed}
use Rattle.block_store.proofs.Removes as R
use Rattle.block_store.proofs.branch.remove_at.Given as given
use Rattle.block_store.proofs.branch.remove_at.Goals as goal

laws : (g : given.Over) → Lawful g.C.Content
laws g = record { sized = g.met.C.Content.sized; steady = g.met.C.Content.steady; halves = g.met.C.Content.halves }

pub returns-then-limit-used : goal.returns-then-limit-used
returns-then-limit-used g c = record {
  tables = (omega (arith, c.requires.enough, c.find_gap-first.ensures.needs, c.find_gap-last.ensures.needs, c.if-limit-used.true), refl);
  shape = λ n s. s;
}

pub find_gap-first-requires-2 : goal.find_gap-first-requires-2
find_gap-first-requires-2 g c =
    let upto = closed c.requires.shape c.requires.known c.find_gap-last.ensures c.requires.within (omega (arith, c.requires.fits, c.requires.enough, c.if-limit-used.false)) in
    record { list = c.args.l; stands = (c.open_gap-j.ensures.shape upto c.requires.words c.requires.shape).stands c.args.l }

pub open_gap-k-requires : goal.open_gap-k-requires
open_gap-k-requires g c =
    R.second_closed g.C.Content (laws g) c.requires c.find_gap-first.ensures c.find_gap-last.ensures c.find_gap-first-2.ensures (omega (arith, c.requires.enough, c.if-limit-used.false)) (omega arith)
    c.open_gap-j.ensures.tables c.open_gap-j.ensures.shape

pub left_edge-edge-requires : goal.left_edge-edge-requires
left_edge-edge-requires g c =
    let K = g.C.Content in
    let both =
    R.two K (laws g) c.requires c.find_gap-first.ensures c.find_gap-last.ensures c.find_gap-first-2.ensures (omega (arith, c.requires.enough, c.if-limit-used.false)) (omega arith)
    c.open_gap-j.ensures.tables c.open_gap-j.ensures.shape c.open_gap-k.ensures.tables c.open_gap-k.ensures.shape in
    R.edge_gap K (laws g) c.requires both.after_last both.mid_shape both.before_first both.shape c.left.result c.left.ensures

pub strike-links-requires : goal.strike-links-requires
strike-links-requires g c =
    let K = g.C.Content in
    let both =
    R.two K (laws g) c.requires c.find_gap-first.ensures c.find_gap-last.ensures c.find_gap-first-2.ensures (omega (arith, c.requires.enough, c.if-limit-used.false)) (omega arith)
    c.open_gap-j.ensures.tables c.open_gap-j.ensures.shape c.open_gap-k.ensures.tables c.open_gap-k.ensures.shape in
    let le = c.left_edge-edge.ensures (R.edge_gap K (laws g) c.requires both.after_last both.mid_shape both.before_first both.shape c.left.result c.left.ensures) in
    R.strikable K (laws g) c.requires both.after_last both.mid_shape both.before_first both.shape c.left_edge-edge.result le

pub returns : goal.returns
returns g c =
    let K = g.C.Content in
    let both =
    R.two K (laws g) c.requires c.find_gap-first.ensures c.find_gap-last.ensures c.find_gap-first-2.ensures (omega (arith, c.requires.enough, c.if-limit-used.false)) (omega arith)
    c.open_gap-j.ensures.tables c.open_gap-j.ensures.shape c.open_gap-k.ensures.tables c.open_gap-k.ensures.shape in
    let le = c.left_edge-edge.ensures (R.edge_gap K (laws g) c.requires both.after_last both.mid_shape both.before_first both.shape c.left.result c.left.ensures) in
    let st = c.strike-links.ensures (R.strikable K (laws g) c.requires both.after_last both.mid_shape both.before_first both.shape c.left_edge-edge.result le) in
    record {
      tables = R.removed K (laws g) c.requires both.after_last both.mid_shape both.before_first both.shape le st both.fits;
      shape = λ m s. R.removed_shape K (laws g) c.requires both.after_last both.mid_shape both.before_first both.shape le st m (both.keeps m s) (omega arith);
    }
