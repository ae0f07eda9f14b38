use Rattle.std.proofs.Common.{List, subst}
use Rattle.table.specs.Cells.{Cell}
use Rattle.table.specs.Gaps.{RightIs}
use Rattle.block_store.proofs.Inserts as I
use Rattle.block_store.proofs.branch.put_new.Goals as goal

pub right_edge-b-requires : goal.right_edge-b-requires
right_edge-b-requires g c = I.right_within c.requires c.left_edge-a.result.right (c.left_edge-a.ensures (I.gap_of c.requires)).right

pub returns : goal.returns
returns g c = λ w.
    let la = c.left_edge-a.ensures (I.gap_of w) in
    let rb = subst (λ (cs : List (Cell g.row.C.Denot)). RightIs cs c.right_edge-b.result) (I.right_cells w c.left_edge-a.result.right la.right) c.right_edge-b.ensures in
    I.new_block w c.args.links.now c.args.new.id c.args.new.content c.join-joined.result la rb c.join-joined.ensures (c.splice_in.ensures (I.splice_of w))
