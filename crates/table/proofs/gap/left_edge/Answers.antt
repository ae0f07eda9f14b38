use Rattle.std.proofs.Common.{arith, rules}
use Rattle.table.proofs.Edges as E
use Rattle.table.proofs.gap.left_edge.Goals as goal

pub returns-in-None : goal.returns-in-None
returns-in-None g c = λ w. E.left_none w c.in-None.is

pub bounds-blocks-i : goal.bounds-blocks-i
bounds-blocks-i g c = E.left_within c.requires c.in-Some.is

pub offset_bounds-blocks-i : goal.offset_bounds-blocks-i
offset_bounds-blocks-i g c = let lt = E.left_within c.requires c.in-Some.is in search rules

pub overflow_sub-len : goal.overflow_sub-len
overflow_sub-len g c = omega (arith, (E.left_numbered c.requires c.in-Some.is c.index-blocks-i.is).some, c.len.ensures)

pub id_at-requires : goal.id_at-requires
id_at-requires g c =
    let numbered = E.left_numbered c.requires c.in-Some.is c.index-blocks-i.is in
    omega (arith, numbered.some, numbered.ids, c.len.ensures)

pub returns-in-Some : goal.returns-in-Some
returns-in-Some g c = λ w. rw c.id_at.ensures (E.left_some w c.in-Some.is c.index-blocks-i.is c.len.result c.len.ensures)
