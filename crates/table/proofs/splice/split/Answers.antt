use Rattle.std.proofs.Common.{length-set, rules}
use Rattle.table.proofs.Afters.{within_all}
use Rattle.table.proofs.Splits as S
use Rattle.table.proofs.splice.split.Goals as goal

pub offset_bounds-blocks-i : goal.offset_bounds-blocks-i
offset_bounds-blocks-i g c = let lt = S.i_within c.requires in search rules

pub bounds-blocks-i : goal.bounds-blocks-i
bounds-blocks-i g c = S.i_within c.requires

pub cut-fore-requires-clause-below : goal.cut-fore-requires-clause-below
cut-fore-requires-clause-below g c = S.below c.requires c.index-blocks-i.is

pub id_at-requires : goal.id_at-requires
id_at-requires g c = S.clocked c.requires c.index-blocks-i.is

pub offset_bounds-blocks-i-2 : goal.offset_bounds-blocks-i-2
offset_bounds-blocks-i-2 g c = let lt = S.i_within c.requires in search rules

pub bounds-blocks-i-2 : goal.bounds-blocks-i-2
bounds-blocks-i-2 g c = simp length-set (S.i_within c.requires)

pub relink-requires : goal.relink-requires
relink-requires g c = within_all c.args.blocks.now _ c.index-blocks-i.result.right (simp length-set) (S.next-within c.requires c.index-blocks-i.is)

pub returns : goal.returns
returns g c = λ w. S.cut w c.index-blocks-i.is c.cut-fore.ensures.first c.cut-fore.ensures.others (rw (c.id_at.ensures, c.id_at-2.ensures) at c.relink.ensures)
