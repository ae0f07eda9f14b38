use Rattle.std.proofs.Common.{length-set, rules}
use Rattle.table.proofs.Afters.{within_all}
use Rattle.table.proofs.Splices as S
use Rattle.table.proofs.splice.splice_in.Goals as goal

pub offset_bounds-blocks-i : goal.offset_bounds-blocks-i
offset_bounds-blocks-i g c = let lt = S.i_within c.requires c.in-Some.is in search rules

pub bounds-blocks-i : goal.bounds-blocks-i
bounds-blocks-i g c = S.i_within c.requires c.in-Some.is

pub offset_bounds-blocks-i-in-Some : goal.offset_bounds-blocks-i-in-Some
offset_bounds-blocks-i-in-Some g c = let lt = S.i_within c.requires c.in-Some.is in search rules

pub bounds-blocks-i-in-Some : goal.bounds-blocks-i-in-Some
bounds-blocks-i-in-Some g c = simp length-set (S.i_within c.requires c.in-Some.is)

pub relink-requires-in-Some : goal.relink-requires-in-Some
relink-requires-in-Some g c = within_all c.args.blocks.now _ c.index-blocks-i.result.right (simp length-set) (S.next-within c.requires c.in-Some.is c.index-blocks-i.is)

pub returns-in-None : goal.returns-in-None
returns-in-None g c = λ w. S.put_first c.args.new w c.in-None.is c.relink.ensures

pub returns-in-Some : goal.returns-in-Some
returns-in-Some g c = λ w. S.put-behind c.args.new w c.in-Some.is c.index-blocks-i.is c.relink-in-Some.ensures
