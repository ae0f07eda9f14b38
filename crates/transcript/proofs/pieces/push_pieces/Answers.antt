use Rattle.std.proofs.Common.{◌∙◌}
use Rattle.transcript.specs.Pieces.{free_table}
use Rattle.transcript.proofs.pieces.push_pieces.Goals as goal

pub push_wanted-requires : goal.push_wanted-requires
unfolding free_table
push_wanted-requires c = c.as_mut_slice.ensures.value ∙ c.in_ok-table.ensures.items_if_clones_equal (λ y e. e)

pub returns : goal.returns
returns c = c.push_wanted.ensures
