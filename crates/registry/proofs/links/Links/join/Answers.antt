use Rattle.std.proofs.Common.{◌&&◌, ◌||◌, None, slice_index_or, refl, ap, ◌∙◌, ap₂, rules, tests}
use Rattle.std.specs.Option.{option_map}
use Rattle.law.specs.Faces.{bit}
use Rattle.law.specs.Joins.{starts_here, ends_here}
use Rattle.law.proofs.Bits.{bit-and}
use Rattle.registry.specs.Links.{plain_id}
use Rattle.registry.proofs.LinkLaws.{tested}
use Rattle.registry.proofs.links.Links.join.Goals as goal

pub returns : goal.returns
returns c = λ n.
    let link = slice_index_or c.args.self.now.links n None in
    let (s, s_tested, s_bit) = c.with-starts.ensures.starts n in
    let (e, e_tested, e_bit) = c.with-starts.ensures.ends n in
    bit-and n c.with-starts.result.0 c.with-starts.result.1
    ∙ ap₂ ◌&&◌
    (s_bit ∙ ap (λ t. bit n c.args.before || t) (tested (λ o. starts_here o c.args.list (option_map plain_id c.args.left)) refl _ link s s_tested (λ k p. search (rules, tests))))
    (e_bit ∙ ap (λ t. bit n c.args.after || t) (tested (λ o. ends_here o c.args.list (option_map plain_id c.args.right)) refl _ link e e_tested (λ k p. search (rules, tests))))
