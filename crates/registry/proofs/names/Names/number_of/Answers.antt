use Rattle.std.proofs.Common.{◌≡◌, ◌∙◌, rules, tests}
use Rattle.std.proofs.lemmas.Iterator.{YieldsList-from_slice}
use Rattle.std.proofs.lemmas.Iterator.Search.{position_from_yields_List}
use Rattle.std.specs.Str.{bytes_eq}
use Rattle.registry.specs.FixedLists.{items_of}
use Rattle.registry.specs.Name.{name_of}
use Rattle.registry.specs.Names.{names_of}
use Rattle.registry.specs.Places.{place_by}
use Rattle.registry.proofs.PlaceLaws.{place_found, place_seen}
use Rattle.registry.proofs.names.Names.number_of.Goals as goal

pub returns : goal.returns
returns c =
    let known = bytes_eq c.args.name.now in
    let names = items_of c.args.self.now.names in
    let found : c.position.result ≡ place_by known (names_of c.args.self.now) =
    position_from_yields_List (λ n. known (name_of n)) _ _ c.position.result c.position.ensures.ran (YieldsList-from_slice names cc) (λ x b q k. search (rules, tests))
    ∙ place_found (λ n. known (name_of n)) names ∙ place_seen name_of known names in
    let same : c.map.result ≡ c.position.result = search rules in
    same ∙ found
