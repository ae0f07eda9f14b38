use Rattle.std.proofs.Common.{◌≡◌, [], ◌∷◌, ◌++◌, map, None, sym, ap, ◌∙◌, rules}
use Rattle.std.proofs.lemmas.List.{map-append}
use Rattle.std.specs.Str.{bytes_eq}
use Rattle.registry.specs.FixedLists.{items_of}
use Rattle.registry.specs.Name.{name_of}
use Rattle.registry.specs.Names.{names_of}
use Rattle.registry.proofs.NamesLaws.{fine_short}
use Rattle.registry.proofs.PlaceLaws.{placed}
use Rattle.registry.proofs.names.Names.open.Goals as goal

pub returns-in-Some-clause-names : goal.returns-in-Some-clause-names
returns-in-Some-clause-names c = sym (placed bytes_eq c.args.name.now (names_of c.args.self.now) _ c.in-Some.ensures)

pub returns-clause-names : goal.returns-clause-names
returns-clause-names c =
    let name = c.args.name.now in
    let names = items_of c.args.self.now.names in
    let new : name_of c.new.result ≡ name = c.new.ensures ∙ fine_short name (sym c.is_name.ensures ∙ c.if-not-is_name.false) in
    let pushed : items_of c.push.new.self ≡ names ++ c.new.result ∷ [] = search rules in
    let none : c.number_of.result ≡ None = search rules in
    ap (map name_of) pushed
    ∙ map-append name_of names (c.new.result ∷ [])
    ∙ ap (λ n. map name_of names ++ n ∷ []) new
    ∙ sym (placed bytes_eq name (map name_of names) None (sym none ∙ c.number_of.ensures))
