use Rattle.std.proofs.Common.{◌≡◌, ◌∙◌, rules, tests}
use Rattle.std.proofs.lemmas.Iterator.{YieldsList-from_slice}
use Rattle.std.proofs.lemmas.Iterator.Search.{position_from_yields_List}
use Rattle.registry.specs.Places.{place_by}
use Rattle.registry.specs.Clients.{clients_of, is_client}
use Rattle.registry.proofs.PlaceLaws.{place_found}
use Rattle.registry.proofs.ClientLaws.{count_at}
use Rattle.registry.proofs.clients.Clients.place_of.Goals as goal

pub returns : goal.returns
returns c =
    let known = is_client c.args.client in
    let clients = clients_of c.args.self.now in
    let found : c.position.result ≡ place_by known clients =
    position_from_yields_List known _ _ c.position.result c.position.ensures.ran (YieldsList-from_slice clients cc) (λ x b q k. search (rules, tests)) ∙ place_found known clients in
    record { place = found; count = count_at c.args.client clients c.position.result found }
