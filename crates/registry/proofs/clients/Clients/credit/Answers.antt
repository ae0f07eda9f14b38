use Rattle.std.proofs.Common.{◌≡◌, [], ◌∷◌, ◌++◌, None, Some, set, sym, ap, ◌∙◌, rules}
use Rattle.registry.specs.FixedLists.{items_of}
use Rattle.registry.specs.Clients.{clients_of}
use Rattle.registry.proofs.ClientLaws.{credited_at}
use Rattle.registry.proofs.clients.Clients.credit.Goals as goal

pub returns-in_default-clause-clients : goal.returns-in_default-clause-clients
returns-in_default-clause-clients c =
    let new = credited_at c.args.client c.args.units (clients_of c.args.self.now) None (search rules) in
    let pushed : items_of c.push.new.self ≡ clients_of c.args.self.now ++ record { number = c.args.client; count = c.args.units } ∷ [] = search rules in
    pushed ∙ sym new

pub returns-clause-clients : goal.returns-clause-clients
returns-clause-clients c =
    let known = credited_at c.args.client c.args.units (clients_of c.args.self.now) (Some c.in-Some.place) c.in-Some.ensures.place (record { number = 0; count = 0 }) in
    c.set.ensures ∙ ap (set (clients_of c.args.self.now) c.in-Some.place) (search rules) ∙ sym known
