use Rattle.std.specs.Prelude.{◌≡◌, ℕ, Bool, false, None, Option, MatchOption, slice_index_or}
use Rattle.std.specs.Option.{option_map}
use Rattle.source.specs.declared.id.Id.{Id}
use Rattle.law.specs.Plain as plain
use Rattle.registry.specs.declared.links.Anchor.{Anchor}
use Rattle.registry.specs.declared.links.Anchor.TheVariants.{Open, Before, After}
use Rattle.registry.specs.declared.links.Link.{Link}
use Rattle.registry.specs.declared.links.Links.{Links}

-- What ids, sides and live links are in the plain document.
abbrev pub plain_id : Id → plain.Id
plain_id i = record { client = i.client; clock = i.clock }

abbrev pub side_of : Anchor → plain.Side
side_of Open = plain.Side.Open
side_of (Before a) = plain.Side.Before (plain_id a)
side_of (After a) = plain.Side.After (plain_id a)

abbrev pub link_of : Link → plain.Source
link_of k = record { list = k.list; start = side_of k.start; end = side_of k.end }

abbrev pub source_of : Option Link → Option plain.Source
source_of o = option_map link_of o

-- The live link of a number, if it has one.
abbrev pub link_in : Links → ℕ → Option plain.Source
link_in s n = source_of (slice_index_or s.links n None)

-- What a test, whose calls may answer as P says, tells of a number: the answer for its live link, or false where it has none.
abbrev pub Tells : Links → (Link → Bool → Type 0) → ℕ → Bool → Type 0
Tells s P n t = MatchOption (slice_index_or s.links n None) (t ≡ false) (λ k. P k t)
