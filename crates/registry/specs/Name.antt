use Rattle.std.specs.Prelude.{ℕ, List}
use Rattle.registry.specs.declared.name.Name.{Name}
use Rattle.registry.specs.FixedLists.{items_of}

-- The bytes of a name.
abbrev pub name_of : Name → List ℕ
name_of n = items_of n.bytes
