use Rattle.std.specs.Prelude.{ℕ, List, take}
use Rattle.registry.specs.declared.fixed_list.FixedList.{FixedList}

-- The items of a list: as many of its row as its length says.
abbrev pub items_of : {T : Type 0} {N : ℕ} → FixedList T N → List T
items_of s = take s.len s.items
