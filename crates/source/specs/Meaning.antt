-- What a source means: the sides between which all is quoted.
use Rattle.source.specs.declared.weak.LinkSource.{LinkSource}
pub use Rattle.source.specs.Sides.{id_of, Scope, relative, nested, root, Side, sticks_after, scope_of, side_of, alike}

abbrev pub start_of : LinkSource → Side
start_of s = side_of s.start

abbrev pub end_of : LinkSource → Side
end_of s = side_of s.end
