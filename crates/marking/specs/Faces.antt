-- New faces for cells.
use Rattle.table.specs.Cells.{Face, Cell, cell}

-- The cell with what m makes of its face, at its place.
abbrev pub on_face : {C : Type 0} → (Face C → Face C) → Cell C → Cell C
on_face m c = cell c.at (m c.face)
