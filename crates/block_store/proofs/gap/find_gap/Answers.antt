use mir.Val.{bool_byte}
use Rattle.std.proofs.Common.{Bool, true, false, ltb, ◌≡◌, refl, ap, ◌∙◌, arith}
use Rattle.table.specs.Cells.{Face}
use Rattle.block_store.specs.Cuts.{one_if}
use Rattle.block_store.proofs.Gaps as G
use Rattle.block_store.proofs.gap.find_gap.Goals as goal

pub bounds-blocks-i : goal.bounds-blocks-i
bounds-blocks-i g c = G.cell-within c.requires.stands _ _ _ _ c.in-After.ensures.parts

pub offset_bounds-blocks-i : goal.offset_bounds-blocks-i
offset_bounds-blocks-i g c = let lt = bounds-blocks-i g c in omega arith

-- A test as a number.
byte_is : (b : Bool) → bool_byte b ≡ one_if b
byte_is true = refl
byte_is false = refl

pub returns-in-After : goal.returns-in-After
returns-in-After g c =
    let q = c.in-After.ensures in
    let size : c.len.result ≡ g.C.Content.size q.face.content =
    c.len.ensures ∙ ap (λ (f : Face g.row.C.Denot). g.C.Content.size f.content) (G.cell-face c.requires.stands _ _ _ _ q.parts c.index-blocks-i.result c.index-blocks-i.is) in
    G.gap_after g.C.Content c.args.index _ _ c.in-After.i c.in-After.o refl q (c.from-needs.ensures ∙ byte_is (ltb c.in-After.o c.len.result) ∙ ap (λ n. one_if (ltb c.in-After.o n)) size)

pub returns-in_default : goal.returns-in_default
returns-in_default g c = G.gap_rest g.C.Content c.args.index _ _ c.in_default.not-After refl c.seek-place.ensures
