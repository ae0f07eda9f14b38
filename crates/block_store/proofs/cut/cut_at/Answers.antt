use Rattle.std.proofs.Common.{◌≡◌, ◌<◌, length, arith}
use Rattle.std.proofs.lemmas.Bool.Decides.{nat_tests}
use Rattle.content.specs.Lawful.{Lawful}
use Rattle.block_store.specs.Locates.{cut_needs, found_cut}
use Rattle.block_store.proofs.Shapes as S
use Rattle.block_store.proofs.cut.cut_at.Given as given
use Rattle.block_store.proofs.cut.cut_at.Goals as goal

laws : (g : given.Over) → Lawful g.C.Content
laws g = record { sized = g.met.C.Content.sized; steady = g.met.C.Content.steady; halves = g.met.C.Content.halves }

pub split-requires : goal.split-requires
split-requires g c =
    let low : 0 < c.in_ok-i.o = (let ne = c.if-o-eq0.false in omega arith) in
    let at = rw c.in_ok-i.ensures.ok_part at c.locate.ensures in
    S.cuttable c.requires.shape.shape at.list (found_cut at.found low) (omega (arith, c.if-used-limit.false, c.requires.fits))

pub returns : goal.returns
returns g c =
    let low : 0 < c.in_ok-i.o = (let ne = c.if-o-eq0.false in omega arith) in
    let at = rw c.in_ok-i.ensures.ok_part at c.locate.ensures in
    let room : c.args.used < length c.args.blocks.now = omega (arith, c.if-used-limit.false, c.requires.fits) in
    let changed = S.cut_changed c.requires.shape.shape at.list (found_cut at.found low) room (c.split.ensures (S.cuttable c.requires.shape.shape at.list (found_cut at.found low) room)) in
    let one : cut_needs c.in_ok-i.o ≡ 1 = grind (arith, nat_tests) in
    record {
      tables = record {
        place = c.in_ok-i.i;
        offset = c.in_ok-i.o;
        at = at;
        enough = omega (arith, one, c.if-used-limit.false);
        records = omega (arith, one);
        unchanged = λ e. absurd (omega arith);
        changed = λ low'. changed;
      };
      shape = λ n s. S.cut_shape s at.list (found_cut at.found low) (laws g) at.known room (omega arith) changed;
    }
