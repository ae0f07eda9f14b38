use Rattle.std.proofs.Common.{◌≡◌, ℕ, length, subst, arith}
use Rattle.content.proofs.Joining.{Cutting, all_cut}
use Rattle.content.proofs.cutting.cut_each.Goals as goal

pub returns : goal.returns
returns g c =
    let ks = c.args.offsets.now in
    let n : c.loop-i.i ≡ length ks = omega arith in
    let w = subst (λ (i : ℕ). Cutting g.C.Content c.args.content.now ks i c.loop-i.rest c.loop-i.done c.loop-i.pieces) n c.loop-i.invariant in
    all_cut g.C.Content c.args.content.now ks (length ks) c.loop-i.rest c.loop-i.done c.loop-i.pieces w (omega arith) (omega arith)
