use Rattle.std.proofs.Common.{ℕ, ◌+◌, Bool, None, refl, sym, subst, arith, rules}
use Rattle.std.specs.Fn.{FnReturnsAt}
use Rattle.std.proofs.lemmas.List.{get_or_past}
use Rattle.registry.specs.Links.{Tells}
use Rattle.registry.proofs.Gathering.{Gathered, gather_in, gather_out, gather_all}
use Rattle.registry.proofs.links.Links.with.Goals as goal
use Rattle.registry.proofs.links.Links.with.Goals.{in-Some, in_default-2, in_default, then-matches, else-matches, in-Some-matches, in_default-matches-2, in_default-matches, then-matches-2, else-matches-2}

pub loop-n-preserved : goal.loop-n-preserved
loop-n-preserved g c =
    let S : ℕ → Bool → Type 0 = Tells c.args.self.now (FnReturnsAt g.S.Fn c.args.starts) in
    let E : ℕ → Bool → Type 0 = Tells c.args.self.now (FnReturnsAt g.E.Fn c.args.ends) in
    let n = c.loop-n.n in
    let starts : S n c.match-matches.matches =
    elim c.match-matches.branch [
      | in-Some w ↦ subst (S n) (sym w.matches-is) (search rules)
      | in_default-2 w ↦ subst (S n) (sym w.matches-is) (search rules)
      | in_default w ↦ subst (S n) (sym w.matches-is) (search rules)
    ] in
    let ends : E n c.match-matches-2.matches =
    elim c.match-matches-2.branch [
      | in-Some-matches w ↦ subst (E n) (sym w.matches-is) (search rules)
      | in_default-matches-2 w ↦ subst (E n) (sym w.matches-is) (search rules)
      | in_default-matches w ↦ subst (E n) (sym w.matches-is) (search rules)
    ] in (
      elim c.if-matches.branch [
        | then-matches w ↦ subst (Gathered S c.args.before (n + 1)) (sym w.first-is) (gather_in S c.args.before n c.loop-n.first c.loop-n-test.true (subst (S n) w.if-matches.true starts) c.loop-n.invariant.0)
        | else-matches w ↦ subst (Gathered S c.args.before (n + 1)) (sym w.first-is) (gather_out S c.args.before n c.loop-n.first (subst (S n) w.if-matches.false starts) c.loop-n.invariant.0)
      ],
      elim c.if-matches-2.branch [
        | then-matches-2 w ↦ subst (Gathered E c.args.after (n + 1)) (sym w.second-is) (gather_in E c.args.after n c.loop-n.second c.loop-n-test.true (subst (E n) w.if-matches-2.true ends) c.loop-n.invariant.1)
        | else-matches-2 w ↦ subst (Gathered E c.args.after (n + 1)) (sym w.second-is) (gather_out E c.args.after n c.loop-n.second (subst (E n) w.if-matches-2.false ends) c.loop-n.invariant.1)
      ],
    )

pub returns : goal.returns
returns g c =
    let s = c.args.self.now in
    record {
      starts = gather_all (Tells s (FnReturnsAt g.S.Fn c.args.starts)) c.args.before c.loop-n.n c.loop-n.first (λ m ge. rw (get_or_past s.links m None (omega arith)) refl) c.loop-n.invariant.0;
      ends = gather_all (Tells s (FnReturnsAt g.E.Fn c.args.ends)) c.args.after c.loop-n.n c.loop-n.second (λ m ge. rw (get_or_past s.links m None (omega arith)) refl) c.loop-n.invariant.1;
    }
