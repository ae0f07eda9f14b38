use Rattle.std.proofs.Common.{sym, refl, ap, ◌∙◌, rules}
use Rattle.std.proofs.Output.{has_written_append, has_written_of_eq}
use Rattle.replies.specs.Sets.{links_below, listed}
use Rattle.replies.proofs.SetLaws.{separator_after, set_more, set_same}
use Rattle.replies.proofs.link_set.LinkSetDisplay.fmt.Goals as goal
use Rattle.replies.proofs.link_set.LinkSetDisplay.fmt.Goals.{then-links-n-eq1+in_ok-write, else-links-n-eq1}

pub loop-n-init : goal.loop-n-init
unfolding links_below
loop-n-init g c = (λ p. search rules, refl, search rules)

pub loop-n-preserved : goal.loop-n-preserved
loop-n-preserved g c =
    let n = c.loop-n.n-counter in
    let links = c.args.self.now.0 in
    elim c.if-links-n-eq1.branch [
      | then-links-n-eq1+in_ok-write w ↦
          let more = set_more n links c.loop-n.separator.now w.if-links-n-eq1.true c.loop-n.invariant.1 in (
            λ p. rw w.f-is (has_written_of_eq _ _ _ _ _ more.0 (has_written_append _ _ _ _ _ _ (c.loop-n.invariant.0 p) (search rules))),
            ap (λ b. b.now) w.separator-is ∙ more.1,
            rw w.separator-is (search rules),
          )
      | else-links-n-eq1 w ↦
          let same = sym (set_same n links w.if-links-n-eq1.false) in (
            λ p. rw w.f-is (has_written_of_eq _ _ _ _ _ (ap listed same) (c.loop-n.invariant.0 p)),
            ap (λ b. b.now) w.separator-is ∙ (c.loop-n.invariant.1 ∙ ap separator_after same),
            rw w.separator-is c.loop-n.invariant.2,
          )
    ]
