use Rattle.std.proofs.Common.{◌≡◌, ◌≤◌, ◌+◌, ℕ, refl, sym, ap, subst, ◌∙◌, arith}
use Rattle.status_line.specs.Fitting.{last_cut}
use Rattle.status_line.proofs.Cutting.{ends_before, ends_there, none_first, one_more}
use Rattle.status_line.proofs.fitting.last_cut.Goals.{then-ends, else-ends}
use Rattle.status_line.proofs.fitting.last_cut.Goals as goal

pub loop-at-init : goal.loop-at-init
loop-at-init c = (sym (none_first c.args.parts c.args.line.now), omega arith)

pub loop-at-preserved : goal.loop-at-preserved
loop-at-preserved c =
    let parts = c.args.parts in
    let line = c.args.line.now in
    let at = c.loop-at.at in
    elim c.if-ends.branch [
      | then-ends w ↦ (
        w.last-is ∙ sym (ends_there parts line at (sym c.ends.ensures ∙ w.if-ends.true)),
        subst (λ n. n ≤ at + 1) (sym w.last-is) (omega arith),
      )
      | else-ends w ↦ (
        w.last-is ∙ c.loop-at.invariant.0 ∙ sym (ends_before parts line at (sym c.ends.ensures ∙ w.if-ends.false)),
        subst (λ n. n ≤ at + 1) (sym w.last-is) (one_more c.loop-at.last at c.loop-at.invariant.1),
      )
    ]
