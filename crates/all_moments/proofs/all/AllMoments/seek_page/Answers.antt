use Rattle.std.proofs.Common.{inl, inr, subst, sym}
use Rattle.std.proofs.lemmas.Result.{IfOk-weaker, on_ok_weaker}
use Rattle.past_pages.proofs.StillReads.{still_both}
use Rattle.past_moments.specs.Seeking.{IsBefore}
use Rattle.all_moments.specs.Parts.{IsSoughtThen}
use Rattle.all_moments.specs.Parts.IsSoughtThen.{in_use}
use Rattle.all_moments.proofs.Backward.{sought_then}
use Rattle.all_moments.proofs.all.AllMoments.seek_page.Goals as goal

pub returns-in_err-sought-clause-still : goal.returns-in_err-sought-clause-still
returns-in_err-sought-clause-still g c = still_both g.D.Disk c.come_to.ensures.still c.seek_at_hand.ensures.still

pub returns-clause-before : goal.returns-clause-before
returns-clause-before g c = IfOk-weaker c.settled.result _ _ (λ settled same. elim same [
  | inl is ↦ subst (IsBefore c.args.k) (sym is) c.in_ok-sought.ensures.before
  | inr is ↦ subst (IsBefore c.args.k) (sym is) tt
]) c.settled.ensures.same

pub returns-clause-sought : goal.returns-clause-sought
returns-clause-sought g c = IfOk-weaker c.settled.result _ _ (λ settled same are.
    let usable = c.seek_at_hand.ensures.still.usable in
    elim same [
      | inl is ↦ subst (λ x. IsSoughtThen g.D.Disk c.args.k c.args.word.now x c.settled.new.store) (sym is)
          (sought_then g.D.Disk c.settled.ensures.still usable (c.shows_what_crashes_leave.ensures.quiet usable) c.args.k
          c.args.word.now c.in_ok-sought.sought (c.in_ok-sought.ensures.sought (c.in_ok-come_to.ensures.are are)))
      | inr is ↦ subst (λ x. IsSoughtThen g.D.Disk c.args.k c.args.word.now x c.settled.new.store) (sym is)
          (in_use (λ past lies. tt))
    ]) c.settled.ensures.same

pub returns-clause-are : goal.returns-clause-are
returns-clause-are g c = on_ok_weaker c.settled.result (λ fact are.
    fact (c.in_ok-sought.ensures.are (c.in_ok-come_to.ensures.are are))) c.settled.ensures.are

pub returns-clause-still : goal.returns-clause-still
returns-clause-still g c = still_both g.D.Disk (still_both g.D.Disk c.come_to.ensures.still c.seek_at_hand.ensures.still)
    c.settled.ensures.still
