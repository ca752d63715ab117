use Rattle.std.proofs.Common.{◌∙◌, refl}
use Rattle.past_looks.proofs.Carrying.{looker_read}
use Rattle.past_looks.proofs.looker.Looker.scroll.Goals as goal

pub returns-in_default-clause-looker : goal.returns-in_default-clause-looker
returns-in_default-clause-looker g c = λ is.
    looker_read g.D.Disk c.args.self.now _ refl refl (c.scroll.ensures.looks.desktop tt) refl refl is

pub loop-event-init : goal.loop-event-init
loop-event-init g c = (
  refl,
  λ is. looker_read g.D.Disk c.args.self.now _ refl refl (c.scroll.ensures.looks.desktop tt) refl refl is,
)

pub loop-event-preserved : goal.loop-event-preserved
loop-event-preserved g c = (
  c.point.ensures.shown ∙ c.loop-event.invariant.0,
  λ is. c.in_ok-point.ensures.looker (c.loop-event.invariant.1 is),
)

pub returns-in_err-point-clause-shown : goal.returns-in_err-point-clause-shown
returns-in_err-point-clause-shown g c = c.point.ensures.shown ∙ c.loop-event.invariant.0

pub returns-clause-looker : goal.returns-clause-looker
returns-clause-looker g c = c.loop-event.invariant.1

pub returns-clause-shown : goal.returns-clause-shown
returns-clause-shown g c = c.loop-event.invariant.0
