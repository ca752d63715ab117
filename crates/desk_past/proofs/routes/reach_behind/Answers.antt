use Rattle.std.proofs.Common.{refl, sym, subst}
use Rattle.past_pages.specs.Page.{Page}
use Rattle.past_pages.specs.Reading.{IsKindOf}
use Rattle.desk_past.proofs.Legs.{passed_events, passed_far, passed_import, passed_mark, passed_turn}
use Rattle.desk_past.proofs.routes.reach_behind.Goals as goal

pub returns-in-Events : goal.returns-in-Events
returns-in-Events c = λ p is. passed_events _ c.args.page.next c.args.left p c.args.here c.args.reach.leg
    c.args.reach.from
    (subst (λ kind. IsKindOf kind p) c.in-Events.is is)

pub returns-in-Import : goal.returns-in-Import
returns-in-Import c = λ p is. passed_import c.args.page.next c.args.left p c.args.here c.args.reach.leg
    c.args.reach.from
    (subst (λ kind. IsKindOf kind p) c.in-Import.is is)

pub returns-in-Turn : goal.returns-in-Turn
returns-in-Turn c = λ p is. passed_turn _ c.args.page.next c.args.left p c.args.here c.args.reach.leg _
    c.args.reach.from refl refl (subst (λ kind. IsKindOf kind p) c.in-Turn.is is)

pub returns-in-FarTurn : goal.returns-in-FarTurn
returns-in-FarTurn c = λ p is. passed_far c.args.page.next c.args.left p c.args.here c.args.reach.leg _
    c.args.reach.from refl refl (subst (λ kind. IsKindOf kind p) c.in-FarTurn.is is)

pub returns-in-Mark : goal.returns-in-Mark
returns-in-Mark c = λ p is. passed_mark c.args.page.next c.args.left p c.args.here c.args.reach.leg _
    c.args.reach.from refl refl (subst (λ kind. IsKindOf kind p) c.in-Mark.is is)
