use Rattle.std.proofs.Common.{◌∙◌, ap, refl, sym}
use Rattle.std.proofs.lemmas.Result.{IfOk-at_ok}
use Rattle.desktop_definitions.specs.Step.{Outcome}
use Rattle.desk_journal.proofs.Stepped.{stepped_newest}
use Rattle.past_looks.proofs.Carrying.{looker_pointed}
use Rattle.past_looks.proofs.looker.Looker.point.Goals as goal

pub returns-clause-looker : goal.returns-clause-looker
returns-clause-looker g c = λ is.
    looker_pointed g.D.Disk c.args.self.now c.keep.new.self _ c.args.event.now c.in_ok-keep.ensures.kept refl refl refl refl
    (sym c.is_of_mouse.ensures ∙ c.if-not-is_of_mouse.false) (ap (λ (o : Outcome). o.desktop) (stepped_newest _ (IfOk-at_ok _ c.in_ok-reply.ensures c.post.ensures.ok) tt)) is
