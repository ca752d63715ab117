use Rattle.std.proofs.Common.{◌∙◌, sym, ap, None}
use Rattle.desk_journal.specs.Session.{session_of}
use Rattle.desk_sitting.specs.Questions.{leaving_loses, session_place}
use Rattle.desk_sitting.proofs.Found.{asks_click, asks_leave, asks_nothing, found_alone, found_as}
use Rattle.desk_sitting.proofs.sitting.Sitting.question_of.Goals as goal

pub returns-then-not-self : goal.returns-then-not-self
returns-then-not-self g c = found_alone g.D.Disk _ None c.args.self.now c.args.store.now c.requires
    (asks_nothing c.args.action.now c.args.self.now (session_place (session_of c.args.store.now))
    c.args.store.now.desktop c.if-not-self.true)

pub returns-then-is_leave : goal.returns-then-is_leave
returns-then-is_leave g c = found_alone g.D.Disk _ c.leaving_loses.result c.args.self.now c.args.store.now c.requires
    (asks_leave c.args.action.now c.args.self.now (session_place (session_of c.args.store.now)) c.args.store.now.desktop
    c.leaving_loses.result c.if-not-self.false (sym c.is_leave.ensures ∙ c.if-is_leave.true)
    (c.leaving_loses.ensures ∙ ap (λ p. leaving_loses p c.args.self.now) c.place.ensures))

pub returns : goal.returns
returns g c = found_as g.D.Disk _ _ c.lost_by.result c.args.self.now c.args.store.now c.lost_by.new.store
    (λ desktop. asks_click c.args.action.now c.args.self.now (session_place (session_of c.args.store.now)) desktop
    c.if-not-self.false (sym c.is_leave.ensures ∙ c.if-is_leave.false)) c.lost_by.ensures
