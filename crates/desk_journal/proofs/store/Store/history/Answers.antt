use Rattle.std.proofs.Common.{IfErr, IfOk, subst}
use Rattle.std.proofs.lemmas.Result.{IfOk-weaker}
use Rattle.sector_disk.specs.Trail.{now}
use Rattle.store_layout.specs.Meaning.{Standing}
use Rattle.store_slots.specs.Beside.{IsHistory}
use Rattle.store_slots.specs.Errors.{OfLook}
use Rattle.desk_journal.specs.Undoing.{ShowsStanding}
use Rattle.desk_journal.proofs.Undoing.{as_look, epoch_any, read_beside, stands_now, standing, up_to, up_to_any}
use Rattle.desk_journal.proofs.store.Store.history.Goals as goal

pub invariant_of-self : goal.invariant_of-self
invariant_of-self g c = λ usable. read_beside g.D.Disk c.read_history.ensures.kept (c.self.invariant usable)

pub returns-clause-events : goal.returns-clause-events
returns-clause-events g c =
    let d = g.D.Disk in
    let was = c.self.invariant c.if-self.false in
    subst (λ old. IfOk c.read_history.result
    (λ events. d.honest old.disk → (s : Standing) → ShowsStanding d old s
    → IsHistory (now (d.trail old.disk)).reads s events.items)) c.self.view_is
    (IfOk-weaker c.read_history.result _ _
    (λ events others honest s at. others honest s (up_to_any d was honest c.standing_law.ensures s at)
    (epoch_any d was honest c.standing_law.ensures s at))
    c.read_history.ensures.events)

pub returns-clause-stops : goal.returns-clause-stops
returns-clause-stops g c =
    let d = g.D.Disk in
    let was = c.self.invariant c.if-self.false in
    subst (λ old. d.honest old.disk → IfErr c.read_history.result OfLook) c.self.view_is
    (λ honest. as_look c.read_history.result
    (c.read_history.ensures.stops honest (standing d was honest) (up_to d was honest)
    (epoch_any d was honest c.standing_law.ensures _ (stands_now d was honest))))
