use Rattle.std.proofs.Common.{◌≡◌, IfErr, IfOk, subst}
use Rattle.std.proofs.lemmas.Result.{IfOk-weaker}
use Rattle.store_layout.specs.Meaning.{Standing}
use Rattle.store_slots.specs.Bodies.{spellings}
use Rattle.store_slots.specs.Errors.{OfLook}
use Rattle.desk_journal.specs.Undoing.{ShowsStanding}
use Rattle.desk_journal.proofs.Undoing.{as_look, read_beside, standing, up_to, up_to_any}
use Rattle.desk_journal.proofs.store.Store.journal.Goals as goal

pub invariant_of-self : goal.invariant_of-self
invariant_of-self g c = λ usable. read_beside g.D.Disk c.read_journal.ensures.kept (c.self.invariant usable)

pub returns-clause-bytes : goal.returns-clause-bytes
returns-clause-bytes g c =
    let d = g.D.Disk in
    let was = c.self.invariant c.if-self.false in
    subst (λ old. IfOk c.read_journal.result
    (λ bytes. d.honest old.disk → (s : Standing) → ShowsStanding d old s → bytes.items ≡ spellings s.events))
    c.self.view_is
    (IfOk-weaker c.read_journal.result _ _
    (λ bytes are honest s at. are honest s (up_to_any d was honest c.standing_law.ensures s at))
    c.read_journal.ensures.bytes)

pub returns-clause-stops : goal.returns-clause-stops
returns-clause-stops g c =
    let d = g.D.Disk in
    let was = c.self.invariant c.if-self.false in
    subst (λ old. d.honest old.disk → IfErr c.read_journal.result OfLook) c.self.view_is
    (λ honest. as_look c.read_journal.result
    (c.read_journal.ensures.stops honest (standing d was honest) (up_to d was honest)))
