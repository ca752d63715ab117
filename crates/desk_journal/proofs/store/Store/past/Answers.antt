use Rattle.std.proofs.Common.{◌≡◌, ◌∙◌, ap, subst, sym}
use Rattle.sector_disk.specs.Trail.{now}
use Rattle.store_layout.specs.Layout.{head}
use Rattle.store_layout.specs.Meaning.{Standing}
use Rattle.desk_journal.specs.Undoing.{ShowsStanding}
use Rattle.desk_journal.proofs.Undoing.{read_beside, up_to_any}
use Rattle.desk_journal.proofs.store.Store.past.Goals as goal

pub invariant_of-self : goal.invariant_of-self
invariant_of-self g c = λ usable. read_beside g.D.Disk c.read_past.ensures.kept (c.self.invariant usable)

pub invariant_of-self-2 : goal.invariant_of-self-2
invariant_of-self-2 g c = λ usable. read_beside g.D.Disk c.read_past.ensures.kept (c.self.invariant usable)

pub returns-clause-told : goal.returns-clause-told
returns-clause-told g c =
    let d = g.D.Disk in
    let was = c.self.invariant c.if-self.false in
    subst (λ old. d.honest old.disk → (s : Standing) → ShowsStanding d old s → c.in_ok-past.past ≡ s.past)
    c.self.view_is
    (λ honest s at. c.in_ok-past.ensures.past honest
    ∙ ap (λ n. (head (now (d.trail c.self.inside.disk)).reads n).past)
    (sym (up_to_any d was honest c.standing_law.ensures s at).slot_is) ∙ at.past)
