use Rattle.std.proofs.Common.{◌/◌, ◌∙◌, ap, subst, sym}
use Rattle.std.proofs.lemmas.Result.{err_from_is_err_and}
use Rattle.sector_disk.specs.Trail.{now}
use Rattle.sector_disk.specs.declared.disk.TheConstants.{SECTOR_BYTES}
use Rattle.sector_disk.proofs.Touching.{still_all}
use Rattle.store_layout.specs.Meaning.{IsJournal}
use Rattle.store_slots.proofs.Formers.{loaded_up_to, no_bad_body}
use Rattle.store_slots.proofs.former.load_of.Goals as goal

pub returns-clause-shown : goal.returns-clause-shown
returns-clause-shown g c = λ honest is.
    let e = c.in_ok-desktop.ensures in
    let second = c.load_slot.ensures.kept.still honest in
    let r = c.in_ok-events.ensures in
    loaded_up_to c.replay_to.new.desktop is (c.load_slot.ensures.kept.moments honest) (c.replay_to.ensures.kept.moments second)
    (e.image honest is) (r.read second) r.few (r.left.area ∙ e.under.area)
    (λ not. ap (λ n. n / SECTOR_BYTES) (r.left.counted not) ∙ e.under.saved) (sym c.version_of-version.ensures)

pub returns-in_err-desktop-clause-damaged : goal.returns-in_err-desktop-clause-damaged
returns-in_err-desktop-clause-damaged g c =
    let p = err_from_is_err_and c.from_residual.result c.from_residual.ensures.1 in
    λ n bad honest is start events image journal.
    (c.in_err-desktop.ensures.damaged n (cc (p.1, p.2, bad)) honest is).1 start image

pub returns-in_err-events-clause-damaged : goal.returns-in_err-events-clause-damaged
returns-in_err-events-clause-damaged g c =
    let p = err_from_is_err_and c.from_residual-in_err-events.result c.from_residual-in_err-events.ensures.1 in
    λ n bad honest is start events image journal.
    let loads = c.load_slot.ensures.kept in
    let found = c.in_err-events.ensures.damaged n (cc (p.1, p.2, bad)) (loads.still honest) in
    no_bad_body (now (g.D.Disk.trail c.load_slot.new.disk)).reads c.args.slot found.0 events
    (subst (λ r. IsJournal r c.args.slot 0 events) (sym (still_all _ _ (loads.moments honest))) journal) found.2
