use Rattle.std.proofs.Common.{sym, subst}
use Rattle.std.proofs.lemmas.Result.{IfOk-weaker}
use Rattle.sector_disk.proofs.Touching.{weakened}
use Rattle.store_layout.specs.Meaning.{Means}
use Rattle.desk_journal.proofs.Passing.{shows_means}
use Rattle.twin_disk.specs.Survival.{twin_size}
use Rattle.twin_store.specs.Legs.{IsOfFirst}
use Rattle.twin_store.proofs.Below.{means_below}
use Rattle.twin_store.proofs.OnLegs.{legs_leave, legs_leave_only}
use Rattle.twin_store.proofs.openings.open_on_twins.Goals as goal

pub returns-clause-any_moment : goal.returns-clause-any_moment
returns-clause-any_moment g c = λ on honest desktop leaves.
    let old = c.args.disk in
    let device = c.open.ensures.any_moment.device in
    legs_leave_only g.A.Disk g.B.Disk old _ (Means (twin_size old) desktop)
    (subst (λ n. IsOfFirst n (Means (twin_size old) desktop)) (sym device.as_large) (means_below (twin_size old) desktop))
    on honest (device.still honest) (weakened (c.open.ensures.any_moment.unwritten honest) (λ image is. leaves image is))

pub returns-clause-ok : goal.returns-clause-ok
returns-clause-ok g c = IfOk-weaker c.open.result _ _ (λ store opened honest.
    legs_leave g.A.Disk g.B.Disk store.disk (Means (twin_size store.disk) store.desktop)
    (means_below (twin_size store.disk) store.desktop) honest
    (λ content image. shows_means (twin_size store.disk) store.epoch store.events store.desktop content
    (opened.durable honest content image))) c.open.ensures.ok
