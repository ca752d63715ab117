use Rattle.std.proofs.Common.{ap, sym, subst}
use Rattle.std.proofs.lemmas.Result.{IfOk-weaker}
use Rattle.desktop_definitions.specs.Step.{Outcome, step}
use Rattle.sector_disk.specs.Trail.{now, Leaves}
use Rattle.store_layout.specs.Meaning.{Means, MeansEither}
use Rattle.desk_journal.proofs.Passing.{shows_means}
use Rattle.desk_journal.proofs.Stepped.{stepped_newest}
use Rattle.twin_disk.specs.Survival.{twin_moments, twin_size}
use Rattle.twin_store.specs.Legs.{IsOfFirst}
use Rattle.twin_store.proofs.Below.{either_below, means_below}
use Rattle.twin_store.proofs.OnLegs.{legs_leave, legs_leave_only, legs_leave_since}
use Rattle.twin_store.proofs.posts.post_on_twins.Goals as goal

pub returns-clause-any_moment : goal.returns-clause-any_moment
returns-clause-any_moment g c = λ on usable honest.
    let old = c.args.store.now in
    let device = c.post.ensures.behaves.device in
    legs_leave_only g.A.Disk g.B.Disk old.disk c.post.new.self.disk _
    (subst (λ n. IsOfFirst n (MeansEither (twin_size old.disk) old.desktop (step old.desktop c.args.event.now).desktop))
    (sym device.as_large) (either_below (twin_size old.disk) old.desktop (step old.desktop c.args.event.now).desktop))
    on honest (device.still honest) (c.post.ensures.any_moment usable honest)

pub returns-clause-noted : goal.returns-clause-noted
returns-clause-noted g c = λ usable honest.
    let old = c.args.store.now in
    let device = c.post.ensures.behaves.device in
    legs_leave_since g.A.Disk g.B.Disk old.disk c.post.new.self.disk _
    (subst (λ n. IsOfFirst n (MeansEither (twin_size old.disk) old.desktop (step old.desktop c.args.event.now).desktop))
    (sym device.as_large) (either_below (twin_size old.disk) old.desktop (step old.desktop c.args.event.now).desktop))
    (device.still honest) (c.post.ensures.any_moment usable honest)

pub returns-clause-ok : goal.returns-clause-ok
returns-clause-ok g c = IfOk-weaker c.post.result _ _ (λ reply acknowledged honest.
    let old = c.args.store.now in
    let new = c.post.new.self in
    let device = c.post.ensures.behaves.device in
    let leaves : Leaves (now (twin_moments new.disk)) (Means (twin_size old.disk) (step old.desktop c.args.event.now).desktop) =
    λ content image. subst (λ desktop. Means (twin_size old.disk) desktop content)
    (ap (λ (o : Outcome). o.desktop) (stepped_newest _ acknowledged honest))
    (subst (λ size. Means size new.desktop content) device.as_large
    (shows_means (twin_size new.disk) new.epoch new.events new.desktop content
    (acknowledged.durable (device.still honest) content image))) in
    legs_leave g.A.Disk g.B.Disk new.disk _
    (subst (λ n. IsOfFirst n (Means (twin_size old.disk) (step old.desktop c.args.event.now).desktop))
    (sym device.as_large) (means_below (twin_size old.disk) (step old.desktop c.args.event.now).desktop))
    (device.still honest) leaves) c.post.ensures.ok
