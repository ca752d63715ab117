use Rattle.std.proofs.Common.{◌∙◌, ap, sym}
use Rattle.sector_disk.specs.Trail.{now}
use Rattle.store_layout.specs.declared.head.PastEnd.{PastEnd}
use Rattle.past_pages.proofs.Told.{ok_of, shown_as}
use Rattle.former_stores.proofs.former.told_by.Goals as goal

pub returns-clause-told : goal.returns-clause-told
returns-clause-told g c = λ t shown.
    let is = shown_as (now (g.E.Disk.trail c.args.shown.now.disk)) t c.standing_law.ensures
    (c.info.ensures.durable shown.usable shown.honest) shown.shows in
    let told = ap (λ x. x.epoch) (ap (ok_of c.in-Ok.info) (sym c.in-Ok.is ∙ c.info.ensures.value shown.usable)) in
    (told ∙ sym is.epoch, ap (λ (p : PastEnd). p.next) (c.in-Ok-past.ensures.told shown.honest t shown.shows))
