use Rattle.std.proofs.Common.{inl, inr}
use Rattle.sector_disk.specs.Trail.{now}
use Rattle.past_pages.proofs.copies.opened_copy.Goals as goal

pub returns-in-Ok : goal.returns-in-Ok
returns-in-Ok g c = λ to shown.
    let opened = c.in-Ok.ensures.ok in
    let found = opened.found shown.honest in
    record {
      usable = opened.usable;
      honest = c.in-Ok.ensures.untouched.still shown.honest;
      desktop = (c.finding_law.ensures (g.E.Disk.size c.args.disk) (now (g.E.Disk.trail c.args.disk)).reads).one_desktop
          _ _
          (found.standing, found.stands, found.is) shown.means;
    }

pub returns : goal.returns
returns g c = λ to shown.
    let law = c.finding_law.ensures (g.E.Disk.size c.args.disk) (now (g.E.Disk.trail c.args.disk)).reads in
    elim (c.is_want.ensures c.if-is_want.false c.in-Err.ensures.faults.errors) [
      | inl foreign ↦ law.not_foreign to shown.means (c.in-Err.ensures.no_store.foreign foreign shown.honest)
      | inr damaged ↦ law.not_damaged to damaged.0 shown.means
          (c.in-Err.ensures.no_store.damaged damaged.0 damaged.1 shown.honest)
    ]
