use Rattle.std.proofs.Common.{◌+◌, ◌-◌, subst, sym, refl, arith, false}
use Rattle.sector_disk.specs.Trail.{now, LeavesOnly}
use Rattle.store_layout.specs.Meaning.{Means}
use Rattle.store_layout.specs.declared.layout.TheConstants.{LAYOUT}
use Rattle.command_table.specs.Versions.{version_number}
use Rattle.store_slots.specs.Live.{seen_live}
use Rattle.store_slots.proofs.Settling.{kept_shows}
use Rattle.desk_journal.proofs.Storing.{goes_by, renewed_kept, renewed_moments}
use Rattle.store_layout.specs.Meaning.{Stands}
use Rattle.desk_journal.specs.Checkpointing.{IsRenewed}
use Rattle.desk_journal.specs.View.{StoreView}
use Rattle.desk_journal.specs.Behind.{GoesToNext, LeavesNext, renewed_from}
use Rattle.desk_journal.proofs.Aside.{renewed_former, renewed_shows, renewed_standings, still_stands}
use Rattle.desk_journal.proofs.store.Store.checkpoint_with.Goals as goal

pub invariant_of-self-2 : goal.invariant_of-self-2
invariant_of-self-2 g c = λ _.
    let s = c.self.inside in
    let was = c.self.invariant c.if-self.false in
    let r = c.in_ok-renew.ensures in (
      omega (arith, was.0),
      omega arith,
      omega (arith, was.2, r.device.as_large),
      r.left.live,
      r.left.told was.4,
      λ honest. (
        renewed_kept g.D.Disk s.slot (version_number s.version) s.epoch s.events s.disk c.renew.new.disk s.desktop
            c.renew.new.desktop
            _ was r.device (omega (arith, was.0)) refl (goes_by c.next_area.ensures.area c.saved.ensures) r.renewed.shown honest,
        r.left.named (r.device.already honest),
      ),
    )

pub returns-clause-ok : goal.returns-clause-ok
returns-clause-ok g c =
    let s = c.self.inside in
    let was = c.self.invariant c.if-self.false in
    let r = c.in_ok-renew.ensures in
    let after = c.renew.new in
    let live = seen_live (now (g.D.Disk.trail after.disk)).reads after.desktop in
    let store : StoreView g.row.D.Denot = record {
      disk = after.disk;
      desktop = live;
      kept = after.desktop.desktop;
      layout = LAYOUT;
      epoch = s.epoch + 1;
      events = 0;
      must_reopen = false;
    } in
    subst (λ old. IsRenewed g.D.Disk old store) c.self.view_is (record {
      desktop = r.left.shown;
      kept = r.kept;
      layout = refl;
      epoch = refl;
      events = refl;
      durable = λ honest.
          kept_shows (g.D.Disk.size after.disk) (g.D.Disk.trail after.disk) (1 - s.slot) LAYOUT (s.epoch + 1) 0 live
          (renewed_kept g.D.Disk s.slot (version_number s.version) s.epoch s.events s.disk after.disk s.desktop
          after.desktop
          _ was r.device
          (omega (arith, was.0)) refl (goes_by c.next_area.ensures.area c.saved.ensures) r.renewed.shown honest);
      usable = refl;
    })

pub returns-in_err-renew-clause-any_moment : goal.returns-in_err-renew-clause-any_moment
returns-in_err-renew-clause-any_moment g c = λ usable honest.
    let s = c.self.inside in
    let was = c.self.invariant c.if-self.false in
    let d = g.D.Disk in
    let after = d.trail c.renew.new.disk in
    subst (λ old. d.honest old.disk → LeavesOnly (d.trail old.disk) after (Means (d.size old.disk) old.desktop))
    c.self.view_is
    (λ first. renewed_moments d s.slot (version_number s.version) s.epoch s.events s.disk c.renew.new.disk s.desktop
    _ was (omega (arith, was.0)) refl (goes_by c.next_area.ensures.area c.saved.ensures) c.renew.ensures.any_moment.shown
    first) honest

pub returns-clause-any_moment : goal.returns-clause-any_moment
returns-clause-any_moment g c = λ usable honest.
    let s = c.self.inside in
    let was = c.self.invariant c.if-self.false in
    let d = g.D.Disk in
    let after = d.trail c.renew.new.disk in
    subst (λ old. d.honest old.disk → LeavesOnly (d.trail old.disk) after (Means (d.size old.disk) old.desktop))
    c.self.view_is
    (λ first. renewed_moments d s.slot (version_number s.version) s.epoch s.events s.disk c.renew.new.disk s.desktop
    _ was (omega (arith, was.0)) refl (goes_by c.next_area.ensures.area c.saved.ensures) c.renew.ensures.any_moment.shown
    first) honest

pub returns-clause-standings : goal.returns-clause-standings
returns-clause-standings g c =
    let s = c.self.inside in
    let d = g.D.Disk in
    let was = c.self.invariant c.if-self.false in
    let after = c.renew.new.disk in
    let store : StoreView g.row.D.Denot = record {
      disk = after;
      desktop = seen_live (now (d.trail after)).reads c.renew.new.desktop;
      kept = c.renew.new.desktop.desktop;
      layout = LAYOUT;
      epoch = s.epoch + 1;
      events = 0;
      must_reopen = false;
    } in
    subst (λ old. LeavesNext d (renewed_from c.args.past) old store) c.self.view_is (λ usable honest x at.
    renewed_standings d c.standing_law.ensures was honest x at _ (omega (arith, was.0)) refl refl
    (goes_by c.next_area.ensures.area c.saved.ensures) c.renew.ensures.any_moment.standings)

pub returns-in_err-renew-clause-standings : goal.returns-in_err-renew-clause-standings
returns-in_err-renew-clause-standings g c =
    let s = c.self.inside in
    let d = g.D.Disk in
    let was = c.self.invariant c.if-self.false in
    let after = c.renew.new.disk in
    let store : StoreView g.row.D.Denot = record {
      disk = after;
      desktop = seen_live (now (d.trail after)).reads c.renew.new.desktop;
      kept = c.renew.new.desktop.desktop;
      layout = LAYOUT;
      epoch = s.epoch + 1;
      events = 0;
      must_reopen = false;
    } in
    subst (λ old. LeavesNext d (renewed_from c.args.past) old store) c.self.view_is (λ usable honest x at.
    renewed_standings d c.standing_law.ensures was honest x at _ (omega (arith, was.0)) refl refl
    (goes_by c.next_area.ensures.area c.saved.ensures) c.renew.ensures.any_moment.standings)

pub returns-then-self-2-clause-standings : goal.returns-then-self-2-clause-standings
returns-then-self-2-clause-standings g c =
    subst (λ old. LeavesNext g.D.Disk (renewed_from c.args.past) old old) c.self.view_is (λ usable honest x at.
    still_stands g.D.Disk c.standing_law.ensures (c.self.invariant c.if-self.false) honest x at (renewed_from c.args.past x))

pub returns-clause-next : goal.returns-clause-next
returns-clause-next g c =
    let s = c.self.inside in
    let d = g.D.Disk in
    let was = c.self.invariant c.if-self.false in
    let after = c.renew.new.disk in
    let store : StoreView g.row.D.Denot = record {
      disk = after;
      desktop = seen_live (now (d.trail after)).reads c.renew.new.desktop;
      kept = c.renew.new.desktop.desktop;
      layout = LAYOUT;
      epoch = s.epoch + 1;
      events = 0;
      must_reopen = false;
    } in
    let r = c.in_ok-renew.ensures in
    let goes = goes_by c.next_area.ensures.area c.saved.ensures in
    subst (λ old. GoesToNext d (renewed_from c.args.past) old store) c.self.view_is (record {
      shows = λ honest x at. subst (λ n. Stands n (now (d.trail after)).reads (renewed_from c.args.past x))
          (sym r.device.as_large)
          (renewed_shows d c.standing_law.ensures was honest x at _ (omega (arith, was.0)) refl refl goes r.renewed.stands);
      former = λ honest x at.
          renewed_former d c.standing_law.ensures was honest x at _ (omega (arith, was.0)) refl refl goes r.renewed.beside;
    })
