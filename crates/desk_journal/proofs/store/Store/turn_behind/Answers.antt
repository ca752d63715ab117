use Rattle.std.proofs.Common.{◌≡◌, ◌∙◌, ◌+◌, ◌-◌, subst, refl, arith, rules, true, false, Ok}
use Rattle.sector_disk.specs.Trail.{now, LeavesOnly}
use Rattle.command_table.specs.Versions.{version_number}
use Rattle.store_layout.specs.declared.layout.TheConstants.{LAYOUT}
use Rattle.store_layout.specs.Meaning.{MeansEither}
use Rattle.store_slots.specs.Live.{seen_live}
use Rattle.store_slots.proofs.Settling.{kept_shows}
use Rattle.desk_journal.specs.Behind.{LeavesNextWith, TurnsWith, turned_from}
use Rattle.desk_journal.specs.Turning.{IsTurnedTo}
use Rattle.desk_journal.specs.View.{StoreView}
use Rattle.desk_journal.proofs.Brought.{stays_shown}
use Rattle.desk_journal.proofs.Coming.{still_with}
use Rattle.desk_journal.proofs.Turning.{begins_area, cache_gathered, closed_still, turned_former, turned_kept}
use Rattle.desk_journal.proofs.Turning.{turned_moments, turned_shows, turned_with, worn_still}
use Rattle.desk_journal.proofs.store.Store.turn_behind.Goals as goal

pub renew_behind-requires-clause-place : goal.renew_behind-requires-clause-place
renew_behind-requires-clause-place g c =
    let moved = c.in_area-turned.ensures in record {
      room = (c.self.invariant c.if-self.false).2;
      live = moved.gathered.live;
      goes = begins_area moved.gathered moved.area refl;
    }

pub returns-then-self-clause-behaves : goal.returns-then-self-clause-behaves
returns-then-self-clause-behaves g c = closed_still g.D.Disk c.args.from c.args.limit _
    (subst (λ (x : StoreView g.row.D.Denot). x.must_reopen ≡ true) c.self.view_is c.if-self.true)

pub returns-then-self-2-clause-behaves : goal.returns-then-self-2-clause-behaves
returns-then-self-2-clause-behaves g c = worn_still g.D.Disk c.args.from c.args.limit _
    (subst (λ (x : StoreView g.row.D.Denot). x.must_reopen ≡ false) c.self.view_is c.if-self.false)

pub returns-then-self-2-clause-any_moment : goal.returns-then-self-2-clause-any_moment
returns-then-self-2-clause-any_moment g c = λ usable honest.
    let s = c.self.inside in
    let d = g.D.Disk in
    subst (λ old. d.honest old.disk → LeavesOnly (d.trail old.disk) (d.trail old.disk)
    (MeansEither (d.size old.disk) old.desktop c.args.desktop.desktop)) c.self.view_is
    (λ first. stays_shown d s.slot (version_number s.version) s.epoch s.events s.disk s.desktop
    (c.self.invariant c.if-self.false) _ first) honest

pub returns-in_err-renew_behind-clause-any_moment : goal.returns-in_err-renew_behind-clause-any_moment
returns-in_err-renew_behind-clause-any_moment g c = λ usable honest.
    let d = g.D.Disk in
    let moved = c.in_area-turned.ensures in
    subst (λ old. d.honest old.disk → LeavesOnly (d.trail old.disk) (d.trail c.renew_behind.new.disk)
    (MeansEither (d.size old.disk) old.desktop c.args.desktop.desktop)) c.self.view_is
    (turned_moments d (c.self.invariant c.if-self.false) c.in_area-turned.result moved.shown _ refl refl
    c.other_area-area.ensures.other c.renew_behind.ensures.any_moment.shown) honest

pub returns-clause-any_moment : goal.returns-clause-any_moment
returns-clause-any_moment g c = λ usable honest.
    let d = g.D.Disk in
    let moved = c.in_area-turned.ensures in
    subst (λ old. d.honest old.disk → LeavesOnly (d.trail old.disk) (d.trail c.renew_behind.new.disk)
    (MeansEither (d.size old.disk) old.desktop c.args.desktop.desktop)) c.self.view_is
    (turned_moments d (c.self.invariant c.if-self.false) c.in_area-turned.result moved.shown _ refl refl
    c.other_area-area.ensures.other c.renew_behind.ensures.any_moment.shown) honest

pub invariant_of-self-2 : goal.invariant_of-self-2
invariant_of-self-2 g c = λ _.
    let d = g.D.Disk in
    let was = c.self.invariant c.if-self.false in
    let moved = c.in_area-turned.ensures in
    let r = c.in_ok-renew_behind.ensures in (
      omega (arith, was.0),
      omega arith,
      omega (arith, was.2, r.device.device.as_large),
      r.left.live,
      r.left.told (cache_gathered d c.in_area-turned.result moved.gathered),
      λ honest. (
        turned_kept d was c.in_area-turned.result moved.shown _ refl refl c.other_area-area.ensures.other
            r.device.device r.renewed.shown honest,
        r.left.named (r.device.device.already honest),
      ),
    )

pub returns-clause-ok : goal.returns-clause-ok
returns-clause-ok g c =
    let s = c.self.inside in
    let d = g.D.Disk in
    let was = c.self.invariant c.if-self.false in
    let moved = c.in_area-turned.ensures in
    let r = c.in_ok-renew_behind.ensures in
    let after = c.renew_behind.new in
    let live = seen_live (now (d.trail after.disk)).reads after.desktop in
    let store : StoreView g.row.D.Denot = record {
      disk = after.disk;
      desktop = live;
      kept = after.desktop.desktop;
      layout = LAYOUT;
      epoch = s.epoch + 1;
      events = 0;
      must_reopen = false;
    } in
    subst (λ old. IsTurnedTo d c.args.desktop old store) c.self.view_is (record {
      desktop = λ honest. r.left.shown honest ∙ moved.shown _;
      kept = r.kept ∙ moved.kept;
      next = record { layout = refl; epoch = refl; events = refl };
      durable = λ honest.
          kept_shows (d.size after.disk) (d.trail after.disk) (1 - s.slot) LAYOUT (s.epoch + 1) 0 live
          (turned_kept d was c.in_area-turned.result moved.shown _ refl refl c.other_area-area.ensures.other
          r.device.device r.renewed.shown honest);
      usable = refl;
    })

pub returns-then-self-2-clause-comes : goal.returns-then-self-2-clause-comes
returns-then-self-2-clause-comes g c =
    let next = turned_from c.args.past c.args.desktop.desktop in record {
      moments = subst (λ old. LeavesNextWith g.D.Disk next c.args.from c.args.bytes.now old old) c.self.view_is
          (λ usable honest x at. still_with g.D.Disk (c.self.invariant c.if-self.false) honest x at c.args.from
          c.args.bytes.now (next x));
      done = tt;
    }

pub returns-in_err-renew_behind-clause-comes : goal.returns-in_err-renew_behind-clause-comes
returns-in_err-renew_behind-clause-comes g c =
    let s = c.self.inside in
    let d = g.D.Disk in
    let moved = c.in_area-turned.ensures in
    let next = turned_from c.args.past c.args.desktop.desktop in
    let store : StoreView g.row.D.Denot = record {
      disk = c.renew_behind.new.disk;
      desktop = seen_live (now (d.trail c.renew_behind.new.disk)).reads s.desktop;
      kept = s.desktop.desktop;
      layout = version_number s.version;
      epoch = s.epoch;
      events = s.events;
      must_reopen = true;
    } in record {
      moments = subst (λ old. LeavesNextWith d next c.args.from c.args.bytes.now old store) c.self.view_is
          (λ usable honest x at. turned_with d (c.self.invariant c.if-self.false) c.in_area-turned.result moved.shown _
          refl refl c.other_area-area.ensures.other c.standing_law.ensures honest x at c.args.from c.args.bytes.now
          c.renew_behind.ensures.any_moment.standings);
      done = search rules;
    }

pub returns-clause-comes : goal.returns-clause-comes
returns-clause-comes g c =
    let s = c.self.inside in
    let d = g.D.Disk in
    let was = c.self.invariant c.if-self.false in
    let law = c.standing_law.ensures in
    let to = c.in_area-turned.result in
    let moved = c.in_area-turned.ensures in
    let area = c.other_area-area.ensures.other in
    let r = c.in_ok-renew_behind.ensures in
    let next = turned_from c.args.past c.args.desktop.desktop in
    let after = c.renew_behind.new in
    let store : StoreView g.row.D.Denot = record {
      disk = after.disk;
      desktop = seen_live (now (d.trail after.disk)).reads after.desktop;
      kept = after.desktop.desktop;
      layout = LAYOUT;
      epoch = s.epoch + 1;
      events = 0;
      must_reopen = false;
    } in
    subst (λ old. TurnsWith d next c.args.from c.args.bytes.now (Ok tt) old store) c.self.view_is (record {
      moments = λ usable honest x at. turned_with d was to moved.shown _ refl refl area law honest x at c.args.from
          c.args.bytes.now c.renew_behind.ensures.any_moment.standings;
      done = record {
        shows = λ honest x at. turned_shows d was to moved.shown _ refl refl area law honest x at r.device.device
            r.renewed.stands;
        former = λ honest x at. turned_former d was to moved.shown _ refl refl area law honest x at r.renewed.beside;
        held = r.held;
      };
    })
