use Rattle.std.proofs.Common.{◌≡◌, inl, inr, ◌<◌, ◌+◌, Ok, rules, sym, subst, refl, arith, false, true}
use Rattle.store_layout.specs.declared.layout.TheConstants.{JOURNAL_EVENTS, LAYOUT}
use Rattle.command_table.specs.Versions.{version_number}
use Rattle.store_layout.specs.Kept.{ShowsSettled, IsSettled}
use Rattle.store_layout.specs.Meaning.{and_then}
use Rattle.desk_journal.specs.Behind.{AddsEvent}
use Rattle.desk_journal.proofs.Undoing.{standing, up_to, up_to_any}
use Rattle.sector_disk.specs.Trail.{now}
use Rattle.store_slots.specs.Live.{seen_live}
use Rattle.desk_journal.specs.Posting.{IsAcknowledged, LeavesEither}
use Rattle.desk_journal.specs.View.{StoreView}
use Rattle.store_slots.proofs.Settling.{kept_shows}
use Rattle.desk_journal.proofs.store.Store.put.Goals as goal

pub returns-clause-ok : goal.returns-clause-ok
returns-clause-ok g c =
    let s = c.self.inside in
    let r = c.in_ok-reply.ensures in
    let after = c.record.new in
    let live = seen_live (now (g.D.Disk.trail after.disk)).reads after.desktop in
    let room : (s.events < JOURNAL_EVENTS) × (version_number s.version ≡ LAYOUT) = subst (λ v. v.must_reopen ≡ false
    → (v.events < JOURNAL_EVENTS) × (v.layout ≡ LAYOUT)) (sym c.self.view_is) c.requires c.if-self.false in
    let store : StoreView g.row.D.Denot = record {
      disk = after.disk;
      desktop = live;
      kept = after.desktop.desktop;
      layout = version_number s.version;
      epoch = s.epoch;
      events = s.events + 1;
      must_reopen = false;
    } in
    subst (λ old. IsAcknowledged g.D.Disk c.args.event.now c.in_ok-reply.reply old store) c.self.view_is (record {
      stepped = r.recorded.stepped;
      durable = λ honest.
          let before = r.uses.device.already honest in
          kept_shows (g.D.Disk.size after.disk) (g.D.Disk.trail after.disk) s.slot (version_number s.version) s.epoch
          (s.events + 1) live
          (subst (λ n. ShowsSettled n (g.D.Disk.trail after.disk) s.slot (version_number s.version) s.epoch (s.events + 1)
          live)
          (sym r.uses.device.as_large)
          (subst (λ v. ShowsSettled (g.D.Disk.size s.disk) (g.D.Disk.trail after.disk) s.slot v s.epoch (s.events + 1) live)
          (sym room.1) (r.recorded.added before s.epoch
          (subst (λ v. ShowsSettled (g.D.Disk.size s.disk) (g.D.Disk.trail s.disk) s.slot v s.epoch s.events
          (seen_live (now (g.D.Disk.trail s.disk)).reads s.desktop)) room.1
          ((c.self.invariant c.if-self.false).5 before).0))));
      more = λ _. (refl, refl);
      anew = λ due. elim due [
        | inl full ↦ absurd (let never : s.events < s.events = omega (arith, full, room.0) in omega (arith, never))
        | inr other ↦ absurd (other room.1)
      ];
      layout = room.1;
      usable = refl;
    })

pub returns-clause-added : goal.returns-clause-added
returns-clause-added g c =
    let s = c.self.inside in
    let r = c.in_ok-reply.ensures in
    let was = c.self.invariant c.if-self.false in
    let after = c.record.new in
    let store : StoreView g.row.D.Denot = record {
      disk = after.disk;
      desktop = seen_live (now (g.D.Disk.trail after.disk)).reads after.desktop;
      kept = after.desktop.desktop;
      layout = version_number s.version;
      epoch = s.epoch;
      events = s.events + 1;
      must_reopen = false;
    } in
    subst (λ old. AddsEvent g.D.Disk c.args.event.now (Ok c.in_ok-reply.reply) old store) c.self.view_is (record {
      moments = λ room usable honest x at.
          c.record.ensures.standings honest x (up_to_any g.D.Disk was honest c.standing_law.ensures x at);
      done = record {
        behind = λ honest. (
          standing g.D.Disk was honest,
          (subst (λ n. IsSettled n (g.D.Disk.trail after.disk) (and_then (standing g.D.Disk was honest) c.args.event.now))
              (sym r.uses.device.as_large)
              (r.recorded.behind honest (standing g.D.Disk was honest) (up_to g.D.Disk was honest))).stands,
          (was.5 honest).0.is,
        );
        more = λ honest room x at.
            (subst (λ n. IsSettled n (g.D.Disk.trail after.disk) (and_then x c.args.event.now)) (sym r.uses.device.as_large)
            (r.recorded.behind honest x (up_to_any g.D.Disk was honest c.standing_law.ensures x at))).stands;
      };
    })

pub returns-clause-any_moment : goal.returns-clause-any_moment
returns-clause-any_moment g c =
    let s = c.self.inside in
    let was = c.self.invariant c.if-self.false in
    let room : (s.events < JOURNAL_EVENTS) × (version_number s.version ≡ LAYOUT) = subst (λ v. v.must_reopen ≡ false
    → (v.events < JOURNAL_EVENTS) × (v.layout ≡ LAYOUT)) (sym c.self.view_is) c.requires c.if-self.false in
    let after = c.record.new in
    let store : StoreView g.row.D.Denot = record {
      disk = after.disk;
      desktop = seen_live (now (g.D.Disk.trail after.disk)).reads after.desktop;
      kept = after.desktop.desktop;
      layout = version_number s.version;
      epoch = s.epoch;
      events = s.events + 1;
      must_reopen = false;
    } in
    subst (λ old. LeavesEither g.D.Disk c.args.event.now old store) c.self.view_is (λ usable honest.
    c.record.ensures.any_moment honest s.epoch
    (subst (λ v. ShowsSettled (g.D.Disk.size s.disk) (g.D.Disk.trail s.disk) s.slot v s.epoch s.events
    (seen_live (now (g.D.Disk.trail s.disk)).reads s.desktop)) room.1 (was.5 honest).0))

pub returns-in_err-reply-clause-added : goal.returns-in_err-reply-clause-added
returns-in_err-reply-clause-added g c =
    let s = c.self.inside in
    let d = g.D.Disk in
    let was = c.self.invariant c.if-self.false in
    let store : StoreView g.row.D.Denot = record {
      disk = c.record.new.disk;
      desktop = seen_live (now (d.trail c.record.new.disk)).reads c.record.new.desktop;
      kept = c.record.new.desktop.desktop;
      layout = version_number s.version;
      epoch = s.epoch;
      events = s.events;
      must_reopen = true;
    } in
    subst (λ old. AddsEvent d c.args.event.now c.from_residual.result old store) c.self.view_is (record {
      moments = λ room usable honest x at.
          c.record.ensures.standings honest x (up_to_any d was honest c.standing_law.ensures x at);
      done = search rules;
    })
