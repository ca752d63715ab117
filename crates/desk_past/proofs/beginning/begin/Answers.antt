use Rattle.std.proofs.Common.{◌≡◌, ◌⊎◌, inl, inr, ◌+◌, ◌<◌, ◌≤◌, ◌∙◌, ℕ, ap, arith, refl}
use Rattle.store_layout.specs.Filling.{InRange}
use Rattle.past_pages.proofs.Alike.{held_as}
use Rattle.desk_past.proofs.Sparing.{but_then, but_touched, but_wider}
use Rattle.desk_past.proofs.Begun.{begins_anew, desktop_kept, desktop_then, end_at, goes_on_now, has_begun, renewed_aside}
use Rattle.desk_past.proofs.Begun.{spares_shows, still_remembered}
use Rattle.desk_past.proofs.Copied.{spared_reads}
use Rattle.std.specs.Prelude.{get_or}
use Rattle.sector_disk.specs.Trail.{now}
use Rattle.sector_disk.proofs.Touching.{read_is_an_image, still_reads as reads_stay}
use Rattle.store_layout.specs.declared.layout.TheConstants.{STORE_SECTORS}
use Rattle.desk_past.proofs.beginning.begin.Goals as goal

pub make_start-requires : goal.make_start-requires
make_start-requires g c = c.requires

pub returns-in_err-before-clause-any_moment : goal.returns-in_err-before-clause-any_moment
returns-in_err-before-clause-any_moment g c = desktop_kept g.D.Disk c.args.base c.args.store.now c.make_start.new.store
    c.requires.behind c.shows_what_crashes_leave.ensures.durable c.make_start.ensures.others

pub returns-in_err-before-clause-none_forgotten : goal.returns-in_err-before-clause-none_forgotten
returns-in_err-before-clause-none_forgotten g c = λ honest start deeds desktop keeps apart.
    still_remembered g.D.Disk keeps honest c.args.base c.requires.behind apart c.make_start.ensures.device.same
    c.make_start.ensures.others

pub returns-in_default-clause-any_moment : goal.returns-in_default-clause-any_moment
returns-in_default-clause-any_moment g c = desktop_kept g.D.Disk c.args.base c.args.store.now c.make_start.new.store
    c.requires.behind c.shows_what_crashes_leave.ensures.durable c.make_start.ensures.others

pub returns-in_default-clause-none_forgotten : goal.returns-in_default-clause-none_forgotten
returns-in_default-clause-none_forgotten g c = λ honest start deeds desktop keeps apart.
    still_remembered g.D.Disk keeps honest c.args.base c.requires.behind apart c.make_start.ensures.device.same
    c.make_start.ensures.others

pub returns-in_err-checkpoint_with-clause-any_moment : goal.returns-in_err-checkpoint_with-clause-any_moment
returns-in_err-checkpoint_with-clause-any_moment g c =
    let d = g.D.Disk in
    let started = (rw c.in-Some.is at c.in_ok-before.ensures.start) in
    desktop_then d c.checkpoint_with.new.self c.make_start.ensures.device.same
    (desktop_kept d c.args.base c.args.store.now c.make_start.new.store c.requires.behind
    c.shows_what_crashes_leave.ensures.durable c.make_start.ensures.others) started.aside
    c.checkpoint_with.ensures.any_moment

pub returns-in_err-checkpoint_with-clause-none_forgotten : goal.returns-in_err-checkpoint_with-clause-none_forgotten
returns-in_err-checkpoint_with-clause-none_forgotten g c = λ honest start deeds desktop keeps apart.
    let d = g.D.Disk in
    let started = (rw c.in-Some.is at c.in_ok-before.ensures.start) in
    let device = c.make_start.ensures.device.same in
    begins_anew d keeps honest c.args.base c.requires.behind apart device c.make_start.ensures.others
    started.aside.usable (c.shows_what_crashes_leave-2.ensures.quiet started.aside.usable (device.still honest))
    c.checkpoint_with.new.self c.requires.room c.checkpoint_with.ensures.behaves.within (started.same honest)
    c.in-Some.before (end_at (c.args.base + STORE_SECTORS) c.in-Some.before)
    (started.counted honest keeps.remembers.standing keeps.remembers.past.stands) refl refl
    c.checkpoint_with.ensures.standings

pub returns-clause-any_moment : goal.returns-clause-any_moment
returns-clause-any_moment g c =
    let d = g.D.Disk in
    let started = (rw c.in-Some.is at c.in_ok-before.ensures.start) in
    desktop_then d c.checkpoint_with.new.self c.make_start.ensures.device.same
    (desktop_kept d c.args.base c.args.store.now c.make_start.new.store c.requires.behind
    c.shows_what_crashes_leave.ensures.durable c.make_start.ensures.others) started.aside
    c.checkpoint_with.ensures.any_moment

pub returns-clause-none_forgotten : goal.returns-clause-none_forgotten
returns-clause-none_forgotten g c = λ honest start deeds desktop keeps apart.
    let d = g.D.Disk in
    let started = (rw c.in-Some.is at c.in_ok-before.ensures.start) in
    let device = c.make_start.ensures.device.same in
    begins_anew d keeps honest c.args.base c.requires.behind apart device c.make_start.ensures.others
    started.aside.usable (c.shows_what_crashes_leave-2.ensures.quiet started.aside.usable (device.still honest))
    c.checkpoint_with.new.self c.requires.room c.checkpoint_with.ensures.behaves.within (started.same honest)
    c.in-Some.before (end_at (c.args.base + STORE_SECTORS) c.in-Some.before)
    (started.counted honest keeps.remembers.standing keeps.remembers.past.stands) refl refl
    c.checkpoint_with.ensures.standings

pub returns-clause-begun : goal.returns-clause-begun
returns-clause-begun g c = λ is.
    let d = g.D.Disk in
    let started = (rw c.in-Some.is at c.in_ok-before.ensures.start) in
    let device = c.make_start.ensures.device.same in
    let usable = started.was in
    let within = c.checkpoint_with.ensures.behaves.within in
    record {
      anew = λ honest.
          let second = device.still honest in
          let shows = c.shows_what_crashes_leave.ensures.durable usable honest
          (now (d.trail c.args.store.now.disk)).reads
          (read_is_an_image (now (d.trail c.args.store.now.disk))) in
          record {
            before = c.in-Some.before;
            keeps = has_begun d c.make_start.new.store c.checkpoint_with.new.self c.args.base c.in-Some.before
                (end_at (c.args.base + STORE_SECTORS) c.in-Some.before) second
                c.requires.behind (omega (arith, c.requires.room, device.as_large)) within
                (started.same honest) shows.standing
                (spares_shows d c.args.base c.requires.behind c.make_start.ensures.others device usable honest
                shows.standing
                shows.stands) (started.counted honest shows.standing shows.stands) c.args.store.now.desktop shows.is
                refl refl
                c.in_ok-checkpoint_with.ensures.ok.usable c.in_ok-checkpoint_with.ensures.next.shows;
            next = refl;
            copies = λ n low. held_as
                (reads_stay (d.trail c.make_start.new.store.disk) (d.trail c.checkpoint_with.new.self.disk)
                (within.moments second) (c.args.base + n) (λ inside. omega (arith, inside, c.requires.behind))
                ∙ started.same honest n (omega (arith, low.1)))
                refl
                (λ j less. ap (λ l. get_or l j 0)
                (spared_reads d c.make_start.ensures.others usable honest n
                (λ inside. omega (arith, inside.0, c.requires.behind, low.1))));
          };
      behind = λ honest start deeds desktop keeps apart.
          goes_on_now d keeps honest c.args.base c.requires.behind apart device c.make_start.ensures.others
          started.aside.usable (c.shows_what_crashes_leave-2.ensures.quiet started.aside.usable (device.still honest))
          c.checkpoint_with.new.self c.requires.room within (started.same honest)
          c.in-Some.before (end_at (c.args.base + STORE_SECTORS) c.in-Some.before)
          (started.counted honest keeps.remembers.standing keeps.remembers.past.stands) refl refl
          c.in_ok-checkpoint_with.ensures.next.shows;
    }

-- ---- a checkpoint was made, or something was written behind the store

pub returns-in_default-clause-turned : goal.returns-in_default-clause-turned
returns-in_default-clause-turned g c = c.in_ok-before.ensures.aside

pub returns-clause-turned : goal.returns-clause-turned
returns-clause-turned g c = renewed_aside g.D.Disk c.make_start.ensures.device.same c.in_ok-before.ensures.aside
    c.in_ok-checkpoint_with.ensures.ok

-- ---- which sectors are written

pub returns-in_err-before-clause-others : goal.returns-in_err-before-clause-others
returns-in_err-before-clause-others g c = but_wider g.D.Disk
    (λ (n : ℕ). (n < STORE_SECTORS) ⊎ InRange c.args.base STORE_SECTORS n) (λ honest n within. inr within)
    c.make_start.ensures.others

pub returns-in_default-clause-others : goal.returns-in_default-clause-others
returns-in_default-clause-others g c = but_wider g.D.Disk
    (λ (n : ℕ). (n < STORE_SECTORS) ⊎ InRange c.args.base STORE_SECTORS n) (λ honest n within. inr within)
    c.make_start.ensures.others

pub returns-in_err-checkpoint_with-clause-others : goal.returns-in_err-checkpoint_with-clause-others
returns-in_err-checkpoint_with-clause-others g c =
    let d = g.D.Disk in
    let area : ℕ → Type 0 = λ n. (n < STORE_SECTORS) ⊎ InRange c.args.base STORE_SECTORS n in
    but_then d area {mid = c.make_start.new.store} c.checkpoint_with.new.self c.make_start.ensures.device.same
    c.in_ok-before.ensures.aside.usable (but_wider d area (λ honest n within. inr within) c.make_start.ensures.others)
    (but_touched d area (λ honest n low. inl low) c.checkpoint_with.ensures.behaves.within
    c.shows_what_crashes_leave-2.ensures.quiet)

pub returns-clause-others : goal.returns-clause-others
returns-clause-others g c =
    let d = g.D.Disk in
    let area : ℕ → Type 0 = λ n. (n < STORE_SECTORS) ⊎ InRange c.args.base STORE_SECTORS n in
    but_then d area {mid = c.make_start.new.store} c.checkpoint_with.new.self c.make_start.ensures.device.same
    c.in_ok-before.ensures.aside.usable (but_wider d area (λ honest n within. inr within) c.make_start.ensures.others)
    (but_touched d area (λ honest n low. inl low) c.checkpoint_with.ensures.behaves.within
    c.shows_what_crashes_leave-2.ensures.quiet)
