use Rattle.std.proofs.Common.{◌≡◌, take, true, Ok}
use Rattle.std.specs.Prelude.{Bool}
use Rattle.desk_journal.specs.Session.{session_of}
use Rattle.desk_journal.specs.View.{IsDurable}
use Rattle.desk_sitting.specs.Doing.{DoesPress, seat_of}
use Rattle.desk_sitting.specs.Sittings.{accepted_by, after_posts, does_all}
use Rattle.desk_sitting.proofs.sitting.Sitting.post_all.Given as goal

-- all events so far are posted, and done
abbrev pub invariant-loop-event : goal.invariant-loop-event
invariant-loop-event g l = record {
  takes : DoesPress g.D.Disk {T = Bool} (accepted_by (session_of l.fn.store) (take l.event-index l.events))
      (after_posts (take l.event-index l.events) (seat_of l.fn.self l.fn.store)) (Ok true) l.self l.fn.store l.store;
  all : g.D.Disk.honest l.fn.store.disk → IsDurable g.D.Disk l.fn.store
      → does_all (session_of l.fn.store) (take l.event-index l.events) ≡ true;
}
