use Rattle.std.proofs.Common.{◌≡◌, subst, sym, refl, false}
use Rattle.command_table.specs.Versions.{version_number}
use Rattle.sector_disk.specs.Trail.{now, LeavesOnly}
use Rattle.store_layout.specs.Meaning.{Standing, Stands}
use Rattle.store_slots.specs.Live.{seen_live}
use Rattle.store_slots.proofs.Settling.{kept_shows}
use Rattle.desk_journal.specs.Behind.{IsWrittenBehind, KeepsStanding}
use Rattle.desk_journal.specs.View.{StoreView}
use Rattle.desk_journal.proofs.Aside.{knows_aside, seen_aside, stands_aside, still_shown}
use Rattle.desk_journal.proofs.store.Store.write_behind.Goals as goal

pub invariant_of-self-2 : goal.invariant_of-self-2
invariant_of-self-2 g c = λ _. knows_aside g.D.Disk c.args.limit c.requires.behind c.put_behind.ensures.kept
    (c.self.invariant c.if-self.false) c.in_ok-put_behind.ensures.quiet

pub returns-in_err-put_behind-clause-any_moment : goal.returns-in_err-put_behind-clause-any_moment
returns-in_err-put_behind-clause-any_moment g c = λ usable honest s at.
    let d = g.D.Disk in
    (subst (λ old. d.honest old.disk → Stands (d.size old.disk) (now (d.trail old.disk)).reads s
    → LeavesOnly (d.trail old.disk) (d.trail c.put_behind.new.disk) (λ c. Stands (d.size old.disk) c s)) c.self.view_is
    (λ first stands. stands_aside d c.args.limit c.requires.behind c.put_behind.ensures.kept
    (c.self.invariant c.if-self.false) first s stands)) honest at

pub returns-clause-any_moment : goal.returns-clause-any_moment
returns-clause-any_moment g c = λ usable honest s at.
    let d = g.D.Disk in
    (subst (λ old. d.honest old.disk → Stands (d.size old.disk) (now (d.trail old.disk)).reads s
    → LeavesOnly (d.trail old.disk) (d.trail c.put_behind.new.disk) (λ c. Stands (d.size old.disk) c s)) c.self.view_is
    (λ first stands. stands_aside d c.args.limit c.requires.behind c.put_behind.ensures.kept
    (c.self.invariant c.if-self.false) first s stands)) honest at

pub returns-clause-ok : goal.returns-clause-ok
returns-clause-ok g c =
    let s = c.self.inside in
    let d = g.D.Disk in
    let was = c.self.invariant c.if-self.false in
    let after = c.put_behind.new.disk in
    let kept = c.put_behind.ensures.kept in
    let done = c.in_ok-put_behind.ensures in
    let store : StoreView g.row.D.Denot = record {
      disk = after;
      desktop = seen_live (now (d.trail after)).reads s.desktop;
      kept = s.desktop.desktop;
      layout = version_number s.version;
      epoch = s.epoch;
      events = s.events;
      must_reopen = false;
    } in
    subst (λ old. IsWrittenBehind d c.args.from c.args.bytes.now old store) c.self.view_is (record {
      desktop = λ honest. seen_aside d c.args.limit c.requires.behind kept was honest;
      kept = refl;
      layout = refl;
      epoch = refl;
      events = refl;
      usable = refl;
      durable = λ honest. kept_shows (d.size after) (d.trail after) s.slot (version_number s.version) s.epoch s.events
          (seen_live (now (d.trail after)).reads s.desktop)
          ((knows_aside d c.args.limit c.requires.behind kept was done.quiet).5 honest).0;
      held = done.held;
      quiet = done.quiet;
      shown = λ honest x at. still_shown d c.args.limit c.requires.behind kept was honest x at;
    })
