use Rattle.std.proofs.Common.{◌≡◌, Decides, IfOk, subst, true}
use Rattle.std.proofs.lemmas.Result.{IfOk-weaker}
use Rattle.sector_disk.specs.Trail.{now}
use Rattle.command_table.specs.Versions.{version_number}
use Rattle.desktop_definitions.specs.Desktop.{Desktop}
use Rattle.store_slots.specs.Live.{seen_live}
use Rattle.desk_journal.specs.Looking.{OnlyLooks}
use Rattle.desk_journal.specs.View.{StoreView}
use Rattle.desk_journal.proofs.Storing.{looked_at}
use Rattle.desk_journal.proofs.Turning.{cache_gathered, closed_look, looked_only, view_of}
use Rattle.desk_journal.proofs.store.Store.shows_same.Goals as goal

pub shows_same-requires-clause-other : goal.shows_same-requires-clause-other
shows_same-requires-clause-other g c =
    let moved = c.in_area-live.ensures in record {
      live = moved.gathered.live;
      told = cache_gathered g.D.Disk c.in_area-live.result moved.gathered;
    }

pub invariant_of-self : goal.invariant_of-self
invariant_of-self g c = λ usable.
    looked_at g.D.Disk _ _ _ _ _ _ _ _ c.shows_same.ensures.disk c.shows_same.ensures.kept (c.self.invariant usable)

pub returns-clause-same : goal.returns-clause-same
returns-clause-same g c =
    let s = c.self.inside in
    let d = g.D.Disk in
    let content = (now (d.trail s.disk)).reads in
    let other = c.args.other.desktop in
    subst (λ (old : StoreView g.row.D.Denot). IfOk c.shows_same.result (λ same. d.honest old.disk
    → Decides same (old.desktop ≡ other))) c.self.view_is
    (IfOk-weaker c.shows_same.result _ _
    (λ same are honest. subst (λ (shown : Desktop). Decides same (seen_live content s.desktop ≡ shown))
    (c.in_area-live.ensures.shown content) (are honest))
    c.shows_same.ensures.same)

pub returns-then-self-clause-looks : goal.returns-then-self-clause-looks
returns-then-self-clause-looks g c = closed_look g.D.Disk _
    (subst (λ (x : StoreView g.row.D.Denot). x.must_reopen ≡ true) c.self.view_is c.if-self.true)

pub returns-clause-looks : goal.returns-clause-looks
returns-clause-looks g c =
    let s = c.self.inside in
    let d = g.D.Disk in
    let left = c.shows_same.ensures in
    let after = c.shows_same.new in
    let version = version_number s.version in
    subst (λ (old : StoreView g.row.D.Denot). OnlyLooks d c.shows_same.result old
    (view_of d version s.epoch s.events s.must_reopen after.disk after.self)) c.self.view_is
    (looked_only d version s.epoch s.events s.must_reopen c.shows_same.result s.disk after.disk s.desktop after.self
    c.if-self.false left.disk left.kept left.faults)
