use Rattle.std.proofs.Common.{◌≡◌, ◌∙◌, inl, inr, ap, arith, refl, rules, subst}
use Rattle.std.specs.Prelude.{None, Some}
use Rattle.sector_disk.specs.Trail.{Content, now}
use Rattle.past_pages.proofs.StillReads.{still_both, still_none, still_reads}
use Rattle.desk_past.specs.Beginning.{HasStartRoom}
use Rattle.desk_past.specs.Going.{start_epoch}
use Rattle.desk_past.specs.declared.chain.TheConstants.{NO_EPOCH}
use Rattle.desk_past.proofs.Chaining.{SaysOfAll}
use Rattle.desk_past.proofs.Found.{as_read}
use Rattle.desk_past.proofs.Firsts.{first_found, passed_none, passed_on}
use Rattle.desk_past.proofs.chain.first_of.Goals as goal

pub loop-epoch-init : goal.loop-epoch-init
loop-epoch-init g c =
    let d = g.D.Disk in
    record {
      still = still_none d c.args.store.now c.requires;
      calm = refl;
      inside = tt;
      found = λ honest. tt;
      passed = λ honest spans are. passed_none (d.size c.args.store.now.disk)
          (now (d.trail c.args.store.now.disk)).reads
          NO_EPOCH c.args.told None NO_EPOCH c.args.told spans are refl refl;
    }

pub begun_before-requires : goal.begun_before-requires
begun_before-requires g c = c.loop-epoch.invariant.still.usable

pub returns-in_err-begun-clause-still : goal.returns-in_err-begun-clause-still
returns-in_err-begun-clause-still g c =
    still_both g.D.Disk c.loop-epoch.invariant.still c.begun_before.ensures.still

pub returns-in_default-clause-still : goal.returns-in_default-clause-still
returns-in_default-clause-still g c =
    still_both g.D.Disk c.loop-epoch.invariant.still c.begun_before.ensures.still

pub returns-in_default-clause-first : goal.returns-in_default-clause-first
returns-in_default-clause-first g c = λ honest spans are some.
    let d = g.D.Disk in
    let i = c.loop-epoch.invariant in
    let quiet = c.shows_what_crashes_leave.ensures.quiet c.requires honest in
    let says = as_read d (λ size n x. SaysOfAll size c.loop-epoch.told c.loop-epoch.epoch None x) i.still quiet honest 0
    0 refl
    ((rw c.in_default.is at c.in_ok-begun.ensures.told) (i.still.left.disk.device.still honest)) in
    first_found (d.size c.args.store.now.disk) (now (d.trail c.args.store.now.disk)).reads c.loop-epoch.epoch
    c.loop-epoch.told c.loop-epoch.first says (i.found honest) NO_EPOCH c.args.told spans are
    (i.passed honest spans are) some

pub loop-epoch-preserved : goal.loop-epoch-preserved
loop-epoch-preserved g c =
    let d = g.D.Disk in
    let i = c.loop-epoch.invariant in
    record {
      still = still_both d i.still c.begun_before.ensures.still;
      calm = search rules;
      inside = subst (λ n. HasStartRoom n c.in-Some.begun.base) i.still.left.disk.device.as_large
          (rw c.in-Some.is at c.in_ok-begun.ensures.inside);
      found = λ honest.
          let same = still_reads d i.still (c.shows_what_crashes_leave.ensures.quiet c.requires honest) honest in
          (rw c.in-Some.is at c.in_ok-begun.ensures.epoch) (i.still.left.disk.device.still honest)
          ∙ ap (λ (r : Content). start_epoch r c.in-Some.begun.base) same;
      passed = λ honest spans are.
          let quiet = c.shows_what_crashes_leave.ensures.quiet c.requires honest in
          let says = as_read d (λ size n x. SaysOfAll size c.loop-epoch.told c.loop-epoch.epoch (Some c.in-Some.begun)
          x)
          i.still quiet honest 0 0 refl
          ((rw c.in-Some.is at c.in_ok-begun.ensures.told) (i.still.left.disk.device.still honest)) in
          passed_on (d.size c.args.store.now.disk) (now (d.trail c.args.store.now.disk)).reads c.loop-epoch.epoch
          c.loop-epoch.told c.loop-epoch.first c.in-Some.begun says (rw c.in-Some.is at c.in_ok-begun.ensures.older)
          NO_EPOCH c.args.told spans are (i.passed honest spans are);
    }

pub returns-clause-first : goal.returns-clause-first
returns-clause-first g c = λ honest spans are some.
    let d = g.D.Disk in
    let i = c.loop-epoch.invariant in
    first_found (d.size c.args.store.now.disk) (now (d.trail c.args.store.now.disk)).reads c.loop-epoch.epoch
    c.loop-epoch.told c.loop-epoch.first
    (λ span is older. elim older [
      | inl less ↦ omega (arith, less, c.loop-epoch-test.false)
      | inr none ↦ omega (arith, none, c.loop-epoch-test.false)
    ]) (i.found honest) NO_EPOCH c.args.told spans are (i.passed honest spans are) some
