use Rattle.std.proofs.Common.{◌≡◌, ◌∙◌, false, refl, rules, sym}
use Rattle.std.proofs.lemmas.Result.{IfOk-weaker}
use Rattle.sector_disk.specs.Trail.{now}
use Rattle.sector_disk.proofs.Touching.{read_is_an_image}
use Rattle.past_pages.proofs.Failing.{closed_of, failing_on}
use Rattle.desk_past.proofs.InMemory.{left_none, moment_of_laying, never_reopened}
use Rattle.desk_past.proofs.Opened.{stands_first}
use Rattle.desk_past.proofs.reading.copy_of.Goals as goal

pub returns-clause-same : goal.returns-clause-same
returns-clause-same g c = IfOk-weaker c.opened_at.result _ _ (λ copy shown honest.
    let usable : c.args.store.now.must_reopen ≡ false = search rules in
    let m = now (g.D.Disk.trail c.args.store.now.disk) in
    let found = c.shows_what_crashes_leave.ensures.durable usable honest m.reads (read_is_an_image m) in
    (shown honest tt found.standing (stands_first m.reads found.standing found.stands)).desktop ∙ found.is)
    c.opened_at.ensures.shown

pub returns-then-is_err-clause-left : goal.returns-then-is_err-clause-left
returns-then-is_err-clause-left g c = left_none g.D.Disk c.args.store.now

pub returns-then-sectors-lt-STORE_SECTORS-clause-left : goal.returns-then-sectors-lt-STORE_SECTORS-clause-left
returns-then-sectors-lt-STORE_SECTORS-clause-left g c = left_none g.D.Disk c.args.store.now

pub returns-in_err-disk-clause-left : goal.returns-in_err-disk-clause-left
returns-in_err-disk-clause-left g c = left_none g.D.Disk c.args.store.now

pub returns-then-is_err-clause-open : goal.returns-then-is_err-clause-open
returns-then-is_err-clause-open g c = λ is. closed_of c.args.store.now.must_reopen c.info.result c.info.ensures.value
    (sym c.is_err.ensures.value ∙ c.if-is_err.true)

pub returns-clause-faults : goal.returns-clause-faults
returns-clause-faults g c = failing_on c.opened_at.ensures.faults moment_of_laying refl

pub returns-clause-open : goal.returns-clause-open
returns-clause-open g c = λ is. absurd (never_reopened c.opened_at.result c.opened_at.ensures.faults.errors is)
