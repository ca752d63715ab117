use Rattle.std.proofs.Common.{◌≡◌, inl, inr, ◌+◌, ◌-◌, ◌≤◌, ◌<◌, ◌∙◌, ap, arith, false, length, refl, rules, subst, sym, take}
use Rattle.std.specs.Prelude.{Err}
use Rattle.std.proofs.lemmas.Bool.{false≢true}
use Rattle.std.proofs.lemmas.Result.{err_from_is_err_and, IfErr-at_err, IfErr-weaker, IfOk-weaker}
use Rattle.store_slots.specs.Errors.{OfLook}
use Rattle.store_slots.specs.declared.error.Error.TheVariants.{NoMemory}
use Rattle.sector_disk.specs.Trail.{now}
use Rattle.desktop_definitions.specs.Step.{steps_in}
use Rattle.past_pages.proofs.Failing.{error_from, failing_on, none_failed}
use Rattle.past_pages.proofs.StillReads.{read_twice, still_both, still_looked, still_none, still_reads, still_shows}
use Rattle.desk_past.proofs.InMemory.{error_calm, left_looked, moment_of_laying, moment_of_look}
use Rattle.desk_past.proofs.InMemory.{never_reopened, steps_of_look, stop_at, whatever}
use Rattle.desk_past.proofs.Opened.{if_some_then, some_then}
use Rattle.desk_past.specs.Past.{HasStart, HoldsPages}
use Rattle.desk_past.proofs.Gone.{holds_told}
use Rattle.desk_past.proofs.Stepping.{few_in_journal, moment_in_journal, moment_in_pages, moment_of_journal, moment_of_pages}
use Rattle.desk_past.proofs.reading.moment.Goals as goal

pub returns-then-k-told-clause-comes_back : goal.returns-then-k-told-clause-comes_back
returns-then-k-told-clause-comes_back g c = IfOk-weaker c.in_journal.result _ _
    (λ found fact honest start deeds desktop keeps is within.
    let d = g.D.Disk in
    let r = keeps.remembers in
    let still = still_looked d c.past.result (still_none d c.args.store.now keeps.usable) c.past.ensures.looks in
    let quiet = c.shows_what_crashes_leave.ensures.quiet keeps.usable honest in
    let told = ap (λ p. p.before) (c.in_ok-told.ensures.told honest r.standing r.past.stands) in
    let low : r.standing.past.before ≤ c.args.k = omega (arith, told, c.if-k-told.true) in
    let few = few_in_journal r c.args.k within low in
    some_then found (fact (still.left.disk.device.still honest) tt r.standing
    (still_shows d still quiet honest r.standing r.past.stands) (omega (arith, told, few)))
    (λ shown eq. eq
    ∙ ap (λ n. steps_in r.standing.version r.standing.start (take (c.args.k - n) r.standing.events)) told
    ∙ moment_in_journal r c.args.k low)) c.in_journal.ensures.is_one

pub returns-clause-comes_back : goal.returns-clause-comes_back
returns-clause-comes_back g c = IfOk-weaker c.in_pages.result _ _
    (λ found fact honest start deeds desktop keeps is within.
    let d = g.D.Disk in
    let r = keeps.remembers in
    let still = still_looked d c.past.result (still_none d c.args.store.now keeps.usable) c.past.ensures.looks in
    let reads = still_reads d still (c.shows_what_crashes_leave.ensures.quiet keeps.usable honest) honest in
    let head = c.in_ok-told.ensures.told honest r.standing r.past.stands in
    let told = ap (λ p. p.before) head in
    let has = holds_told r _ head still.left.disk.device.as_large
    (subst (λ x. HoldsPages x start r.pages) (sym reads) r.past.written) in
    some_then found (fact (still.left.disk.device.still honest) tt start r.pages has is within.low
    (omega (arith, c.if-k-told.false)))
    (λ shown eq. eq ∙ moment_in_pages r c.args.k within.low (omega (arith, told, c.if-k-told.false))))
    c.in_pages.ensures.is_one

pub returns-then-k-told-clause-still : goal.returns-then-k-told-clause-still
returns-then-k-told-clause-still g c =
    let usable : c.args.store.now.must_reopen ≡ false = search rules in
    whatever c.in_journal.result (still_both g.D.Disk
    (still_looked g.D.Disk c.past.result (still_none g.D.Disk c.args.store.now usable) c.past.ensures.looks)
    c.in_journal.ensures.still)

pub returns-clause-still : goal.returns-clause-still
returns-clause-still g c =
    let usable : c.args.store.now.must_reopen ≡ false = search rules in
    whatever c.in_pages.result (still_both g.D.Disk
    (still_looked g.D.Disk c.past.result (still_none g.D.Disk c.args.store.now usable) c.past.ensures.looks)
    c.in_pages.ensures.still)

pub returns-then-k-told-clause-there : goal.returns-then-k-told-clause-there
returns-then-k-told-clause-there g c = IfOk-weaker c.in_journal.result _ _ (λ found fact. if_some_then found fact
    (λ shown fact honest start deeds desktop keeps is.
    let d = g.D.Disk in
    let r = keeps.remembers in
    let still = still_looked d c.past.result (still_none d c.args.store.now keeps.usable) c.past.ensures.looks in
    let quiet = c.shows_what_crashes_leave.ensures.quiet keeps.usable honest in
    let told = ap (λ p. p.before) (c.in_ok-told.ensures.told honest r.standing r.past.stands) in
    let some = fact (still.left.disk.device.still honest) tt r.standing
    (still_shows d still quiet honest r.standing r.past.stands) in
    moment_of_journal r c.args.k (omega (arith, told, c.if-k-told.true)) (omega (arith, told, some.0))))
    c.in_journal.ensures.there

pub returns-clause-there : goal.returns-clause-there
returns-clause-there g c = IfOk-weaker c.in_pages.result _ _ (λ found fact. if_some_then found fact
    (λ shown fact honest start deeds desktop keeps is.
    let d = g.D.Disk in
    let r = keeps.remembers in
    let still = still_looked d c.past.result (still_none d c.args.store.now keeps.usable) c.past.ensures.looks in
    let reads = still_reads d still (c.shows_what_crashes_leave.ensures.quiet keeps.usable honest) honest in
    let head = c.in_ok-told.ensures.told honest r.standing r.past.stands in
    let told = ap (λ p. p.before) head in
    let has = holds_told r _ head still.left.disk.device.as_large
    (subst (λ x. HoldsPages x start r.pages) (sym reads) r.past.written) in
    let some = fact (still.left.disk.device.still honest) tt refl start r.pages has is
    (omega (arith, c.if-k-told.false)) in
    moment_of_pages r c.args.k some.0 (omega (arith, told, c.if-k-told.false)))) c.in_pages.ensures.there

pub returns-in_err-told-clause-left : goal.returns-in_err-told-clause-left
returns-in_err-told-clause-left g c = left_looked g.D.Disk c.past.ensures.looks

pub returns-in_err-disk-clause-left : goal.returns-in_err-disk-clause-left
returns-in_err-disk-clause-left g c = left_looked g.D.Disk c.past.ensures.looks

pub returns-then-k-told-clause-left : goal.returns-then-k-told-clause-left
returns-then-k-told-clause-left g c =
    let usable : c.args.store.now.must_reopen ≡ false = search rules in
    (still_both g.D.Disk
    (still_looked g.D.Disk c.past.result (still_none g.D.Disk c.args.store.now usable) c.past.ensures.looks)
    c.in_journal.ensures.still).left

pub returns-clause-left : goal.returns-clause-left
returns-clause-left g c =
    let usable : c.args.store.now.must_reopen ≡ false = search rules in
    (still_both g.D.Disk
    (still_looked g.D.Disk c.past.result (still_none g.D.Disk c.args.store.now usable) c.past.ensures.looks)
    c.in_pages.ensures.still).left

pub returns-then-k-told-clause-usable : goal.returns-then-k-told-clause-usable
returns-then-k-told-clause-usable g c =
    let usable : c.args.store.now.must_reopen ≡ false = search rules in c.in_journal.ensures.still.usable ∙ sym usable

pub returns-clause-usable : goal.returns-clause-usable
returns-clause-usable g c =
    let usable : c.args.store.now.must_reopen ≡ false = search rules in c.in_pages.ensures.still.usable ∙ sym usable

pub returns-in_err-told-clause-faults : goal.returns-in_err-told-clause-faults
returns-in_err-told-clause-faults g c =
    let p = err_from_is_err_and c.from_residual.result c.from_residual.ensures.1 in
    let failed : c.past.result ≡ Err p.0 = cc (p.1, p.2, c.in_err-told.was) in
    error_from c.past.ensures.looks.faults moment_of_look refl failed p.1

pub returns-in_err-disk-clause-faults : goal.returns-in_err-disk-clause-faults
returns-in_err-disk-clause-faults g c =
    let p = err_from_is_err_and c.from_residual-in_err-disk.result c.from_residual-in_err-disk.ensures.1 in
    error_calm {P = λ e. e ≡ NoMemory} p.2 (λ e is. inr (inl (inl is)))
    (λ e is fault. let wrong : ⊥ = cc (is, fault) in wrong) (none_failed c.in_ok-told.ensures.looks.faults) p.1

pub returns-then-k-told-clause-faults : goal.returns-then-k-told-clause-faults
returns-then-k-told-clause-faults g c =
    failing_on c.in_journal.ensures.faults moment_of_laying (none_failed c.in_ok-told.ensures.looks.faults)

pub returns-clause-faults : goal.returns-clause-faults
returns-clause-faults g c = failing_on c.in_pages.ensures.faults moment_of_laying
    (none_failed c.in_ok-told.ensures.looks.faults)

pub returns-in_err-disk-clause-open : goal.returns-in_err-disk-clause-open
returns-in_err-disk-clause-open g c =
    let p = err_from_is_err_and c.from_residual-in_err-disk.result c.from_residual-in_err-disk.ensures.1 in
    λ is. let wrong : ⊥ = cc (p.1, p.2, is) in absurd wrong

pub returns-then-k-told-clause-open : goal.returns-then-k-told-clause-open
returns-then-k-told-clause-open g c =
    λ is. absurd (never_reopened c.in_journal.result c.in_journal.ensures.faults.errors is)

pub returns-clause-open : goal.returns-clause-open
returns-clause-open g c = λ is. absurd (never_reopened c.in_pages.result c.in_pages.ensures.faults.errors is)

pub returns-in_err-told-clause-stops : goal.returns-in_err-told-clause-stops
returns-in_err-told-clause-stops g c =
    let p = err_from_is_err_and c.from_residual.result c.from_residual.ensures.1 in
    let failed : c.past.result ≡ Err p.0 = cc (p.1, p.2, c.in_err-told.was) in
    stop_at _ (λ honest start deeds desktop keeps is.
    steps_of_look p.0 (IfErr-at_err OfLook failed c.past.ensures.looks.faults.errors)
    (λ reopen. false≢true (sym keeps.usable ∙ c.past.ensures.looks.reopen.0 (failed ∙ ap (λ e. Err e) reopen)))) p.1

pub returns-in_err-disk-clause-stops : goal.returns-in_err-disk-clause-stops
returns-in_err-disk-clause-stops g c =
    let p = err_from_is_err_and c.from_residual-in_err-disk.result c.from_residual-in_err-disk.ensures.1 in
    stop_at _ (λ honest start deeds desktop keeps is. inl p.2) p.1

pub returns-then-k-told-clause-stops : goal.returns-then-k-told-clause-stops
returns-then-k-told-clause-stops g c = IfErr-weaker c.in_journal.result _ _
    (λ e stops honest start deeds desktop keeps is.
    let d = g.D.Disk in
    let r = keeps.remembers in
    let still = still_looked d c.past.result (still_none d c.args.store.now keeps.usable) c.past.ensures.looks in
    let quiet = c.shows_what_crashes_leave.ensures.quiet keeps.usable honest in
    stops (still.left.disk.device.still honest) tt r.standing
    (still_shows d still quiet honest r.standing r.past.stands)) c.in_journal.ensures.stops

pub returns-clause-stops : goal.returns-clause-stops
returns-clause-stops g c = IfErr-weaker c.in_pages.result _ _
    (λ e stops honest start deeds desktop keeps is.
    let d = g.D.Disk in
    let still = still_looked d c.past.result (still_none d c.args.store.now keeps.usable) c.past.ensures.looks in
    let reads = still_reads d still (c.shows_what_crashes_leave.ensures.quiet keeps.usable honest) honest in
    stops (still.left.disk.device.still honest) tt start
    (subst (λ x. HasStart x start) (sym reads) keeps.remembers.past.written.0) is) c.in_pages.ensures.stops
