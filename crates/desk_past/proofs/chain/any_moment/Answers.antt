use Rattle.std.proofs.Common.{◌≡◌, inl, inr, ◌+◌, ◌-◌, ◌≤◌, ◌<◌, ◌∙◌, List, [], ◌∷◌, ap, arith, false, length, refl, rules, subst, sym, take, true}
use Rattle.std.specs.Prelude.{Err, IsSomeAnd}
use Rattle.std.proofs.lemmas.Bool.{cases_lt, false≢true}
use Rattle.std.proofs.lemmas.Result.{err_from_is_err_and, IfErr-at_err, IfErr-weaker, IfOk-weaker}
use Rattle.store_slots.specs.Errors.{OfLook}
use Rattle.store_slots.specs.declared.error.Error.TheVariants.{NoMemory}
use Rattle.sector_disk.specs.Trail.{Content, now}
use Rattle.desktop_definitions.specs.Step.{steps_in}
use Rattle.store_layout.specs.declared.head.PastEnd.{PastEnd}
use Rattle.past_pages.specs.Page.{Page}
use Rattle.past_pages.proofs.Failing.{error_from, failing_on, none_failed}
use Rattle.past_pages.proofs.StillReads.{still_both, still_looked, still_none, still_reads, still_shows}
use Rattle.desk_past.specs.Chain.{AreSpans, IsFoundSpan, WasThen}
use Rattle.desk_past.specs.Past.{HasStart, Start, all_deeds, moment}
use Rattle.desk_past.specs.declared.chain.TheConstants.{NO_EPOCH}
use Rattle.desk_past.specs.Reading.{HoldsTold, start_at}
use Rattle.desk_past.proofs.Chaining.{HasSpans, before_told, was_in_use}
use Rattle.desk_past.proofs.Found.{as_read, as_then, both_weaker}
use Rattle.desk_past.proofs.InMemory.{error_calm, fails_none, laying_of_reads, left_looked}
use Rattle.desk_past.proofs.InMemory.{moment_of_laying, moment_of_look, never_reopened, steps_of_look, steps_of_reads}
use Rattle.desk_past.proofs.InMemory.{stop_at, stop_from, whatever}
use Rattle.desk_past.proofs.Opened.{if_some_always, if_some_then, some_then}
use Rattle.desk_past.proofs.Stepping.{deeds_up_to, few_in_journal, moment_in_journal, moment_in_pages}
use Rattle.desktop_definitions.specs.Desktop.{Desktop}
use Rattle.desk_past.proofs.chain.any_moment.Goals as goal

-- ---- in the journal in use

pub returns-then-k-told-clause-comes_back : goal.returns-then-k-told-clause-comes_back
returns-then-k-told-clause-comes_back g c = both_weaker c.in_journal.result c.in_journal.ensures.is_one
    c.in_journal.ensures.there (λ found fact up_to honest start deeds desktop keeps lies.
    let d = g.D.Disk in
    let r = keeps.remembers in
    let still = still_looked d c.past.result (still_none d c.args.store.now keeps.usable) c.past.ensures.looks in
    let quiet = c.shows_what_crashes_leave.ensures.quiet keeps.usable honest in
    let second = still.left.disk.device.still honest in
    let shows = still_shows d still quiet honest r.standing r.past.stands in
    let told = ap (λ (p : PastEnd). p.before) (c.in_ok-told.ensures.told honest r.standing r.past.stands) in
    let low : r.standing.past.before ≤ c.args.k = omega (arith, told, c.if-k-told.true) in
    record {
      is_one = λ within.
          let few = few_in_journal r c.args.k within low in
          some_then found (fact second tt r.standing shows (omega (arith, told, few)))
          (λ shown eq. eq
          ∙ ap (λ n. steps_in r.standing.version r.standing.start (take (c.args.k - n) r.standing.events)) told
          ∙ moment_in_journal r c.args.k low);
      there = if_some_then found up_to (λ shown fits.
          let few = (fits second tt r.standing shows).0 in
          omega (arith, few, told, low, deeds_up_to r));
    })

pub returns-then-k-told-clause-over_parts : goal.returns-then-k-told-clause-over_parts
returns-then-k-told-clause-over_parts g c = IfOk-weaker c.in_journal.result _ _
    (λ found fact honest start deeds desktop was keeps spans are there.
    let told = ap (λ (p : PastEnd). p.before)
    (c.in_ok-told.ensures.told honest keeps.remembers.standing keeps.remembers.past.stands) in
    let high = before_told (g.D.Disk.size c.args.store.now.disk) c.args.k
    (now (g.D.Disk.trail c.args.store.now.disk)).reads keeps.remembers.standing.past NO_EPOCH was spans are there in
    absurd (omega (arith, high, told, c.if-k-told.true))) c.in_journal.ensures.is_one

pub returns-then-k-told-clause-still : goal.returns-then-k-told-clause-still
returns-then-k-told-clause-still g c =
    let usable : c.args.store.now.must_reopen ≡ false = search rules in
    whatever c.in_journal.result (still_both g.D.Disk
    (still_looked g.D.Disk c.past.result (still_none g.D.Disk c.args.store.now usable) c.past.ensures.looks)
    c.in_journal.ensures.still)

pub returns-then-k-told-clause-left : goal.returns-then-k-told-clause-left
returns-then-k-told-clause-left g c =
    let usable : c.args.store.now.must_reopen ≡ false = search rules in
    (still_both g.D.Disk
    (still_looked g.D.Disk c.past.result (still_none g.D.Disk c.args.store.now usable) c.past.ensures.looks)
    c.in_journal.ensures.still).left

pub returns-then-k-told-clause-usable : goal.returns-then-k-told-clause-usable
returns-then-k-told-clause-usable g c =
    let usable : c.args.store.now.must_reopen ≡ false = search rules in c.in_journal.ensures.still.usable ∙ sym usable

pub returns-then-k-told-clause-faults : goal.returns-then-k-told-clause-faults
returns-then-k-told-clause-faults g c =
    failing_on c.in_journal.ensures.faults moment_of_laying (none_failed c.in_ok-told.ensures.looks.faults)

pub returns-then-k-told-clause-open : goal.returns-then-k-told-clause-open
returns-then-k-told-clause-open g c =
    λ is. absurd (never_reopened c.in_journal.result c.in_journal.ensures.faults.errors is)

pub returns-then-k-told-clause-stops : goal.returns-then-k-told-clause-stops
returns-then-k-told-clause-stops g c = IfErr-weaker c.in_journal.result _ _
    (λ e stops honest start deeds desktop keeps lies low.
    let d = g.D.Disk in
    let r = keeps.remembers in
    let still = still_looked d c.past.result (still_none d c.args.store.now keeps.usable) c.past.ensures.looks in
    let quiet = c.shows_what_crashes_leave.ensures.quiet keeps.usable honest in
    stops (still.left.disk.device.still honest) tt r.standing
    (still_shows d still quiet honest r.standing r.past.stands)) c.in_journal.ensures.stops

-- ---- what stops before

pub returns-in_err-told-clause-left : goal.returns-in_err-told-clause-left
returns-in_err-told-clause-left g c = left_looked g.D.Disk c.past.ensures.looks

pub returns-in_err-disk-clause-left : goal.returns-in_err-disk-clause-left
returns-in_err-disk-clause-left g c = left_looked g.D.Disk c.past.ensures.looks

pub returns-in_err-told-clause-faults : goal.returns-in_err-told-clause-faults
returns-in_err-told-clause-faults g c =
    let p = err_from_is_err_and c.from_residual.result c.from_residual.ensures.1 in
    let failed : c.past.result ≡ Err p.0 = cc (p.1, p.2, c.in_err-told.was) in
    error_from c.past.ensures.looks.faults moment_of_look refl failed p.1

pub returns-in_err-disk-clause-faults : goal.returns-in_err-disk-clause-faults
returns-in_err-disk-clause-faults g c =
    let p = err_from_is_err_and c.from_residual-in_err-disk.result c.from_residual-in_err-disk.ensures.1 in
    error_calm {P = λ e. e ≡ NoMemory} p.2 (λ e is. inr (inl (inl is)))
    (λ e is fault. let wrong : ⊥ = cc (is, fault) in wrong) (none_failed c.in_ok-told.ensures.looks.faults) p.1

pub returns-in_err-disk-clause-open : goal.returns-in_err-disk-clause-open
returns-in_err-disk-clause-open g c =
    let p = err_from_is_err_and c.from_residual-in_err-disk.result c.from_residual-in_err-disk.ensures.1 in
    λ is. let wrong : ⊥ = cc (p.1, p.2, is) in absurd wrong

pub returns-in_err-told-clause-stops : goal.returns-in_err-told-clause-stops
returns-in_err-told-clause-stops g c =
    let p = err_from_is_err_and c.from_residual.result c.from_residual.ensures.1 in
    let failed : c.past.result ≡ Err p.0 = cc (p.1, p.2, c.in_err-told.was) in
    stop_at _ (λ honest start deeds desktop keeps lies low.
    steps_of_look p.0 (IfErr-at_err OfLook failed c.past.ensures.looks.faults.errors)
    (λ reopen. false≢true (sym keeps.usable ∙ c.past.ensures.looks.reopen.0 (failed ∙ ap (λ e. Err e) reopen)))) p.1

pub returns-in_err-disk-clause-stops : goal.returns-in_err-disk-clause-stops
returns-in_err-disk-clause-stops g c =
    let p = err_from_is_err_and c.from_residual-in_err-disk.result c.from_residual-in_err-disk.ensures.1 in
    stop_at _ (λ honest start deeds desktop keeps lies low. inl p.2) p.1

pub returns-in_err-span-clause-left : goal.returns-in_err-span-clause-left
returns-in_err-span-clause-left g c =
    let d = g.D.Disk in
    let usable : c.args.store.now.must_reopen ≡ false = search rules in
    (still_both d (still_looked d c.past.result (still_none d c.args.store.now usable) c.past.ensures.looks)
    c.span_of.ensures.still).left

pub returns-in_err-span-clause-usable : goal.returns-in_err-span-clause-usable
returns-in_err-span-clause-usable g c =
    let usable : c.args.store.now.must_reopen ≡ false = search rules in c.span_of.ensures.still.usable ∙ sym usable

pub returns-in_err-span-clause-faults : goal.returns-in_err-span-clause-faults
returns-in_err-span-clause-faults g c =
    let p = err_from_is_err_and c.from_residual-in_err-span.result c.from_residual-in_err-span.ensures.1 in
    let failed : c.span_of.result ≡ Err p.0 = cc (p.1, p.2, c.in_err-span.was) in
    error_from c.span_of.ensures.faults (λ e named. moment_of_laying e (laying_of_reads e named))
    (none_failed c.in_ok-told.ensures.looks.faults) failed p.1

pub returns-in_err-span-clause-stops : goal.returns-in_err-span-clause-stops
returns-in_err-span-clause-stops g c =
    let p = err_from_is_err_and c.from_residual-in_err-span.result c.from_residual-in_err-span.ensures.1 in
    let failed : c.span_of.result ≡ Err p.0 = cc (p.1, p.2, c.in_err-span.was) in
    stop_from c.span_of.ensures.faults.errors (λ e named honest start deeds desktop keeps lies low.
    steps_of_reads e named)
    failed p.1

-- ---- in a part

pub returns-in_default-clause-comes_back : goal.returns-in_default-clause-comes_back
returns-in_default-clause-comes_back g c = λ honest start deeds desktop keeps lies. record {
  is_one = λ within.
      let d = g.D.Disk in
      let r = keeps.remembers in
      let one = still_looked d c.past.result (still_none d c.args.store.now keeps.usable) c.past.ensures.looks in
      let two = still_both d one c.span_of.ensures.still in
      let quiet = c.shows_what_crashes_leave.ensures.quiet keeps.usable honest in
      let head = c.in_ok-told.ensures.told honest r.standing r.past.stands in
      let told = ap (λ (p : PastEnd). p.before) head in
      let find = as_read d (λ size n x. (was : Desktop) → (spans : List (Start × List Page))
      → (are : AreSpans size x NO_EPOCH c.in_ok-told.told spans)
      → WasThen size x NO_EPOCH c.in_ok-told.told spans are c.args.k was → ⊥) one quiet honest 0 0 refl
      ((rw c.in_default.is at c.in_ok-span.ensures.found) (one.left.disk.device.still honest)) in
      let mine = was_in_use d keeps lies c.in_ok-told.told head c.args.k within.low
      (omega (arith, c.if-k-told.false)) in
      absurd (find _ mine.0 mine.1 mine.2);
  there = tt;
}

pub returns-in_default-clause-over_parts : goal.returns-in_default-clause-over_parts
returns-in_default-clause-over_parts g c = λ honest start deeds desktop was keeps spans are there.
    let d = g.D.Disk in
    let r = keeps.remembers in
    let one = still_looked d c.past.result (still_none d c.args.store.now keeps.usable) c.past.ensures.looks in
    let two = still_both d one c.span_of.ensures.still in
    let quiet = c.shows_what_crashes_leave.ensures.quiet keeps.usable honest in
    let head = c.in_ok-told.ensures.told honest r.standing r.past.stands in
    let told = ap (λ (p : PastEnd). p.before) head in
    let find = as_read d (λ size n x. (was : Desktop) → (spans : List (Start × List Page))
    → (are : AreSpans size x NO_EPOCH c.in_ok-told.told spans)
    → WasThen size x NO_EPOCH c.in_ok-told.told spans are c.args.k was → ⊥) one quiet honest 0 0 refl
    ((rw c.in_default.is at c.in_ok-span.ensures.found) (one.left.disk.device.still honest)) in
    let mine = subst (λ (t : PastEnd). HasSpans (d.size c.args.store.now.disk)
    (now (d.trail c.args.store.now.disk)).reads t
    NO_EPOCH c.args.k was) (sym head) (spans, are, there) in
    absurd (find was mine.0 mine.1 mine.2)

pub returns-clause-comes_back : goal.returns-clause-comes_back
returns-clause-comes_back g c = both_weaker c.in_pages.result c.in_pages.ensures.is_one c.in_pages.ensures.ahead
    (λ found fact ahead honest start deeds desktop keeps lies. record {
      is_one = λ within.
          let d = g.D.Disk in
          let r = keeps.remembers in
          let one = still_looked d c.past.result (still_none d c.args.store.now keeps.usable) c.past.ensures.looks in
          let two = still_both d one c.span_of.ensures.still in
          let quiet = c.shows_what_crashes_leave.ensures.quiet keeps.usable honest in
          let head = c.in_ok-told.ensures.told honest r.standing r.past.stands in
          let told = ap (λ (p : PastEnd). p.before) head in
          let find = as_read d (λ size n x. (was : Desktop) → (spans : List (Start × List Page))
          → (are : AreSpans size x NO_EPOCH c.in_ok-told.told spans)
          → WasThen size x NO_EPOCH c.in_ok-told.told spans are c.args.k was → IsFoundSpan size x c.args.k was
          c.in-Some.span) one quiet honest 0 0 refl
          ((rw c.in-Some.is at c.in_ok-span.ensures.found) (one.left.disk.device.still honest)) in
          let mine = was_in_use d keeps lies c.in_ok-told.told head c.args.k within.low
          (omega (arith, c.if-k-told.false)) in
          let at = find (moment start (all_deeds r.pages) c.args.k) mine.0 mine.1 mine.2 in
          let holds = as_then d (λ size n x. HoldsTold size at.0.0 c.in-Some.span.told at.0.1 x) two quiet honest 0 0
          refl at.1.holds in
          let second = two.left.disk.device.still honest in
          let early = as_read d (λ size n x. (start : Start) (pages : List Page)
          → (has : HoldsTold size start c.in-Some.span.told pages x) → start.base ≡ c.in-Some.span.base
          → c.args.k < start.before
          → c.in-Some.span.follows ≡ true → has.written.0.standing.past.before ≤ c.args.k
          → IsSomeAnd found (λ shown. shown.desktop ≡ start_at has.written.0.standing c.args.k)) two quiet honest 0 0
          refl
          (ahead second tt) in
          let there_in = at.3 in
          elim (cases_lt c.args.k at.0.0.before) [
            | inl less ↦ some_then found (early at.0.0 at.0.1 at.1.holds at.2 less (at.4 less) there_in.low)
                (λ shown eq. eq ∙ sym (there_in.ahead less)
                ∙ moment_in_pages r c.args.k within.low (omega (arith, told, c.if-k-told.false)))
            | inr least ↦ some_then found (fact second tt at.0.0 at.0.1 holds at.2 least there_in.high)
                (λ shown eq. eq ∙ sym (there_in.behind least)
                ∙ moment_in_pages r c.args.k within.low (omega (arith, told, c.if-k-told.false)))
          ];
      there = if_some_always found (λ shown.
          let r = keeps.remembers in
          let told = ap (λ (p : PastEnd). p.before) (c.in_ok-told.ensures.told honest r.standing r.past.stands) in
          omega (arith, told, c.if-k-told.false, deeds_up_to r));
    })

pub returns-clause-over_parts : goal.returns-clause-over_parts
returns-clause-over_parts g c = both_weaker c.in_pages.result c.in_pages.ensures.is_one c.in_pages.ensures.ahead
    (λ found fact ahead honest start deeds desktop was keeps spans are there.
    let d = g.D.Disk in
    let r = keeps.remembers in
    let one = still_looked d c.past.result (still_none d c.args.store.now keeps.usable) c.past.ensures.looks in
    let two = still_both d one c.span_of.ensures.still in
    let quiet = c.shows_what_crashes_leave.ensures.quiet keeps.usable honest in
    let head = c.in_ok-told.ensures.told honest r.standing r.past.stands in
    let told = ap (λ (p : PastEnd). p.before) head in
    let find = as_read d (λ size n x. (was : Desktop) → (spans : List (Start × List Page))
    → (are : AreSpans size x NO_EPOCH c.in_ok-told.told spans)
    → WasThen size x NO_EPOCH c.in_ok-told.told spans are c.args.k was → IsFoundSpan size x c.args.k was c.in-Some.span)
    one quiet honest 0 0 refl
    ((rw c.in-Some.is at c.in_ok-span.ensures.found) (one.left.disk.device.still honest)) in
    let mine = subst (λ (t : PastEnd). HasSpans (d.size c.args.store.now.disk)
    (now (d.trail c.args.store.now.disk)).reads t
    NO_EPOCH c.args.k was) (sym head) (spans, are, there) in
    let at = find was mine.0 mine.1 mine.2 in
    let holds = as_then d (λ size n x. HoldsTold size at.0.0 c.in-Some.span.told at.0.1 x) two quiet honest 0 0 refl
    at.1.holds in
    let second = two.left.disk.device.still honest in
    let early = as_read d (λ size n x. (start : Start) (pages : List Page)
    → (has : HoldsTold size start c.in-Some.span.told pages x) → start.base ≡ c.in-Some.span.base
    → c.args.k < start.before
    → c.in-Some.span.follows ≡ true → has.written.0.standing.past.before ≤ c.args.k
    → IsSomeAnd found (λ shown. shown.desktop ≡ start_at has.written.0.standing c.args.k)) two quiet honest 0 0 refl
    (ahead second tt) in
    let there_in = at.3 in
    elim (cases_lt c.args.k at.0.0.before) [
      | inl less ↦ some_then found (early at.0.0 at.0.1 at.1.holds at.2 less (at.4 less) there_in.low)
          (λ shown eq. eq ∙ sym (there_in.ahead less))
      | inr least ↦ some_then found (fact second tt at.0.0 at.0.1 holds at.2 least there_in.high)
          (λ shown eq. eq ∙ sym (there_in.behind least))
    ])

pub returns-in_default-clause-still : goal.returns-in_default-clause-still
returns-in_default-clause-still g c =
    let d = g.D.Disk in
    let usable : c.args.store.now.must_reopen ≡ false = search rules in
    (still_both d (still_looked d c.past.result (still_none d c.args.store.now usable) c.past.ensures.looks)
    c.span_of.ensures.still)

pub returns-in_default-clause-left : goal.returns-in_default-clause-left
returns-in_default-clause-left g c =
    let d = g.D.Disk in
    let usable : c.args.store.now.must_reopen ≡ false = search rules in
    (still_both d (still_looked d c.past.result (still_none d c.args.store.now usable) c.past.ensures.looks)
    c.span_of.ensures.still).left

pub returns-in_default-clause-usable : goal.returns-in_default-clause-usable
returns-in_default-clause-usable g c =
    let usable : c.args.store.now.must_reopen ≡ false = search rules in c.span_of.ensures.still.usable ∙ sym usable

pub returns-clause-still : goal.returns-clause-still
returns-clause-still g c =
    let d = g.D.Disk in
    let usable : c.args.store.now.must_reopen ≡ false = search rules in
    whatever c.in_pages.result (still_both d (still_both d
    (still_looked d c.past.result (still_none d c.args.store.now usable) c.past.ensures.looks) c.span_of.ensures.still)
    c.in_pages.ensures.still)

pub returns-clause-left : goal.returns-clause-left
returns-clause-left g c =
    let d = g.D.Disk in
    let usable : c.args.store.now.must_reopen ≡ false = search rules in
    (still_both d (still_both d (still_looked d c.past.result (still_none d c.args.store.now usable)
    c.past.ensures.looks) c.span_of.ensures.still) c.in_pages.ensures.still).left

pub returns-clause-usable : goal.returns-clause-usable
returns-clause-usable g c =
    let usable : c.args.store.now.must_reopen ≡ false = search rules in c.in_pages.ensures.still.usable ∙ sym usable

pub returns-in_default-clause-faults : goal.returns-in_default-clause-faults
returns-in_default-clause-faults g c =
    fails_none (none_failed c.in_ok-span.ensures.faults ∙ none_failed c.in_ok-told.ensures.looks.faults)

pub returns-clause-faults : goal.returns-clause-faults
returns-clause-faults g c = failing_on c.in_pages.ensures.faults moment_of_laying
    (none_failed c.in_ok-span.ensures.faults ∙ none_failed c.in_ok-told.ensures.looks.faults)

pub returns-clause-open : goal.returns-clause-open
returns-clause-open g c = λ is. absurd (never_reopened c.in_pages.result c.in_pages.ensures.faults.errors is)

pub returns-clause-stops : goal.returns-clause-stops
returns-clause-stops g c = IfErr-weaker c.in_pages.result _ _ (λ e stops honest start deeds desktop keeps lies low.
    let d = g.D.Disk in
    let r = keeps.remembers in
    let one = still_looked d c.past.result (still_none d c.args.store.now keeps.usable) c.past.ensures.looks in
    let two = still_both d one c.span_of.ensures.still in
    let quiet = c.shows_what_crashes_leave.ensures.quiet keeps.usable honest in
    let head = c.in_ok-told.ensures.told honest r.standing r.past.stands in
    let told = ap (λ (p : PastEnd). p.before) head in
    let find = as_read d (λ size n x. (was : Desktop) → (spans : List (Start × List Page))
    → (are : AreSpans size x NO_EPOCH c.in_ok-told.told spans)
    → WasThen size x NO_EPOCH c.in_ok-told.told spans are c.args.k was → IsFoundSpan size x c.args.k was c.in-Some.span)
    one quiet honest 0 0 refl
    ((rw c.in-Some.is at c.in_ok-span.ensures.found) (one.left.disk.device.still honest)) in
    let mine = was_in_use d keeps lies c.in_ok-told.told head c.args.k low (omega (arith, c.if-k-told.false)) in
    let at = find (moment start (all_deeds r.pages) c.args.k) mine.0 mine.1 mine.2 in
    stops (two.left.disk.device.still honest) tt at.0.0
    (as_then d (λ size n x. HasStart x at.0.0) two quiet honest 0 0 refl at.1.holds.written.0) at.2)
    c.in_pages.ensures.stops
