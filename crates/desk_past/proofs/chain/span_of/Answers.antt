use Rattle.std.proofs.Common.{◌≡◌, ◌⊎◌, inl, inr, ◌+◌, ◌<◌, ◌≤◌, ◌∙◌, ℕ, List, ap, arith, refl, rules, subst, sym, true}
use Rattle.std.specs.declared.option.Option.{Option}
use Rattle.std.specs.Prelude.{Some, None, IsSomeAnd}
use Rattle.sector_disk.specs.Trail.{Content, now}
use Rattle.desktop_definitions.specs.Desktop.{Desktop}
use Rattle.store_layout.specs.declared.head.PastEnd.{PastEnd}
use Rattle.past_pages.proofs.StillReads.{still_both, still_none}
use Rattle.desk_past.specs.Chain.{IsSpan, start_shows}
use Rattle.desk_past.specs.declared.chain.Begun.{Begun}
use Rattle.desk_past.specs.declared.chain.TheConstants.{NO_EPOCH}
use Rattle.desk_past.proofs.Chaining.{HasSpans, SaysOfAll, first_or_others, is_some_of, spans_on}
use Rattle.desk_past.proofs.Found.{as_read}
use Rattle.desk_past.proofs.chain.span_of.Goals as goal

pub loop-epoch-init : goal.loop-epoch-init
loop-epoch-init g c = record {
  still = still_none g.D.Disk c.args.store.now c.requires;
  calm = refl;
  there = λ honest was has. has;
}

pub begun_before-requires : goal.begun_before-requires
begun_before-requires g c = c.loop-epoch.invariant.still.usable

pub returns-in_err-begun-clause-still : goal.returns-in_err-begun-clause-still
returns-in_err-begun-clause-still g c =
    still_both g.D.Disk c.loop-epoch.invariant.still c.begun_before.ensures.still

pub returns-in_default-clause-still : goal.returns-in_default-clause-still
returns-in_default-clause-still g c =
    still_both g.D.Disk c.loop-epoch.invariant.still c.begun_before.ensures.still

pub returns-in_default-clause-found : goal.returns-in_default-clause-found
returns-in_default-clause-found g c = λ honest was spans are there.
    let d = g.D.Disk in
    let i = c.loop-epoch.invariant in
    let quiet = c.shows_what_crashes_leave.ensures.quiet c.requires honest in
    let says = as_read d (λ size n x. SaysOfAll size c.loop-epoch.told c.loop-epoch.epoch None x) i.still quiet honest 0
    0 refl
    ((rw c.in_default.is at c.in_ok-begun.ensures.told) (i.still.left.disk.device.still honest)) in
    let first = first_or_others (i.there honest was (spans, are, there)) in
    absurd (says first.0 first.1 first.2)

pub returns-in_err-former-clause-still : goal.returns-in_err-former-clause-still
returns-in_err-former-clause-still g c = still_both g.D.Disk
    (still_both g.D.Disk c.loop-epoch.invariant.still c.begun_before.ensures.still)
    c.begun_before-then-k-begun.ensures.still

pub returns-then-k-begun-clause-still : goal.returns-then-k-begun-clause-still
returns-then-k-begun-clause-still g c = still_both g.D.Disk
    (still_both g.D.Disk c.loop-epoch.invariant.still c.begun_before.ensures.still)
    c.begun_before-then-k-begun.ensures.still

pub returns-then-k-begun-clause-found : goal.returns-then-k-begun-clause-found
returns-then-k-begun-clause-found g c = λ honest was spans are there.
    let d = g.D.Disk in
    let i = c.loop-epoch.invariant in
    let quiet = c.shows_what_crashes_leave.ensures.quiet c.requires honest in
    let mid = still_both d i.still c.begun_before.ensures.still in
    let says = as_read d (λ size n x. SaysOfAll size c.loop-epoch.told c.loop-epoch.epoch (Some c.in-Some.begun) x)
    i.still quiet honest 0 0 refl
    ((rw c.in-Some.is at c.in_ok-begun.ensures.told) (i.still.left.disk.device.still honest)) in
    let former = as_read d (λ size n x. SaysOfAll size c.in-Some.begun.told c.in-Some.begun.epoch c.in_ok-former.former
    x)
    mid quiet honest 0 0 refl
    (c.in_ok-former.ensures.told (mid.left.disk.device.still honest)) in
    let first = first_or_others (i.there honest was (spans, are, there)) in
    let so = says first.0 first.1 first.2 in
    elim first.3 [
      | inl here ↦ (
        first.0,
        first.1,
        sym so.0,
        here.0,
        λ ahead. let next = here.1 ahead in is_some_of c.in_ok-former.former c.is_some.result c.is_some.ensures
            (spans_on former so.2 so.1 next.0 next.1 next.2),
      )
      | inr others ↦ let before = ap (λ (p : PastEnd). p.before) so.2 in
          absurd (omega (arith, others.0, before, c.if-k-begun.true))
    ]

pub loop-epoch-preserved : goal.loop-epoch-preserved
loop-epoch-preserved g c =
    let d = g.D.Disk in
    let i = c.loop-epoch.invariant in
    record {
      still = still_both d i.still c.begun_before.ensures.still;
      calm = search rules;
      there = λ honest was has.
          let quiet = c.shows_what_crashes_leave.ensures.quiet c.requires honest in
          let says = as_read d (λ size n x. SaysOfAll size c.loop-epoch.told c.loop-epoch.epoch (Some c.in-Some.begun)
          x)
          i.still quiet honest 0 0 refl
          ((rw c.in-Some.is at c.in_ok-begun.ensures.told) (i.still.left.disk.device.still honest)) in
          let first = first_or_others (i.there honest was has) in
          let so = says first.0 first.1 first.2 in
          elim first.3 [
            | inl here ↦ let before = ap (λ (p : PastEnd). p.before) so.2 in let low = here.0.low in
                absurd (omega (arith, low, before, c.if-k-begun.false))
            | inr others ↦ subst (λ (x : PastEnd × ℕ). HasSpans (d.size c.args.store.now.disk)
                (now (d.trail c.args.store.now.disk)).reads x.0 x.1 c.args.k was) (λ j. (sym so.2 j, sym so.1 j))
                others.1
          ];
    }

pub returns-clause-found : goal.returns-clause-found
returns-clause-found g c = λ honest was spans are there.
    let first = first_or_others (c.loop-epoch.invariant.there honest was (spans, are, there)) in
    let older = first.2 in
    elim older [
      | inl less ↦ absurd (omega (arith, less, c.loop-epoch-test.false))
      | inr none ↦ absurd (omega (arith, none, c.loop-epoch-test.false))
    ]
