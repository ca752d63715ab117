use Rattle.std.proofs.Common.{◌≡◌, inl, inr, ◌+◌, ◌<◌, ◌∙◌, ℕ, ap, arith, refl, rules, subst, sym, false, true}
use Rattle.std.proofs.lemmas.Bool.{cases_lt, false≢true}
use Rattle.sector_disk.specs.Trail.{Content, now}
use Rattle.past_pages.specs.Parts.{IsPastPart, part_base, part_count}
use Rattle.past_pages.specs.declared.parts.TheConstants.{PART_SECTORS}
use Rattle.past_pages.proofs.StillReads.{still_both, still_none, still_reads}
use Rattle.desk_past.specs.Going.{IsStartedSomewhere, start_epoch}
use Rattle.desk_past.proofs.Apart.{at_place, place_of}
use Rattle.desk_past.proofs.going_on.is_started.Goals as goal

pub loop-place-init : goal.loop-place-init
loop-place-init g c = record {
  still = still_none g.D.Disk c.args.store.now c.requires;
  calm = refl;
  none = λ honest n low. absurd (omega (arith, low));
}

pub start_epoch-requires : goal.start_epoch-requires
start_epoch-requires g c =
    let i = c.loop-place.invariant in
    let room = c.part_base.ensures.is.room in
    let large = i.still.left.disk.device.as_large in
    record {
      usable = i.still.usable;
      numbered = omega (arith, room);
      there = omega (arith, room, large, c.sectors-sectors.ensures);
    }

pub returns-in_err-start_epoch-clause-still : goal.returns-in_err-start_epoch-clause-still
returns-in_err-start_epoch-clause-still g c =
    still_both g.D.Disk c.loop-place.invariant.still c.start_epoch.ensures.still

pub returns-then-branch-gt0-clause-still : goal.returns-then-branch-gt0-clause-still
returns-then-branch-gt0-clause-still g c = still_both g.D.Disk c.loop-place.invariant.still c.start_epoch.ensures.still

pub returns-then-branch-gt0-clause-is : goal.returns-then-branch-gt0-clause-is
returns-then-branch-gt0-clause-is g c = λ honest.
    let d = g.D.Disk in
    let i = c.loop-place.invariant in
    let same = still_reads d i.still (c.shows_what_crashes_leave.ensures.quiet c.requires honest) honest in
    let epoch = c.in_ok-start_epoch.ensures.epoch (i.still.left.disk.device.still honest)
    ∙ ap (λ (r : Content). start_epoch r c.part_base.result) same in (
      λ is. record {
        base = c.part_base.result;
        end = c.part_base.result + PART_SECTORS;
        part = subst (λ n. IsPastPart n c.part_base.result (c.part_base.result + PART_SECTORS))
            c.sectors-sectors.ensures
            c.part_base.ensures.is;
        start = subst (λ n. 0 < n) epoch c.if-branch-gt0.true;
      },
      λ some. refl,
    )

pub loop-place-preserved : goal.loop-place-preserved
loop-place-preserved g c =
    let d = g.D.Disk in
    let i = c.loop-place.invariant in
    record {
      still = still_both d i.still c.start_epoch.ensures.still;
      calm = search rules;
      none = λ honest n low. elim (cases_lt n c.loop-place.place) [
        | inl less ↦ i.none honest n less
        | inr ge ↦ λ some.
            let same = still_reads d i.still (c.shows_what_crashes_leave.ensures.quiet c.requires honest) honest in
            let epoch = c.in_ok-start_epoch.ensures.epoch (i.still.left.disk.device.still honest)
            ∙ ap (λ (r : Content). start_epoch r c.part_base.result) same in
            let here : n ≡ c.loop-place.place = omega (arith, ge, low) in
            let at : c.part_base.result ≡ part_base n = c.part_base.ensures.value ∙ ap part_base (sym here) in
            let is = epoch ∙ ap (start_epoch (now (d.trail c.args.store.now.disk)).reads) at in
            omega (arith, some, is, c.if-branch-gt0.false)
      ];
    }

pub returns-clause-is : goal.returns-clause-is
returns-clause-is g c = λ honest. (
  λ is. absurd (false≢true is),
  λ some.
      let d = g.D.Disk in
      let begins = some.part.begins in
      let low = place_of (d.size c.args.store.now.disk) some.base some.end some.part in
      let count : c.part_count-place-end.result ≡ part_count (d.size c.args.store.now.disk) =
      c.part_count-place-end.ensures.value ∙ ap part_count c.sectors-sectors.ensures in
      absurd (c.loop-place.invariant.none honest some.part.place (omega (arith, low, count, c.loop-place-test.false))
      (subst (λ n. 0 < start_epoch (now (d.trail c.args.store.now.disk)).reads n) begins some.start)),
)
