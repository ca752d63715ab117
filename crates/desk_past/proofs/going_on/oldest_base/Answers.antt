use Rattle.std.proofs.Common.{◌≡◌, inl, inr, ◌+◌, ◌≤◌, ◌<◌, ◌∙◌, ℕ, ap, arith, refl, rules, subst, sym}
use Rattle.std.proofs.lemmas.Bool.{cases_lt}
use Rattle.sector_disk.specs.Trail.{Content, now}
use Rattle.past_pages.specs.Parts.{GoesOnIn, HasParts, IsPartBeside, part_base, part_count}
use Rattle.past_pages.specs.declared.parts.TheConstants.{PART_SECTORS}
use Rattle.past_pages.proofs.StillReads.{still_both, still_none, still_reads}
use Rattle.desk_past.specs.Going.{start_epoch}
use Rattle.desk_past.proofs.Apart.{place_of}
use Rattle.desk_past.proofs.going_on.oldest_base.Goals as goal

pub first_beside-base-requires : goal.first_beside-base-requires
first_beside-base-requires g c = subst HasParts (sym c.sectors-sectors.ensures) c.requires.parts

pub start_epoch-requires : goal.start_epoch-requires
start_epoch-requires g c =
    let room = c.first_beside-base.ensures.part.room in
    record {
      usable = c.requires.usable;
      numbered = omega (arith, room);
      there = omega (arith, room, c.sectors-sectors.ensures);
    }

pub loop-place-init : goal.loop-place-init
loop-place-init g c =
    let d = g.D.Disk in
    record {
      still = c.start_epoch.ensures.still;
      calm = search rules;
      beside = subst (λ n. IsPartBeside n c.args.next c.first_beside-base.result) c.sectors-sectors.ensures
          c.first_beside-base.ensures;
      epoch = λ honest. c.in_ok-epoch.ensures.epoch honest;
      least = λ honest n low there. absurd (omega (arith, low));
    }

pub older_at-requires-clause-there : goal.older_at-requires-clause-there
older_at-requires-clause-there g c =
    let large = c.loop-place.invariant.still.left.disk.device.as_large in
    let count : c.part_count-place-end.result ≡ part_count (g.D.Disk.size c.loop-place.store.disk) =
    c.part_count-place-end.ensures.value ∙ ap part_count (c.sectors-sectors.ensures ∙ sym large) in
    omega (arith, count, c.loop-place-test.true)

pub older_at-requires-clause-beside : goal.older_at-requires-clause-beside
older_at-requires-clause-beside g c =
    subst (λ n. IsPartBeside n c.args.next c.loop-place.found.base)
    (sym c.loop-place.invariant.still.left.disk.device.as_large)
    c.loop-place.invariant.beside

pub returns-in_err-older-clause-still : goal.returns-in_err-older-clause-still
returns-in_err-older-clause-still g c =
    still_both g.D.Disk c.loop-place.invariant.still c.older_at.ensures.still

pub loop-place-preserved : goal.loop-place-preserved
loop-place-preserved g c =
    let d = g.D.Disk in
    let i = c.loop-place.invariant in
    let large = i.still.left.disk.device.as_large in
    record {
      still = still_both d i.still c.older_at.ensures.still;
      calm = search rules;
      beside = subst (λ n. IsPartBeside n c.args.next c.in_ok-older.older.base) large c.in_ok-older.ensures.beside;
      epoch = λ honest.
          let same = still_reads d i.still (c.shows_what_crashes_leave.ensures.quiet c.requires.usable honest) honest in
          let older = c.in_ok-older.ensures.older (i.still.left.disk.device.still honest) in
          elim older.one [
            | inl this ↦ this.1 ∙ i.epoch honest
                ∙ ap (start_epoch (now (d.trail c.args.store.now.disk)).reads) (sym this.0)
            | inr that ↦ that.1 ∙ ap (λ (r : Content). start_epoch r (part_base c.loop-place.place)) same
                ∙ ap (start_epoch (now (d.trail c.args.store.now.disk)).reads) (sym that.0)
          ];
      least = λ honest n low there.
          let same = still_reads d i.still (c.shows_what_crashes_leave.ensures.quiet c.requires.usable honest) honest in
          let older = c.in_ok-older.ensures.older (i.still.left.disk.device.still honest) in
          elim (cases_lt n c.loop-place.place) [
            | inl less ↦
                let least = i.least honest n less there in let first = older.first in omega (arith, least, first)
            | inr ge ↦
                let here : c.loop-place.place ≡ n = omega (arith, ge, low) in
                let second = older.second
                (subst (λ k. ¬ GoesOnIn (part_base k) (part_base k + PART_SECTORS) c.args.next)
                (sym here) there.beside) in
                let at = ap (λ (r : Content). start_epoch r (part_base c.loop-place.place)) same
                ∙ ap (λ k. start_epoch (now (d.trail c.args.store.now.disk)).reads (part_base k)) here in
                omega (arith, second, at)
          ];
    }

pub returns-clause-oldest : goal.returns-clause-oldest
returns-clause-oldest g c = λ honest.
    let d = g.D.Disk in
    let i = c.loop-place.invariant in
    let count : c.part_count-place-end.result ≡ part_count (d.size c.args.store.now.disk) =
    c.part_count-place-end.ensures.value ∙ ap part_count c.sectors-sectors.ensures in
    record {
      there = i.beside;
      oldest = λ other there.
          let begins = there.part.begins in
          let low = place_of (d.size c.args.store.now.disk) other _ there.part in
          let least = i.least honest there.part.place (omega (arith, low, count, c.loop-place-test.false))
          (subst (λ n. IsPartBeside (d.size c.args.store.now.disk) c.args.next n) begins there) in
          let epoch = i.epoch honest in
          let at = ap (start_epoch (now (d.trail c.args.store.now.disk)).reads) begins in
          omega (arith, least, epoch, at);
    }
