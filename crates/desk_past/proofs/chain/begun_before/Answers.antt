use Rattle.std.proofs.Common.{◌≡◌, ◌+◌, ◌<◌, ◌∙◌, ℕ, ap, arith, refl, sym, subst}
use Rattle.sector_disk.specs.Trail.{now}
use Rattle.store_layout.specs.declared.layout.TheConstants.{STORE_SECTORS}
use Rattle.std.proofs.Common.{inl, inr}
use Rattle.past_pages.specs.Parts.{IsPastPart}
use Rattle.past_pages.proofs.StillReads.{still_none}
use Rattle.desk_past.specs.Beginning.{HasStartRoom}
use Rattle.desk_past.specs.Chain.{start_shows}
use Rattle.desk_past.specs.Going.{start_epoch}
use Rattle.desk_past.proofs.Apart.{part_room}
use Rattle.desk_past.proofs.Chaining.{span_low, span_stands}
use Rattle.desk_past.proofs.chain.begun_before.Goals as goal

pub begun_at-requires : goal.begun_at-requires
begun_at-requires g c =
    let room = part_room c.sectors.result c.in-Some.part.base c.in-Some.part.end (omega arith) c.in-Some.ensures.is in
    let end = room.room in
    record {
      usable = c.requires;
      numbered = room.numbered;
      there = omega (arith, end, c.sectors.ensures);
    }

pub returns-in_default-clause-told : goal.returns-in_default-clause-told
returns-in_default-clause-told g c = λ honest span is older. absurd (c.in_default.ensures.all span.0.base is.end
    (subst (λ n. IsPastPart n span.0.base is.end) (sym c.sectors.ensures) is.part) (span_low is) is.within)

pub returns-in_default-clause-still : goal.returns-in_default-clause-still
returns-in_default-clause-still g c = still_none g.D.Disk c.args.store.now c.requires

pub returns-in_default-2-clause-told : goal.returns-in_default-2-clause-told
returns-in_default-2-clause-told g c = λ honest span is older.
    let found = c.in-Some.ensures.all span.0.base is.end
    (subst (λ n. IsPastPart n span.0.base is.end) (sym c.sectors.ensures) is.part) (span_low is) is.within in
    absurd ((rw c.in_default-2.is at c.in_ok-begun.ensures.told) honest (start_shows is)
    (span_stands is c.in-Some.part.base (sym found.0)))

pub returns-then-begun-epoch-clause-told : goal.returns-then-begun-epoch-clause-told
returns-then-begun-epoch-clause-told g c = λ honest span is older.
    let found = c.in-Some.ensures.all span.0.base is.end
    (subst (λ n. IsPastPart n span.0.base is.end) (sym c.sectors.ensures) is.part) (span_low is) is.within in
    let says = (rw c.in-Some-2.is at c.in_ok-begun.ensures.told) honest (start_shows is)
    (span_stands is c.in-Some.part.base (sym found.0)) in
    let number = says.1 in
    elim older [
      | inl less ↦ absurd (omega (arith, less, number, c.if-begun-epoch.true))
      | inr none ↦ absurd (omega (arith, none, c.if-begun-epoch.true))
    ]

pub returns-clause-told : goal.returns-clause-told
returns-clause-told g c = λ honest span is older.
    let found = c.in-Some.ensures.all span.0.base is.end
    (subst (λ n. IsPastPart n span.0.base is.end) (sym c.sectors.ensures) is.part) (span_low is) is.within in
    let says = (rw c.in-Some-2.is at c.in_ok-begun.ensures.told) honest (start_shows is)
    (span_stands is c.in-Some.part.base (sym found.0)) in
    (says.0 ∙ found.0, says.1, says.2)

pub returns-clause-inside : goal.returns-clause-inside
returns-clause-inside g c =
    let same = (rw c.in-Some-2.is at c.in_ok-begun.ensures.at) in
    let room = part_room c.sectors.result c.in-Some.part.base c.in-Some.part.end (omega arith) c.in-Some.ensures.is in
    subst (λ (x : ℕ × ℕ). HasStartRoom x.0 x.1) (λ i. (c.sectors.ensures i, sym same i)) room

pub returns-clause-epoch : goal.returns-clause-epoch
returns-clause-epoch g c = λ honest.
    (rw c.in-Some-2.is at c.in_ok-begun.ensures.epoch) honest
    ∙ ap (start_epoch (now (g.D.Disk.trail c.args.store.now.disk)).reads)
    (sym (rw c.in-Some-2.is at c.in_ok-begun.ensures.at))
