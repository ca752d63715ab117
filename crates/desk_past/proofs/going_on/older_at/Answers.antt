use Rattle.std.proofs.Common.{◌≡◌, inl, inr, ◌+◌, ◌≤◌, ◌<◌, ◌∙◌, ℕ, ap, arith, refl, subst, sym, false, true}
use Rattle.std.proofs.lemmas.Bool.{false≢true}
use Rattle.sector_disk.specs.Trail.{Content, now}
use Rattle.past_pages.specs.Parts.{GoesOnIn, IsPartBeside, IsPastPart, part_base, part_count}
use Rattle.past_pages.specs.declared.parts.TheConstants.{PART_SECTORS}
use Rattle.past_pages.proofs.StillReads.{still_none}
use Rattle.desk_past.specs.Going.{start_epoch}
use Rattle.desk_past.specs.declared.going_on.Oldest.{Oldest}
use Rattle.desk_past.proofs.going_on.older_at.Goals as goal

pub part_base-base-requires : goal.part_base-base-requires
part_base-base-requires g c = subst (λ n. c.args.place < part_count n) (sym c.sectors.ensures) c.requires.there

pub start_epoch-requires : goal.start_epoch-requires
start_epoch-requires g c =
    let room = c.part_base-base.ensures.is.room in
    record {
      usable = c.requires.usable;
      numbered = omega (arith, room);
      there = omega (arith, room, c.sectors.ensures);
    }

pub returns-then-goes_on_in-clause-older : goal.returns-then-goes_on_in-clause-older
returns-then-goes_on_in-clause-older g c = λ honest. record {
  first = omega arith;
  second = λ beside. absurd (beside (subst (λ n. GoesOnIn n (n + PART_SECTORS) c.args.next)
      c.part_base-base.ensures.value
      (c.goes_on_in.ensures.0 c.if-goes_on_in.true)));
  one = inl (refl, refl);
}

pub returns-then-goes_on_in-clause-still : goal.returns-then-goes_on_in-clause-still
returns-then-goes_on_in-clause-still g c = still_none g.D.Disk c.args.store.now c.requires.usable

pub returns-clause-beside : goal.returns-clause-beside
returns-clause-beside g c =
    let size = g.D.Disk.size c.args.store.now.disk in
    elim c.older.ensures.one [
      | inl this ↦ subst (λ (o : Oldest). IsPartBeside size c.args.next o.base) (sym this) c.requires.beside
      | inr that ↦ subst (λ (o : Oldest). IsPartBeside size c.args.next o.base) (sym that) (record {
        part = subst (λ n. IsPastPart n c.part_base-base.result (c.part_base-base.result + PART_SECTORS))
            c.sectors.ensures
            c.part_base-base.ensures.is;
        beside = λ goes. false≢true (sym c.if-goes_on_in.false ∙ c.goes_on_in.ensures.1 goes);
      })
    ]

pub returns-clause-older : goal.returns-clause-older
returns-clause-older g c = λ honest.
    let d = g.D.Disk in
    let reads = (now (d.trail c.args.store.now.disk)).reads in
    let epoch = c.in_ok-epoch.ensures.epoch honest ∙ ap (start_epoch reads) c.part_base-base.ensures.value in
    let least = c.older.ensures.least in
    record {
      first = least.0;
      second = λ beside. omega (arith, least.1, epoch);
      one = elim c.older.ensures.one [
        | inl this ↦ inl (ap (λ (o : Oldest). o.base) this, ap (λ (o : Oldest). o.epoch) this)
        | inr that ↦ inr (
          ap (λ (o : Oldest). o.base) that ∙ c.part_base-base.ensures.value,
          ap (λ (o : Oldest). o.epoch) that ∙ epoch,
        )
      ];
    }
