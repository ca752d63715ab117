use Rattle.std.proofs.Common.{◌≡◌, inl, inr, ◌+◌, ◌∙◌, List, ℕ, ap, arith, refl, rules, subst, sym}
use Rattle.std.specs.Prelude.{get_or}
use Rattle.std.proofs.lemmas.Bool.{cases_lt}
use Rattle.std.proofs.lemmas.List.{get_or-replicate}
use Rattle.sector_disk.specs.declared.disk.TheConstants.{SECTOR_BYTES}
use Rattle.sector_disk.specs.Trail.{Content, now}
use Rattle.past_pages.specs.Sectors.{IsBlank}
use Rattle.past_pages.proofs.StillReads.{still_looked, still_none, still_reads}
use Rattle.past_pages.proofs.sectors.is_blank.Goals as goal

pub loop-n-init : goal.loop-n-init
loop-n-init g c = record {
  still = still_none g.D.Disk c.args.store.now c.requires.usable;
  calm = refl;
  low = omega arith;
  blank = λ honest n high low. absurd (omega (arith, high, low));
}

pub returns-in_err-sector-clause-still : goal.returns-in_err-sector-clause-still
returns-in_err-sector-clause-still g c =
    still_looked g.D.Disk c.sector_at.result c.loop-n.invariant.still c.sector_at.ensures.looks

pub returns-then-not-is_zeros-clause-still : goal.returns-then-not-is_zeros-clause-still
returns-then-not-is_zeros-clause-still g c =
    still_looked g.D.Disk c.sector_at.result c.loop-n.invariant.still c.sector_at.ensures.looks

pub loop-n-preserved : goal.loop-n-preserved
loop-n-preserved g c =
    let d = g.D.Disk in
    let i = c.loop-n.invariant in
    record {
      still = still_looked d c.sector_at.result i.still c.sector_at.ensures.looks;
      calm = search rules;
      low = omega (arith, i.low);
      blank = λ honest n high low. elim (cases_lt n c.loop-n.n) [
        | inl less ↦ i.blank honest n high less
        | inr ge ↦
            let same = still_reads d i.still (c.shows_what_crashes_leave.ensures.quiet c.requires.usable honest)
            honest in
            let reads = (now (d.trail c.args.store.now.disk)).reads in
            subst (λ (k : ℕ). IsBlank (reads k)) (omega (arith, low, ge))
            (λ j less. ap (λ (l : List ℕ). get_or l j 0)
            (sym (ap (λ (r : Content). r c.loop-n.n) same)
            ∙ sym (c.in_ok-sector.ensures.bytes (i.still.left.disk.device.still honest))
            ∙ c.is_zeros.ensures c.if-not-is_zeros.false)
            ∙ get_or-replicate SECTOR_BYTES j 0 0 less)
      ];
    }
