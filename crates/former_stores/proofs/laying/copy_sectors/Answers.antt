use Rattle.std.proofs.Common.{◌≡◌, inl, inr, ◌+◌, ◌∙◌, ℕ, ap, arith, refl, rules, subst}
use Rattle.std.proofs.lemmas.Bool.{cases_lt}
use Rattle.sector_disk.specs.Trail.{now}
use Rattle.past_pages.proofs.StillReads.{still_looked, still_none, still_reads}
use Rattle.former_stores.proofs.laying.copy_sectors.Goals as goal

pub loop-k-init : goal.loop-k-init
loop-k-init g c = record {
  still = still_none g.D.Disk c.args.store.now c.requires.usable;
  calm = refl;
  device = record { as_large = refl; still = λ h. h; already = λ h. h };
  copied = λ honest other k low. absurd (omega (arith, low));
  others = λ other n out. refl;
}

pub returns-in_err-sector-clause-still : goal.returns-in_err-sector-clause-still
returns-in_err-sector-clause-still g c =
    still_looked g.D.Disk c.sector_at.result c.loop-k.invariant.still c.sector_at.ensures.looks

pub returns-in_err-put-clause-still : goal.returns-in_err-put-clause-still
returns-in_err-put-clause-still g c =
    still_looked g.D.Disk c.sector_at.result c.loop-k.invariant.still c.sector_at.ensures.looks

pub loop-k-preserved : goal.loop-k-preserved
loop-k-preserved g c =
    let d = g.D.Disk in
    let i = c.loop-k.invariant in
    let kept = c.put.ensures.device in
    record {
      still = still_looked d c.sector_at.result i.still c.sector_at.ensures.looks;
      calm = search rules;
      device = record {
        as_large = kept.as_large ∙ i.device.as_large;
        still = λ h. kept.still (i.device.still h);
        already = λ h. i.device.already (kept.already h);
      };
      copied = λ honest other k low.
          let same = still_reads d i.still (c.shows_what_crashes_leave.ensures.quiet c.requires.usable honest) honest in
          let reads = (now (d.trail c.args.store.now.disk)).reads in
          let there : ℕ = c.args.to + c.loop-k.k in
          let blank = c.requires.blank.0 in
          elim (cases_lt k c.loop-k.k) [
            | inl less ↦ c.in_ok-put.ensures.others (i.device.still other) (c.args.to + k) (λ e. omega (arith, less, e))
                ∙ i.copied honest other k less
            | inr ge ↦
                subst (λ (j : ℕ). (now (g.E.Disk.trail c.put.new.disk)).reads (c.args.to + j) ≡ reads (c.args.from + j))
                (omega (arith, low, ge))
                (c.in_ok-put.ensures.here (i.device.still other)
                (i.others other there (λ within. omega (arith, within.1))
                ∙ blank.zeros other there (omega arith, omega arith))
                ∙ c.in_ok-sector.ensures.bytes (i.still.left.disk.device.still honest)
                ∙ ap (λ r. r (c.args.from + c.loop-k.k)) same)
          ];
      others = λ other n out.
          c.in_ok-put.ensures.others (i.device.still other) n (λ e. out (omega (arith, e), omega (arith, e)))
          ∙ i.others other n (λ within. out (within.0, omega (arith, within.1)));
    }
