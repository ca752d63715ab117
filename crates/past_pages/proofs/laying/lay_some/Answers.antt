use Rattle.std.proofs.Common.{◌≡◌, inl, inr, ◌+◌, ◌∙◌, ap, arith, refl, rules, subst, sym}
use Rattle.sector_disk.specs.Trail.{now}
use Rattle.past_pages.specs.Laying.{HasLaid}
use Rattle.past_pages.proofs.Laid.{laid_more, laid_none}
use Rattle.past_pages.proofs.StillReads.{still_looked, still_none, still_reads}
use Rattle.past_pages.proofs.laying.lay_some.Goals as goal

pub loop-n-init : goal.loop-n-init
loop-n-init g c = record {
  still = still_none g.D.Disk c.args.store.now c.requires.usable;
  calm = refl;
  device = record { as_large = refl; still = λ h. h; already = λ h. h };
  low = omega arith;
  laid = λ honest other laying. laid_none _ c.args.base c.args.from laying;
}

pub returns-in_err-read_behind-clause-still : goal.returns-in_err-read_behind-clause-still
returns-in_err-read_behind-clause-still g c =
    still_looked g.D.Disk c.read_behind.result c.loop-n.invariant.still c.read_behind.ensures.looks

pub returns-in_err-put-clause-still : goal.returns-in_err-put-clause-still
returns-in_err-put-clause-still g c =
    still_looked g.D.Disk c.read_behind.result c.loop-n.invariant.still c.read_behind.ensures.looks

pub loop-n-preserved : goal.loop-n-preserved
loop-n-preserved g c =
    let d = g.D.Disk in
    let i = c.loop-n.invariant in
    let kept = c.put.ensures.device in
    record {
      still = still_looked d c.read_behind.result i.still c.read_behind.ensures.looks;
      calm = search rules;
      device = record {
        as_large = kept.as_large ∙ i.device.as_large;
        still = λ h. kept.still (i.device.still h);
        already = λ h. i.device.already (kept.already h);
      };
      low = omega (arith, i.low);
      laid = λ honest other laying.
          let reads = (now (d.trail c.args.store.now.disk)).reads in
          let same = still_reads d i.still (c.shows_what_crashes_leave.ensures.quiet c.requires.usable honest) honest in
          let was = i.laid honest other laying in
          let here = c.in_ok-read_behind.ensures.bytes (i.still.left.disk.device.still honest)
          ∙ ap (λ r. r (c.args.base + c.loop-n.n)) same in
          laid_more reads c.args.base c.args.from c.loop-n.n i.low (omega (arith, c.requires.inside)) was
          (c.in_ok-put.ensures.here (i.device.still other)
          (elim (was.stays.laying c.loop-n.n (omega (arith, c.requires.inside))) [
            | inl zeros ↦ inl zeros
            | inr is ↦ inr (is ∙ sym here)
          ]) ∙ here)
          (c.in_ok-put.ensures.others (i.device.still other));
    }
