use Rattle.std.proofs.Common.{◌≡◌, ◌∙◌, ap, arith, length, refl, rules}
use Rattle.sector_disk.specs.Trail.{now}
use Rattle.sector_disk.specs.declared.disk.TheConstants.{SECTOR_BYTES}
use Rattle.store_layout.specs.declared.layout.TheConstants.{STORE_SECTORS}
use Rattle.past_pages.proofs.CopyReads.{all_spelled, none_spelled, short_on, spelled_on}
use Rattle.past_pages.proofs.copies.spelled_sectors.Goals as goal

pub loop-n-init : goal.loop-n-init
loop-n-init g c = record {
  device = record { as_large = refl; still = λ h. h; already = λ h. h };
  same = λ honest k. refl;
  short = let none = ap length c.new-bytes.ensures.items in omega (arith, none);
  spelled = λ honest. none_spelled (now (g.E.Disk.trail c.args.disk.now)).reads c.new-bytes.ensures.items;
}

pub loop-n-preserved : goal.loop-n-preserved
loop-n-preserved g c =
    let i = c.loop-n.invariant in
    let held = c.sector_in.ensures in
    record {
      device = record {
        as_large = held.device.as_large ∙ i.device.as_large;
        still = λ h. held.device.still (i.device.still h);
        already = λ h. i.device.already (held.device.already h);
      };
      same = λ honest k. (held.still (i.device.still honest)).1 k ∙ i.same honest k;
      short =
          let long : length c.in_ok-sector.sector ≡ SECTOR_BYTES = search rules in
          short_on c.loop-n.n c.in_ok-sector.sector long c.in_ok-put_sector.ensures i.short;
      spelled = λ honest.
          let long : length c.in_ok-sector.sector ≡ SECTOR_BYTES = search rules in
          spelled_on (now (g.E.Disk.trail c.args.disk.now)).reads c.loop-n.n c.in_ok-sector.sector (search rules) long
          (c.in_ok-sector.ensures.bytes (i.device.still honest) ∙ i.same honest c.loop-n.n) (i.spelled honest)
          c.in_ok-put_sector.ensures;
    }

pub returns-clause-spelled : goal.returns-clause-spelled
returns-clause-spelled g c = λ honest. all_spelled (now (g.E.Disk.trail c.args.disk.now)).reads c.loop-n.n
    (c.loop-n.invariant.spelled honest) (omega (arith, c.loop-n-test.false))

pub returns-clause-short : goal.returns-clause-short
returns-clause-short g c =
    let end : c.loop-n.n ≡ STORE_SECTORS = omega (arith, c.loop-n-test.false, c.loop-n.auto.n-end) in
    omega (arith, end, c.loop-n.invariant.short)
