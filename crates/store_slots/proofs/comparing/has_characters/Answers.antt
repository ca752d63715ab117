use Rattle.std.proofs.Common.{rules, ◌≡◌, ◌++◌, ◌+◌, arith, subst, take, drop}
use Rattle.std.specs.Prelude.{◌*◌}
use Rattle.sector_disk.specs.Trail.{Content, now}
use Rattle.sector_disk.specs.declared.disk.TheConstants.{SECTOR_BYTES}
use Rattle.sector_disk.proofs.Confinement.{joined}
use Rattle.sector_disk.proofs.Touching.{still_all}
use Rattle.store_layout.specs.Kept.{HasFront}
use Rattle.store_layout.specs.Layout.{area_at}
use Rattle.store_slots.proofs.SlotStarts.{rest_here}
use Rattle.store_slots.proofs.comparing.has_characters.Goals as goal

pub loop-i-preserved : goal.loop-i-preserved
loop-i-preserved g c =
    let l = c.loop-i.invariant in
    let i = c.loop-i.i in
    let rest = c.args.rest.now in
    record {
      kept = joined g.D.Disk.size g.D.Disk.honest g.D.Disk.trail l.kept c.has_sector.ensures.kept;
      calm = search rules;
      front = λ honest front long was.
          let same = still_all (g.D.Disk.trail c.args.disk.now) (g.D.Disk.trail c.loop-i.disk) (l.kept.moments honest) in
          let here = c.in_ok-has_sector.ensures.same c.if-not-branch.false (l.kept.still honest) in
          let content = (now (g.D.Disk.trail c.args.disk.now)).reads in
          let next : c.args.saved + i + 1 ≡ c.args.saved + (i + 1) = omega arith in
          subst (λ n. HasFront content c.args.area n (front ++ rest)) next
          (rest_here content c.args.area c.args.saved i front rest
          (omega (arith, c.loop-i-test.true))
          (subst (λ (r : Content). r (area_at c.args.area (c.args.saved + i))
          ≡ take SECTOR_BYTES (drop (SECTOR_BYTES * i) rest)) same here) long (l.front honest front long was));
    }
