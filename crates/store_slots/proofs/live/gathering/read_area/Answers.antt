use Rattle.std.proofs.Common.{◌≡◌, ◌∙◌, ap, arith, length, rules}
use Rattle.sector_disk.specs.Trail.{now}
use Rattle.sector_disk.proofs.Confinement.{joined}
use Rattle.sector_disk.proofs.Touching.{still_all}
use Rattle.store_slots.proofs.Gathered.{area_more, none_read}
use Rattle.store_slots.proofs.live.gathering.read_area.Goals as goal

pub loop-k-init : goal.loop-k-init
loop-k-init g c = record {
  kept = search rules;
  calm = search rules;
  long = ap length c.new-bytes.ensures.items;
  read = λ honest. none_read _ c.args.area _ c.new-bytes.ensures.items;
}

pub loop-k-preserved : goal.loop-k-preserved
loop-k-preserved g c =
    let i = c.loop-k.invariant in
    let d = g.D.Disk in
    let more = c.in_ok-add_sector.ensures in
    record {
      kept = joined d.size d.honest d.trail i.kept c.add_sector.ensures.kept;
      calm = search rules;
      long = omega (arith, i.long, more.long);
      read = λ honest.
          area_more (now (d.trail c.args.disk.now)).reads (now (d.trail c.loop-k.disk)).reads c.args.area c.loop-k.k
          c.area_at.result c.loop-k.bytes.items c.add_sector.new.bytes.items
          (still_all (d.trail c.args.disk.now) (d.trail c.loop-k.disk) (i.kept.moments honest)) c.area_at.ensures i.long
          more.long (i.read honest) (more.added (i.kept.still honest));
    }
