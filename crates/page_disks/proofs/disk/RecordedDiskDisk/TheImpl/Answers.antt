use Rattle.std.proofs.Common.{sym, ap, subst}
use Rattle.sector_disk.specs.declared.call.DiskCall.TheVariants.{Write, Sync}
use Rattle.sector_disk.specs.Trail.{Nowhere, Only}
use Rattle.sector_disk.specs.Confined.{IsConfined}
use Rattle.sector_disk.proofs.Confinement.{stays_put}
use Rattle.sector_disk.proofs.Replay.{counts_none, always, write_stays, sync_stays}
use Rattle.page_disks.specs.Recording.{trail_since}
use Rattle.page_disks.proofs.Recorded.{happened, kept_to, nothing_happened}
use Rattle.page_disks.proofs.disk.RecordedDiskDisk.TheImpl.Goals as goal

pub read-tells : goal.read-tells
read-tells c = record {
  kept = subst (IsConfined (λ d. d.size) (λ _. Unit {0}) trail_since Nowhere c.args.self.now)
      (sym c.ensures.unchanged) (stays_put (λ d. d.size) (λ _. Unit {0}) trail_since Nowhere c.args.self.now);
  cause = counts_none c.result c.args.self.now.failures c.new.self.now.failures c.ensures.done
      (ap (λ d. d.failures) c.ensures.unchanged);
  bytes = always c.result _ (λ _. c.ensures.bytes);
}

pub write-tells : goal.write-tells
write-tells c = record {
  kept = kept_to c.result (Only c.args.n) c.args.self.now c.new.self.now (Write c.args.n c.args.bytes.now) c.ensures.size
      c.ensures.recorded c.ensures.refused c.ensures.unspelled (λ m. write_stays m c.args.n c.args.bytes.now);
  cause = c.ensures.cause;
  written = happened c.result c.args.self.now c.new.self.now (Write c.args.n c.args.bytes.now) c.ensures.recorded;
}

pub sync-tells : goal.sync-tells
sync-tells c = record {
  kept = kept_to c.result Nowhere c.args.self.now c.new.self.now Sync c.ensures.size c.ensures.recorded c.ensures.refused
      c.ensures.unspelled sync_stays;
  cause = c.ensures.cause;
  settled = happened c.result c.args.self.now c.new.self.now Sync c.ensures.recorded;
  unsettled = nothing_happened c.result c.args.self.now c.new.self.now c.ensures.refused c.ensures.unspelled;
}
