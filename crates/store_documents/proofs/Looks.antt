-- Looks at a store, one after another.
use Rattle.std.proofs.Common.{◌∙◌}
use Rattle.std.specs.Prelude.{Result}
use Rattle.sector_disk.specs.declared.disk.Disk.{Ghosts}
use Rattle.sector_disk.proofs.Touching.{at_last, chained, weakened}
use Rattle.desk_journal.specs.Device.{IsOnlyRead}
use Rattle.desk_journal.specs.Errors.{Error}
use Rattle.desk_journal.specs.Looking.{OnlyLooks}
use Rattle.desk_journal.specs.View.{StoreView}
use Rattle.store_documents.specs.Standings.{HasOnlyLooked}

module _ {D : Type 0} (d : Ghosts D) where
  pub read_twice : {old mid new : D} → IsOnlyRead d old mid → IsOnlyRead d mid new → IsOnlyRead d old new
  read_twice first second = record {
    device = record {
      as_large = second.device.as_large ∙ first.device.as_large;
      still = λ honest. second.device.still (first.device.still honest);
      already = λ honest. first.device.already (second.device.already honest);
    };
    unwritten = λ honest. let before = first.unwritten honest in
        chained before (weakened (second.unwritten (first.device.still honest)) (at_last before));
  }

  pub looked_on : {T : Type 0} {old mid new : StoreView D} (result : Result T Error) → HasOnlyLooked d old mid
      → OnlyLooks d result mid new → HasOnlyLooked d old new
  looked_on result so_far look = record {
    desktop = λ honest. look.desktop (so_far.disk.device.still honest) ∙ so_far.desktop honest;
    kept = look.kept ∙ so_far.kept;
    layout = look.layout ∙ so_far.layout;
    epoch = look.epoch ∙ so_far.epoch;
    events = look.events ∙ so_far.events;
    usable = look.usable ∙ so_far.usable;
    disk = read_twice so_far.disk look.disk;
  }
