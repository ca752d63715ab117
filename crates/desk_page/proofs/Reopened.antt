-- A store that is opened again, over the same disk, shows what it showed. `d` is what is known of a disk.
use Rattle.std.proofs.Common.{◌≡◌, refl, subst}
use Rattle.sector_disk.specs.declared.disk.Disk.{Ghosts}
use Rattle.sector_disk.specs.Trail.{Moment, now}
use Rattle.store_layout.specs.Meaning.{Shows}
use Rattle.store_layout.specs.Finding.{ShowingLaw}
use Rattle.desk_journal.specs.Opening.{IsOpened}
use Rattle.desk_journal.specs.View.{StoreView, IsDurable}

-- the same present moment: the one disk is the other but for what it tells
pub shows_the_same : {D : Type 0} (d : Ghosts D) (law : ShowingLaw) (disk : D) (old new : StoreView D)
    → d.size disk ≡ d.size old.disk → now (d.trail disk) ≡ now (d.trail old.disk) → d.honest old.disk → d.honest disk
    → IsDurable d old → IsOpened d disk new → new.desktop ≡ old.desktop
shows_the_same d law disk old new size moment honest honest' durable opened =
    (law (d.size old.disk) (now (d.trail old.disk)).reads old.layout old.epoch old.events new.layout new.epoch new.events
    old.desktop new.desktop (durable honest (now (d.trail old.disk)).reads (λ n calm. refl))
    (subst (λ n. Shows n new.layout new.epoch new.events new.desktop (now (d.trail old.disk)).reads) size
    (subst (λ (m : Moment). Shows (d.size disk) new.layout new.epoch new.events new.desktop m.reads) moment
    (opened.found honest')))).0
