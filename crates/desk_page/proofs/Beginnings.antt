-- A store that was made, and then opened, shows the empty desktop; and what a page before a new one is.
use Rattle.std.proofs.Common.{◌≡◌, ◌∙◌, ap, refl, arith, List, ℕ, [], true}
use Rattle.sector_disk.specs.declared.disk.Disk.{Ghosts}
use Rattle.sector_disk.specs.Memory.{replayed, zero_moment}
use Rattle.sector_disk.specs.Trail.{now, Leaves}
use Rattle.desktop_definitions.specs.Desktop.{Desktop, empty_desktop}
use Rattle.desktop_definitions.specs.Step.{steps}
use Rattle.store_layout.specs.declared.layout.TheConstants.{LAYOUT}
use Rattle.store_layout.specs.Finding.{ShowingLaw}
use Rattle.store_layout.specs.Meaning.{Shows}
use Rattle.desk_journal.specs.Device.{IsOnlyRead, StaysWithin}
use Rattle.desk_journal.specs.Opening.{IsOpened}
use Rattle.desk_journal.specs.View.{StoreView, IsDurable}
use Rattle.starter_desktop.specs.StarterDesktop.{furnishing}
use Rattle.status_line.specs.declared.saying.Saying.TheVariants.{Greeting}
use Rattle.terminal_keyboard.specs.Presses.{at_rest}
use Rattle.viewer_tracks.specs.declared.display.TheConstants.{COLUMNS}
use Rattle.desk_sitting.specs.Sittings.{new_sitting}
use Rattle.desk_page.specs.declared.page.TheConstants.{HEIGHT}
use Rattle.page_disks.specs.Recording.{Recording, trail_since}
use Rattle.desk_page.specs.Turns.{HostPage, IsMade}
use Rattle.page_disks.specs.contracts.disk.RecordedDiskDisk.TheImpl.{ghosts}
use Rattle.desk_page.proofs.Reopened.{shows_the_same}

module _ {D : Type 0} (d : Ghosts D) (law : ShowingLaw) (disk made : D) (store : StoreView D) where
  pub is_empty : (d.honest disk → Leaves (now (d.trail made)) (Shows (d.size made) LAYOUT 1 0 empty_desktop))
      → StaysWithin d disk made → IsOpened d made store → d.honest disk → store.desktop ≡ empty_desktop
  is_empty empty within opened honest =
      (law (d.size made) (now (d.trail made)).reads LAYOUT 1 0 store.layout store.epoch store.events empty_desktop
      store.desktop (empty honest (now (d.trail made)).reads (λ n calm. refl))
      (opened.found (within.still honest))).0

  pub is_furnished : (after : Desktop)
      → (d.honest disk → Leaves (now (d.trail made)) (Shows (d.size made) LAYOUT 1 0 empty_desktop))
      → StaysWithin d disk made → IsOpened d made store → IsOnlyRead d made store.disk
      → (d.honest store.disk → after ≡ steps store.desktop furnishing) → d.honest disk
      → after ≡ steps empty_desktop furnishing
  is_furnished after empty within opened only furnished honest =
      furnished (only.device.still (within.still honest))
      ∙ ap (λ (e : Desktop). steps e furnishing) (is_empty empty within opened honest)

-- A page that was closed, and begun again over the same disk, stands before the new store that was made there.
pub is_made : (law : ShowingLaw) (page after : HostPage) (disk : Recording)
    → page.store.desktop ≡ steps empty_desktop furnishing → IsDurable ghosts page.store → disk ≡ page.store.disk
    → disk.told ≡ [] → IsOpened ghosts disk after.store → IsOnlyRead ghosts disk after.store.disk
    → after.sitting ≡ new_sitting HEIGHT COLUMNS Greeting true → after.parser ≡ at_rest → IsMade ghosts after
is_made law page after disk made durable same told opened read sitting parser = record {
  desktop = shows_the_same ghosts law disk page.store after.store (ap (λ (d : Recording). d.size) same)
      (ap (λ (d : Recording). now (trail_since d)) same) tt tt durable opened ∙ made;
  whole = (read.unwritten tt).kept 0 (omega arith) ∙ ap (λ calls. replayed calls zero_moment) told;
  durable = opened.durable;
  sitting = sitting;
  parser = parser;
  usable = opened.usable;
}
