-- Stores in files of the host, down to the bytes of the file. `f` is what is known of a file.
use Rattle.std.specs.Prelude.{◌≡◌, ℕ, List, [], ◌∷◌, false}
use Rattle.sector_disk.specs.declared.host_file.HostFile.{Ghosts}
use Rattle.sector_disk.specs.declared.file.FileDisk.{FileDisk}
use Rattle.sector_disk.specs.declared.file.TheConstants.{FILE_SECTORS}
use Rattle.sector_disk.specs.Faults.{OneOf}
use Rattle.sector_disk.specs.FileTrail.{FileTrail, current}
use Rattle.sector_disk.specs.FileSectors.{sectors_in}
use Rattle.sector_disk.specs.FileImages.{file_under, sectors_under, FileLeaves, FileLeavesOnly}
use Rattle.event_bytes.specs.declared.event.Event.{Event}
use Rattle.desktop_definitions.specs.Desktop.{Desktop}
use Rattle.desktop_definitions.specs.Step.{step}
use Rattle.store_slots.specs.declared.error.Error.{Error}
use Rattle.store_slots.specs.declared.error.Error.TheVariants.{NoMemory, Fault}
use Rattle.store_layout.specs.Meaning.{Means, MeansEither}
use Rattle.desk_journal.specs.Prefixes.{MeansPrefix}
use Rattle.desk_journal.specs.View.{StoreView}

-- the bytes of a file mean a desktop
abbrev pub BytesMean : Desktop → (ℕ → ℕ) → Type 0
BytesMean desktop bytes = Means FILE_SECTORS desktop (sectors_in bytes)

-- why a store isn't opened from bytes that mean a desktop
abbrev pub StopsOpening : Error → Type 0
StopsOpening = OneOf (NoMemory ∷ Fault ∷ [])

module _ {F : Type 0} (f : Ghosts F) where
  -- what the bytes of a store's file were at each moment
  abbrev pub bytes_under : StoreView (FileDisk F f) → FileTrail
  bytes_under store = f.trail (file_under store.disk)

  -- the file of a store does as its model says
  abbrev pub HasHonestFile : StoreView (FileDisk F f) → Type 0
  HasHonestFile store = f.honest (file_under store.disk)

  -- at every moment of a post each image that a crash may leave of the file's bytes means the desktop from before it or
  -- the one after the event
  abbrev pub FileLeavesEither : Event → StoreView (FileDisk F f) → StoreView (FileDisk F f) → Type 0
  FileLeavesEither event old new = old.must_reopen ≡ false → HasHonestFile old
      → FileLeavesOnly (bytes_under old) (bytes_under new)
      (MeansEither (sectors_under old.disk) old.desktop (step old.desktop event).desktop)

  -- and from now on each of them means the one after it
  abbrev pub FileLeavesAfter : Event → StoreView (FileDisk F f) → StoreView (FileDisk F f) → Type 0
  FileLeavesAfter event old new = HasHonestFile old
      → FileLeaves (current (bytes_under new))
      (Means (sectors_under old.disk) (step old.desktop event).desktop)

  -- Between two states of a store a crash leaves bytes that mean the desktop after a prefix of these events, and at the
  -- second of them one that holds every event that was acknowledged.
  pub record FileKeeps (desktop : Desktop) (acknowledged events : List Event)
      (old new : StoreView (FileDisk F f))
      : Type 0 where
    pub any_moment : FileLeavesOnly (bytes_under old) (bytes_under new)
        (MeansPrefix (sectors_under old.disk) desktop [] events)
    pub at_last : FileLeaves (current (bytes_under new))
        (MeansPrefix (sectors_under old.disk) desktop acknowledged events)
