-- The desktop that a store has in memory, and what it is over the disk on which the first of its characters stand.
use Rattle.std.specs.Prelude.{◌≡◌, ◌+◌, ◌*◌, ◌<◌, ◌≤◌, ℕ, List, length, false}
use Rattle.sector_disk.specs.declared.disk.Disk.{Ghosts}
use Rattle.sector_disk.specs.declared.disk.TheConstants.{SECTOR_BYTES}
use Rattle.sector_disk.specs.Confined.{IsConfined}
use Rattle.sector_disk.specs.Trail.{Content, Nowhere, now}
use Rattle.char_pages.specs.Pages.{base_of, saved_of, saved_sectors, renewed_of, paged_characters, IsTrueOf, KeepsRead}
use Rattle.char_pages.specs.declared.pages.Pages.{Pages}
use Rattle.event_bytes.specs.declared.event.Event.{Event}
use Rattle.piece_ring.specs.Text.{Text}
use Rattle.desktop_definitions.specs.declared.reply.Reply.{Reply}
use Rattle.desktop_definitions.specs.Desktop.{Desktop, KeptDesktop}
use Rattle.desktop_definitions.specs.Seen.{seen}
use Rattle.desktop_definitions.specs.Viewers.{text_of}
use Rattle.desktop_definitions.specs.Stepped.{IsStep}
use Rattle.document_filing.specs.Bringing.{IsBringing}
use Rattle.document_filing.specs.Bringing.{Documents}
use Rattle.screen_cells.specs.Lines.{AreLinesOf}
use Rattle.desktop_definitions.specs.Sound.{IsOver}
use Rattle.store_layout.specs.declared.head.Head.{Head}
use Rattle.store_layout.specs.declared.layout.TheConstants.{AREAS}
use Rattle.store_layout.specs.Layout.{area_start, head}
use Rattle.store_layout.specs.Meaning.{full_sectors}
use Rattle.store_slots.specs.declared.live.LiveDesktop.{LiveDesktop}

-- a desktop stands over the characters of these pages, whatever the disk reads: how many there are doesn't rest on it
abbrev pub IsOverPages : Pages → KeptDesktop → Type 0
IsOverPages pages d = (c : Content) → IsOver (paged_characters c pages) d

-- where the disk is honest, what is in memory of its sectors is as it reads
abbrev pub AreTrueOver : {D : Type 0} → Ghosts D → D → Pages → Type 0
AreTrueOver d disk pages = d.honest disk → IsTrueOf (now (d.trail disk)).reads pages

-- a desktop as its characters read through these pages
abbrev pub seen_through : {D : Type 0} → Ghosts D → D → Pages → KeptDesktop → Desktop
seen_through d disk pages desktop = seen (paged_characters (now (d.trail disk)).reads pages) desktop

-- its characters
abbrev pub live_characters : Content → LiveDesktop → List ℕ
live_characters c live = paged_characters c live.pages

-- as its characters read
abbrev pub seen_live : Content → LiveDesktop → Desktop
seen_live c live = seen (live_characters c live) live.desktop

-- it stands over its characters, of which the first stand in its area
pub record IsLive (live : LiveDesktop) : Type 0 where
  pub over : IsOverPages live.pages live.desktop
  pub low : live.area < AREAS
  pub based : base_of live.pages ≡ area_start live.area

-- What it has in memory of the disk is so, and, where the disk is honest, the lines that it keeps are so of its texts.
pub record HasTrueCache {D : Type 0} (d : Ghosts D) (disk : D) (live : LiveDesktop) : Type 0 where
  pub pages : AreTrueOver d disk live.pages
  pub lines : d.honest disk → AreLinesOf (text_of (seen_live (now (d.trail disk)).reads live))
      live.lines

-- It stands over its characters, and what it has in memory of this disk is so.
pub record IsLiveOn {D : Type 0} (d : Ghosts D) (disk : D) (desktop : LiveDesktop) : Type 0 where
  pub live : IsLive desktop
  pub told : HasTrueCache d disk desktop

-- Its characters stand as this head says: in its area, on so many sectors.
pub record StandsUnder (h : Head) (live : LiveDesktop) : Type 0 where
  pub area : live.area ≡ h.area
  pub saved : saved_sectors live.pages ≡ full_sectors h.written

-- It has nothing in memory of the disk, and keeps no line.
pub record HasEmptyCache (live : LiveDesktop) : Type 0 where
  pub told : (c : Content) → IsTrueOf c live.pages
  pub lines : (texts : ℕ → Text ℕ) → AreLinesOf texts live.lines

-- The event was stepped with this reply, between a desktop over one disk and what became of both.
abbrev pub IsLiveStep : {D : Type 0} → Ghosts D → ℕ → Event → D → D → LiveDesktop → LiveDesktop
    → Reply → Type 0
IsLiveStep d version event disk disk' old new =
    IsStep (d.honest disk) version event old.desktop new.desktop
    (seen_live (now (d.trail disk)).reads old)
    (seen_live (now (d.trail disk')).reads new)

-- The same of documents.
abbrev pub IsLiveBringing : {D : Type 0} → Ghosts D → Documents → D → D → LiveDesktop → LiveDesktop
    → Reply → Type 0
IsLiveBringing d documents disk disk' old new =
    IsBringing (d.honest disk) documents old.desktop new.desktop
    (seen_live (now (d.trail disk)).reads old)
    (seen_live (now (d.trail disk')).reads new)

-- The head of this slot names its area, and, unless all characters were exchanged since, just the sectors of it on
-- which its first characters stand.
pub record IsNamed (c : Content) (slot : ℕ) (live : LiveDesktop) : Type 0 where
  pub area_is : (head c slot).area ≡ live.area
  pub named : renewed_of live.pages ≡ false → full_sectors (head c slot).written
      ≡ saved_sectors live.pages

-- The desktop that events leave which are read from a journal: live on the disk, and its characters stand where they
-- stood: in the same area, and, unless all were exchanged, as many.
pub record StaysInArea {D : Type 0} (d : Ghosts D) (disk : D) (old new : LiveDesktop) : Type 0 where
  pub live : IsLive new
  pub told : HasTrueCache d disk new
  pub area : new.area ≡ old.area
  pub counted : renewed_of new.pages ≡ false → saved_of new.pages ≡ saved_of old.pages

-- All of its characters that fill sectors stand in this area, and are in memory no more.
pub record IsSavedIn (place : ℕ) (old new : LiveDesktop) : Type 0 where
  pub area : new.area ≡ place
  pub renewed : renewed_of new.pages ≡ false
  pub counted : saved_of new.pages ≡ SECTOR_BYTES * full_sectors old.desktop.written

-- The desktop is the same, and so is what it has in memory of the disk, and the lines that it keeps.
pub record KeepsDesktop (old new : LiveDesktop) : Type 0 where
  pub desktop : new.desktop ≡ old.desktop
  pub read : KeepsRead old.pages new.pages
  pub lines : new.lines ≡ old.lines

-- The desktop that a call leaves to the slot in use: live on the disk, and if the head of the slot named what stands in
-- its area, it does still.
pub record IsLiveIn {D : Type 0} (d : Ghosts D) (slot : ℕ) (disk disk' : D)
    (old new : LiveDesktop) : Type 0 where
  pub live : IsLive new
  pub told : HasTrueCache d disk' new
  pub named : d.honest disk → IsNamed (now (d.trail disk)).reads slot old
      → IsNamed (now (d.trail disk')).reads slot new

-- The desktop that a checkpoint leaves to its new slot: live on the disk if it was before, showing what it showed, and
-- the head of that slot names what stands in its area.
pub record IsLiveAnew {D : Type 0} (d : Ghosts D) (slot : ℕ) (disk disk' : D)
    (old new : LiveDesktop) : Type 0 where
  pub live : IsLive new
  pub told : HasTrueCache d disk old → HasTrueCache d disk' new
  pub named : d.honest disk → IsNamed (now (d.trail disk')).reads slot new
  pub shown : d.honest disk → seen_live (now (d.trail disk')).reads new
      ≡ seen_live (now (d.trail disk)).reads old

-- A look: it shows the same where the disk is honest, and over every disk it is kept as it was. Where no characters
-- were exchanged since the slot in use was written, none were before either, and as many are on the disk.
pub record StaysLive {D : Type 0} (d : Ghosts D) (disk disk' : D) (old new : LiveDesktop) : Type 0
  where
    pub shown_same : d.honest disk → seen_live (now (d.trail disk')).reads new
        ≡ seen_live (now (d.trail disk)).reads old
    pub kept_same : new.desktop ≡ old.desktop
    pub area_same : new.area ≡ old.area
    pub renewed_before : renewed_of new.pages ≡ false → renewed_of old.pages ≡ false
    pub place_same : renewed_of new.pages ≡ false → saved_of new.pages ≡ saved_of old.pages
    pub told : HasTrueCache d disk' new
    pub live : IsLive new

-- What is read through pages stands on the disk, and what they have in memory of it is so.
pub record CanReadThrough {D : Type 0} (d : Ghosts D) (disk : D) (pages : Pages) : Type 0 where
  pub on_disk : base_of pages + saved_sectors pages ≤ d.size disk
  pub told : AreTrueOver d disk pages

-- The same of the pages over which a desktop stands.
pub record CanStepThrough {D : Type 0} (d : Ghosts D) (disk : D) (pages : Pages)
    (desktop : KeptDesktop) : Type 0 where
  pub over : IsOverPages pages desktop
  pub through : CanReadThrough d disk pages

-- A call through pages only reads from the disk, and what they have in memory of it is so. They begin where they began.
-- Where no characters were exchanged since the slot in use was written, none were before either, and as many are on the
-- disk.
pub record ReadsThrough {D : Type 0} (d : Ghosts D) (disk disk' : D) (pages pages' : Pages) : Type 0
  where
    pub confined : IsConfined d.size d.honest d.trail Nowhere disk disk'
    pub told : AreTrueOver d disk' pages'
    pub base : base_of pages' ≡ base_of pages
    pub before : renewed_of pages' ≡ false → renewed_of pages ≡ false
    pub counted : renewed_of pages' ≡ false → saved_of pages' ≡ saved_of pages

-- A look through pages leaves the characters as they were.
pub record LooksThrough {D : Type 0} (d : Ghosts D) (disk disk' : D) (pages pages' : Pages) : Type 0
  where
    pub reads : ReadsThrough d disk disk' pages pages'
    pub same : d.honest disk → paged_characters (now (d.trail disk')).reads pages'
        ≡ paged_characters (now (d.trail disk)).reads pages
    pub long : length (paged_characters (now (d.trail disk')).reads pages')
        ≡ length (paged_characters (now (d.trail disk)).reads pages)
