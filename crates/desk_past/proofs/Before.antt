-- What a store keeps after it was read it kept before. `d` is what is known of a disk.
use Rattle.std.proofs.Common.{◌≡◌, ℕ, List, false, subst}
use Rattle.sector_disk.specs.declared.disk.Disk.{Ghosts}
use Rattle.sector_disk.specs.Trail.{Content}
use Rattle.desktop_definitions.specs.Desktop.{Desktop}
use Rattle.desk_journal.specs.View.{StoreView}
use Rattle.past_pages.specs.Parts.{IsPastPart}
use Rattle.past_pages.specs.Reading.{IsOnlyReadFrom, IsQuiet}
use Rattle.past_pages.proofs.StillReads.{still_reads}
use Rattle.desk_past.specs.Deeds.{PastDeed}
use Rattle.desk_past.specs.Going.{LiesInPart}
use Rattle.desk_past.specs.Past.{HoldsPast, KeepsAll, Start}
use Rattle.desk_past.specs.Turning.{PastOf}

module _ {D : Type 0} (d : Ghosts D) {old mid : StoreView D} (still : IsOnlyReadFrom d old mid)
    (usable : old.must_reopen ≡ false) (quiet : d.honest old.disk → IsQuiet d old) where
  -- what a store keeps after it was read it kept before
  abbrev pub keeps_before : {start : Start} {deeds : List PastDeed} {desktop : Desktop} → d.honest mid.disk
      → KeepsAll d start deeds desktop mid → KeepsAll d start deeds desktop old
  keeps_before {start = start} honest keeps =
      let before = still.left.disk.device.already honest in
      record {
        usable = usable;
        behind = keeps.behind;
        remembers = record {
          standing = keeps.remembers.standing;
          pages = keeps.remembers.pages;
          past = subst (λ (x : ℕ × Content). HoldsPast x.0 start keeps.remembers.standing keeps.remembers.pages x.1)
              (λ i. (still.left.disk.device.as_large i, still_reads d still (quiet before) before i))
              keeps.remembers.past;
          all = keeps.remembers.all;
          is = keeps.remembers.is;
        };
      }

  abbrev pub past_before : PastOf d mid → PastOf d old
  past_before past = record {
    start = past.start;
    deeds = past.deeds;
    desktop = past.desktop;
    keeps = keeps_before past.honest past.keeps;
    honest = still.left.disk.device.already past.honest;
  }

  pub part_before : (past : PastOf d mid) → LiesInPart d past.keeps → LiesInPart d (past_before past).keeps
  part_before past lies = record {
    end = lies.end;
    part = subst (λ n. IsPastPart n past.start.base lies.end) still.left.disk.device.as_large lies.part;
    within = lies.within;
  }
