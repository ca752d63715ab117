-- What a store keeps in a part it keeps there when it was read. `e` is what is known of its disk.
use Rattle.std.proofs.Common.{ℕ, List, subst, sym}
use Rattle.sector_disk.specs.declared.disk.Disk.{Ghosts}
use Rattle.sector_disk.specs.Trail.{Content}
use Rattle.desktop_definitions.specs.Desktop.{Desktop}
use Rattle.desk_journal.specs.View.{StoreView}
use Rattle.past_pages.specs.Parts.{IsPastPart}
use Rattle.past_pages.specs.Reading.{IsOnlyReadFrom, IsQuiet}
use Rattle.past_pages.proofs.StillReads.{still_reads}
use Rattle.desk_past.specs.Deeds.{PastDeed}
use Rattle.desk_past.specs.Past.{HoldsPast, KeepsAll, Start}
use Rattle.former_stores.specs.Former.{KeepsWhole}

pub whole_on : {E : Type 0} (e : Ghosts E) {old mid : StoreView E} → IsOnlyReadFrom e old mid → e.honest old.disk
    → IsQuiet e old → {start : Start} {deeds : List PastDeed} {desktop : Desktop} → KeepsWhole e start deeds desktop old
    → KeepsWhole e start deeds desktop mid
whole_on e {old = old} {mid = mid} still honest quiet {start = start} {deeds = deeds} {desktop = desktop} (keeps, lies) =
    let then_keeps : KeepsAll e start deeds desktop mid = record {
      usable = still.usable;
      behind = keeps.behind;
      remembers = record {
        standing = keeps.remembers.standing;
        pages = keeps.remembers.pages;
        past = subst (λ (x : ℕ × Content). HoldsPast x.0 start keeps.remembers.standing keeps.remembers.pages x.1)
            (λ i. (sym still.left.disk.device.as_large i, sym (still_reads e still quiet honest) i)) keeps.remembers.past;
        all = keeps.remembers.all;
        is = keeps.remembers.is;
      };
    } in (
      then_keeps,
      record {
        end = lies.end;
        part = subst (λ n. IsPastPart n start.base lies.end) (sym still.left.disk.device.as_large) lies.part;
        within = lies.within;
      },
    )
