-- What is known of a past stays known where the store is only read. `d` is what is known of a disk.
use Rattle.std.proofs.Common.{◌≡◌, ◌∙◌, ℕ, List, false, sym, subst}
use Rattle.std.specs.Prelude.{All, IfSome}
use Rattle.std.proofs.lemmas.List.Elements.{All-weaker}
use Rattle.std.specs.declared.option.Option.{Option}
use Rattle.std.specs.Prelude.{Some, None}
use Rattle.sector_disk.specs.declared.disk.Disk.{Ghosts}
use Rattle.sector_disk.specs.Trail.{Content}
use Rattle.desktop_definitions.specs.Desktop.{Desktop}
use Rattle.desk_journal.specs.View.{StoreView}
use Rattle.past_pages.specs.Page.{Page}
use Rattle.past_pages.specs.Parts.{IsPastPart}
use Rattle.past_pages.specs.Reading.{HasCopy, IsOnlyReadFrom, IsQuiet}
use Rattle.past_pages.proofs.StillReads.{still_reads}
use Rattle.desk_past.specs.Deeds.{PastDeed}
use Rattle.desk_past.specs.Going.{LiesInPart}
use Rattle.desk_past.specs.Past.{HoldsPast, KeepsAll, Start, moment}
use Rattle.desk_past.specs.Turning.{PastOf}
use Rattle.desk_past.proofs.Before.{part_before, past_before}
use Rattle.past_moments.specs.Moments.{AreMarksOf, AreMomentsOf, GoesFrom, IsDeedOf, IsExtentOf, IsLastOf, IsMarkOf, IsToldOf, IsDesktopAt, IsPageOf, IsPagePlace, IsSameMoment}
use Rattle.past_moments.specs.Seeking.{IsSoughtOf, IsStandingAt}
use Rattle.past_moments.specs.declared.extent.Extent.{Extent}
use Rattle.past_moments.specs.declared.extent.Place.{Place}
use Rattle.past_moments.specs.declared.legs.Source.{Source}
use Rattle.past_moments.specs.declared.legs.Source.TheVariants.{Copy, Kept, Moment}
use Rattle.past_moments.specs.declared.marks.Mark.{Mark}
use Rattle.past_moments.specs.declared.marks.Marks.{Marks}
use Rattle.past_moments.specs.declared.moments.Moments.{Moments}
use Rattle.past_moments.specs.declared.seeking.Sought.{Sought}

module _ {D : Type 0} (d : Ghosts D) {old mid : StoreView D} (still : IsOnlyReadFrom d old mid)
    (usable : old.must_reopen ≡ false) (quiet : d.honest old.disk → IsQuiet d old) where
  pub extent_on : (extent : Extent) → IsExtentOf d extent old → IsExtentOf d extent mid
  extent_on extent is = λ past lies. let was = is (past_before d still usable quiet past) (part_before d still usable quiet past lies) in record {
    base = was.base;
    first = was.first;
    end = was.end;
    before = was.before;
    journal = was.journal;
    last = was.last;
  }

  pub place_on : (place : Place) → IsPagePlace d place old → IsPagePlace d place mid
  place_on place is = λ past lies. let was = is (past_before d still usable quiet past) (part_before d still usable quiet past lies) in record {
    front = was.front;
    todo = was.todo;
    parts = was.parts;
    at = was.at;
    count = was.count;
  }

  pub moment_on : (k : ℕ) (desktop : Desktop) → IsDesktopAt d k desktop old → IsDesktopAt d k desktop mid
  moment_on k desktop is = λ past lies. let was = is (past_before d still usable quiet past) (part_before d still usable quiet past lies) in
      record { there = was.there; is = was.is }

  pub told_on : (k : ℕ) (words : List ℕ) → IsToldOf d k words old → IsToldOf d k words mid
  told_on k words is = λ past lies. is (past_before d still usable quiet past) (part_before d still usable quiet past lies)

  pub deed_on : (k : ℕ) (words : List ℕ) → IsDeedOf d k words old → IsDeedOf d k words mid
  deed_on k words is = λ past lies. is (past_before d still usable quiet past) (part_before d still usable quiet past lies)

  pub last_on : (k : ℕ) → IsLastOf d k old → IsLastOf d k mid
  last_on k is = λ past lies. is (past_before d still usable quiet past) (part_before d still usable quiet past lies)

  pub sought_on : (k : ℕ) (word : List ℕ) (sought : Sought) → IsSoughtOf d k word sought old → IsSoughtOf d k word sought mid
  sought_on k word sought is = λ past lies. is (past_before d still usable quiet past) (part_before d still usable quiet past lies)

  pub standing_on : (k : ℕ) (word : List ℕ) → IsStandingAt d k word old → IsStandingAt d k word mid
  standing_on k word is = λ past lies. is (past_before d still usable quiet past) (part_before d still usable quiet past lies)

  pub same_on : (k other : ℕ) → IsSameMoment d k other old → IsSameMoment d k other mid
  same_on k other is = λ past lies. is (past_before d still usable quiet past) (part_before d still usable quiet past lies)

  pub goes_on : (place : Place) (from : Source) → GoesFrom d place from old → GoesFrom d place from mid
  goes_on place Kept goes = tt
  goes_on place (Moment k) goes = same_on place.k k goes
  goes_on place (Copy at) goes = λ past lies.
      let was = past_before d still usable quiet past in
      subst (λ (c : Content). HasCopy c at past.keeps.remembers.standing.past.next (moment past.start past.deeds place.k))
      (sym (still_reads d still (quiet was.honest) was.honest))
      (goes was (part_before d still usable quiet past lies))

  pub mark_on : (mark : Mark) → IsMarkOf d mark old → IsMarkOf d mark mid
  mark_on mark is = record {
    place = place_on mark.place is.place;
    shown = moment_on mark.place.k mark.shown.desktop is.shown;
  }

  all_on : (marks : List Mark) → All (λ mark. IsMarkOf d mark old) marks → All (λ mark. IsMarkOf d mark mid) marks
  all_on marks are = All-weaker (λ mark. IsMarkOf d mark old) (λ mark. IsMarkOf d mark mid) mark_on marks are

  near_on : (near : Option Mark) → IfSome near (λ mark. IsMarkOf d mark old) → IfSome near (λ mark. IsMarkOf d mark mid)
  near_on None is = tt
  near_on (Some mark) is = mark_on mark is

  pub marks_on : (marks : Marks) → AreMarksOf d marks old → AreMarksOf d marks mid
  marks_on marks are = record {
    each = all_on marks.marks.items are.each;
    near = near_on marks.near are.near;
  }

  pub moments_on : (moments : Moments) → AreMomentsOf d moments old → AreMomentsOf d moments mid
  moments_on moments are = record {
    extent = extent_on moments.extent are.extent;
    marks = marks_on moments.marks are.marks;
  }

-- what a store keeps before it is read it keeps then, too
module _ {D : Type 0} (d : Ghosts D) {old mid : StoreView D} (still : IsOnlyReadFrom d old mid)
    (quiet : d.honest old.disk → IsQuiet d old) where
  abbrev keeps_then : {start : Start} {deeds : List PastDeed} {desktop : Desktop} → d.honest old.disk
      → KeepsAll d start deeds desktop old → KeepsAll d start deeds desktop mid
  keeps_then {start = start} honest keeps = record {
    usable = still.usable;
    behind = keeps.behind;
    remembers = record {
      standing = keeps.remembers.standing;
      pages = keeps.remembers.pages;
      past = subst (λ (x : ℕ × Content). HoldsPast x.0 start keeps.remembers.standing keeps.remembers.pages x.1)
          (λ i. (sym still.left.disk.device.as_large i, sym (still_reads d still (quiet honest) honest) i))
          keeps.remembers.past;
      all = keeps.remembers.all;
      is = keeps.remembers.is;
    };
  }

  abbrev past_then : PastOf d old → PastOf d mid
  past_then past = record {
    start = past.start;
    deeds = past.deeds;
    desktop = past.desktop;
    keeps = keeps_then past.honest past.keeps;
    honest = still.left.disk.device.still past.honest;
  }

  part_then : (past : PastOf d old) → LiesInPart d past.keeps → LiesInPart d (past_then past).keeps
  part_then past lies = record {
    end = lies.end;
    part = subst (λ n. IsPastPart n past.start.base lies.end) (sym still.left.disk.device.as_large) lies.part;
    within = lies.within;
  }

  pub place_back : (place : Place) → IsPagePlace d place mid → IsPagePlace d place old
  place_back place is = λ past lies. let then_is = is (past_then past) (part_then past lies) in record {
    front = then_is.front;
    todo = then_is.todo;
    parts = then_is.parts;
    at = then_is.at;
    count = then_is.count;
  }

  pub page_back : (place : Place) (such : Page → Type 0) (next : Place) → IsPageOf d place such next mid
      → IsPageOf d place such next old
  page_back place such next is = λ past lies. let then_is = is (past_then past) (part_then past lies) in record {
    front = then_is.front;
    page = then_is.page;
    todo = then_is.todo;
    parts = then_is.parts;
    at = then_is.at;
    count = then_is.count;
    is = then_is.is;
    next_at = then_is.next_at;
    next_count = then_is.next_count;
  }

  pub moment_back : (k : ℕ) (desktop : Desktop) → IsDesktopAt d k desktop mid → IsDesktopAt d k desktop old
  moment_back k desktop is = λ past lies. let then_is = is (past_then past) (part_then past lies) in
      record { there = then_is.there; is = then_is.is }

  pub mark_back : (mark : Mark) → IsMarkOf d mark mid → IsMarkOf d mark old
  mark_back mark is = record {
    place = place_back mark.place is.place;
    shown = moment_back mark.place.k mark.shown.desktop is.shown;
  }

  near_back : (near : Option Mark) → IfSome near (λ mark. IsMarkOf d mark mid) → IfSome near (λ mark. IsMarkOf d mark old)
  near_back None is = tt
  near_back (Some mark) is = mark_back mark is

  pub marks_back : (marks : Marks) → AreMarksOf d marks mid → AreMarksOf d marks old
  marks_back marks are = record {
    each = All-weaker (λ mark. IsMarkOf d mark mid) (λ mark. IsMarkOf d mark old) mark_back marks.marks.items are.each;
    near = near_back marks.near are.near;
  }
