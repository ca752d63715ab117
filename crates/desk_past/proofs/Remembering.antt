-- What each call leaves of a past. `d` is what is known of a disk.
use Rattle.std.proofs.Common.{◌≡◌, ◌⊎◌, inl, inr, ◌+◌, ◌^◌, ◌<◌, ◌≤◌, ℕ, List, [], ◌∷◌, ◌++◌, length, refl, sym, ◌∙◌, ap}
use Rattle.std.proofs.Common.{subst, arith, false, length-append}
use Rattle.std.proofs.lemmas.List.{append-nil}
use Rattle.sector_disk.specs.declared.disk.Disk.{Ghosts}
use Rattle.sector_disk.specs.Confined.{IsConfined}
use Rattle.sector_disk.specs.Stored.{HoldsBytes, last_sector}
use Rattle.sector_disk.specs.Trail.{Content, now, LeavesOnly}
use Rattle.sector_disk.proofs.Touching.{at_last, chained, read_is_an_image, still_reads, weakened}
use Rattle.event_bytes.specs.declared.event.Event.{Event}
use Rattle.desktop_definitions.specs.Desktop.{Desktop}
use Rattle.desktop_definitions.specs.Step.{Outcome, step, step_in}
use Rattle.store_layout.specs.declared.head.PastEnd.{PastEnd}
use Rattle.store_layout.specs.Filling.{InRange}
use Rattle.store_layout.specs.Meaning.{Standing, Stands, and_then, desktop_of}
use Rattle.store_slots.specs.Device.{IsOnlyRead, IsSameDevice, StaysWithin}
use Rattle.store_slots.proofs.Recording.{in_newest, steps_in_on}
use Rattle.desk_journal.specs.Behind.{IsWrittenBehind, KeepsStanding, LeavesPosted, LeavesNext, ShowsNext, renewed_from}
use Rattle.desk_journal.specs.Posting.{HasJournalRoom}
use Rattle.desk_journal.specs.Undoing.{ShowsStanding}
use Rattle.desk_journal.specs.View.{StoreView}
use Rattle.past_pages.specs.Marks.{IsCopyPage}
use Rattle.past_pages.specs.Page.{Page, page_bytes, page_sectors, copy_of, journal_of}
use Rattle.past_pages.specs.Reading.{IsQuiet}
use Rattle.desk_past.specs.Beginning.{IsApart}
use Rattle.desk_past.specs.Ahead.{IsAhead}
use Rattle.desk_past.specs.Keeping.{HasPageRoom}
use Rattle.desk_past.specs.Past.{AreMarkPages, HasNewPage, HasPages, HoldsPast, IsHeadTold, HoldsPages, KeepsAll, LeavesAll}
use Rattle.desk_past.specs.Past.{Remembers, Start, all_deeds, end_of_pages, first_page}
use Rattle.desk_past.proofs.Carrying.{both_leave, end_above, end_both, end_on, good_both, good_journal, pages_on, pages_stay}
use Rattle.desk_past.proofs.Carrying.{past_of, written_before, written_both, written_kept}
use Rattle.desk_past.specs.Deeds.{PastDeed, posted, after_deeds, all_posted}
use Rattle.desk_past.proofs.Moments.{deeds_of_both, joined, many_posted, nil_right, posted_both, stepped_on}
use Rattle.desk_past.proofs.Turns.{marks_deeds, marks_good, marks_on, marks_turns, turns_then}

pub moved_past : {size size' : ℕ} {start : Start} {s : Standing} {pages : List Page} {c c' : Content} → size' ≡ size
    → c' ≡ c
    → HoldsPast size start s pages c → HoldsPast size' start s pages c'
moved_past {start = start} {s = s} {pages = pages} large same past =
    subst (λ (x : ℕ × Content). HoldsPast x.0 start s pages x.1) (λ i. (sym large i, sym same i)) past

-- the deeds of pages, of a journal behind them, and of marks
deeds_marked : (desktop : Desktop) (pages : List Page) (s : Standing) (marks : List Page) → AreMarkPages desktop marks
    → all_deeds (pages ++ journal_of s ∷ marks) ≡ all_deeds pages ++ all_posted s.events
deeds_marked desktop pages s marks are = deeds_of_both pages (journal_of s ∷ marks)
    ∙ ap (λ l. all_deeds pages ++ (all_posted s.events ++ l)) (marks_deeds desktop marks are)
    ∙ ap (λ l. all_deeds pages ++ l) (nil_right (all_posted s.events))

-- an epoch that has ended: its journal is the last page but for marks
abbrev ended : {size size' : ℕ} {start : Start} {s : Standing} {pages : List Page} {c c' : Content}
    → HoldsPast size start s pages c → (desktop : Desktop) (marks : List Page) → AreMarkPages desktop marks
    → desktop_of s ≡ desktop → (end : PastEnd)
    → end_of_pages s.past.next (journal_of s ∷ marks) ≡ end.next
    → s.past.before + length s.events ≡ end.before
    → length (page_bytes (journal_of s)) < 2 ^ 32 → end.next ≤ size'
    → Stands size' c' (renewed_from end s)
    → HoldsPages c' start (pages ++ journal_of s ∷ marks)
    → HoldsPast size' start (renewed_from end s) (pages ++ journal_of s ∷ marks) c'
ended {start = start} {s = s} {pages = pages} {c = c} past desktop marks are is end next before short room stands
    written =
    let stepped = stepped_on start.desktop pages s s.events past.newest past.leads in
    record {
      stands = stands;
      newest = refl;
      written = written;
      good = good_both pages (journal_of s ∷ marks) past.good
          (good_journal c s past.stands past.newest short, marks_good desktop marks are);
      turns = turns_then start pages (journal_of s ∷ marks) past.turns
          (tt, marks_turns start (all_deeds pages ++ all_posted s.events) desktop marks are (sym is ∙ sym stepped));
      up_to = end_both pages (journal_of s ∷ marks) (first_page start)
          ∙ ap (λ n. end_of_pages n (journal_of s ∷ marks)) past.up_to ∙ next;
      room = room;
      counted = let all = ap length (deeds_marked desktop pages s marks are) in
          let long = length-append (all_deeds pages) (all_posted s.events) in
          omega (arith, all, long, many_posted s.events, past.counted, before);
      leads = ap (after_deeds start.desktop) (deeds_marked desktop pages s marks are) ∙ stepped;
    }

abbrev remembers_ended : {size size' : ℕ} {start : Start} {deeds : List PastDeed} {desktop : Desktop} {c c' : Content}
    (r : Remembers size start deeds desktop c) (marks : List Page) → AreMarkPages desktop marks → (end : PastEnd)
    → end_of_pages r.standing.past.next (journal_of r.standing ∷ marks) ≡ end.next
    → r.standing.past.before + length r.standing.events ≡ end.before
    → length (page_bytes (journal_of r.standing)) < 2 ^ 32 → end.next ≤ size'
    → Stands size' c' (renewed_from end r.standing)
    → HoldsPages c' start (r.pages ++ journal_of r.standing ∷ marks) → Remembers size' start deeds desktop c'
remembers_ended {desktop = desktop} r marks are end next before short room stands written = record {
  standing = renewed_from end r.standing;
  pages = r.pages ++ journal_of r.standing ∷ marks;
  past = ended r.past desktop marks are r.is end next before short room stands written;
  all = append-nil (all_deeds (r.pages ++ journal_of r.standing ∷ marks))
      ∙ deeds_marked desktop r.pages r.standing marks are ∙ r.all;
  is = r.is;
}

abbrev pub remembers_on : {size size' : ℕ} {start : Start} {deeds : List PastDeed} {desktop : Desktop} {c c' : Content}
    (r : Remembers size start deeds desktop c) → size' ≡ size → Stands size' c' r.standing → HoldsPages c' start r.pages
    → Remembers size' start deeds desktop c'
remembers_on r large stands written = record {
  standing = r.standing;
  pages = r.pages;
  past = past_of r.standing r.past refl refl refl large stands written;
  all = r.all;
  is = r.is;
}

abbrev remembers_more : {size size' : ℕ} {start : Start} {deeds : List PastDeed} {desktop : Desktop} {c c' : Content}
    (r : Remembers size start deeds desktop c) (event : Event) → size' ≡ size
    → Stands size' c' (and_then r.standing event) → HoldsPages c' start r.pages
    → Remembers size' start (deeds ++ posted event ∷ []) (step desktop event).desktop c'
remembers_more {desktop = desktop} r event large stands written = record {
  standing = and_then r.standing event;
  pages = r.pages;
  past = past_of (and_then r.standing event) r.past refl refl refl large stands written;
  all = ap (λ l. all_deeds r.pages ++ l) (posted_both r.standing.events (event ∷ []))
      ∙ sym (joined (all_deeds r.pages) (all_posted r.standing.events) (posted event ∷ []))
      ∙ ap (λ l. l ++ posted event ∷ []) r.all;
  is = steps_in_on r.standing.version r.standing.start r.standing.events event
      ∙ (λ i. (step_in (r.past.newest i) (r.is i) event).desktop)
      ∙ ap (λ (o : Outcome). o.desktop) (in_newest desktop event);
}

module _ {D : Type 0} (d : Ghosts D) {start : Start} {deeds : List PastDeed} {desktop : Desktop}
    {old : StoreView D} (was : KeepsAll d start deeds desktop old) (honest : d.honest old.disk)
    (quiet : IsQuiet d old) where
  -- ---- a call that only reads
  pub read_moments : (new : StoreView D) → IsOnlyRead d old.disk new.disk → LeavesAll d start deeds desktop old new
  read_moments new run = weakened (run.unwritten honest) (λ c image.
      subst (Remembers (d.size old.disk) start deeds desktop) (sym (λ i n. image n (quiet n) i)) was.remembers)

  unfoldable pub read_keeps : {new : StoreView D} → IsOnlyRead d old.disk new.disk → new.must_reopen ≡ false
      → KeepsAll d start deeds desktop new
  read_keeps {new = new} run usable =
      let image = at_last (run.unwritten honest) (now (d.trail new.disk)).reads
      (read_is_an_image (now (d.trail new.disk))) in
      record {
        usable = usable;
        behind = was.behind;
        remembers = record {
          standing = was.remembers.standing;
          pages = was.remembers.pages;
          past = moved_past run.device.as_large (λ i n. image n (quiet n) i) was.remembers.past;
          all = was.remembers.all;
          is = was.remembers.is;
        };
      }

  -- what the head told before a read it tells behind it
  pub told_still : {X : Type 0} (new : StoreView D) (run : IsOnlyRead d old.disk new.disk)
      (usable : new.must_reopen ≡ false) (told : PastEnd) → IsHeadTold d told was
      → ((keeps : KeepsAll d start deeds desktop new) → IsHeadTold d told keeps → X) → X
  unfolding read_keeps
  told_still new run usable told is f = f (read_keeps {new = new} run usable) is

  -- and the room for its page stays
  pub room_still : {X : Type 0} (new : StoreView D) (run : IsOnlyRead d old.disk new.disk)
      (usable : new.must_reopen ≡ false) (end : ℕ) → HasPageRoom d end was
      → ((keeps : KeepsAll d start deeds desktop new) → HasPageRoom d end keeps → X) → X
  unfolding read_keeps
  room_still new run usable end room f = f (read_keeps {new = new} run usable) (record {
    page = room.page;
    inside = omega (arith, room.inside, run.device.as_large);
    few = room.few;
  })

  -- and a start that is apart from it
  pub apart_still : {X : Type 0} (new : StoreView D) (run : IsOnlyRead d old.disk new.disk)
      (usable : new.must_reopen ≡ false) (base : ℕ) → IsApart d base was
      → ((keeps : KeepsAll d start deeds desktop new) → IsApart d base keeps → X) → X
  unfolding read_keeps
  apart_still new run usable base apart f = f (read_keeps {new = new} run usable) apart

  pub told_room_still : {X : Type 0} (new : StoreView D) (run : IsOnlyRead d old.disk new.disk)
      (usable : new.must_reopen ≡ false) (end : ℕ) (told : PastEnd) → IsHeadTold d told was → HasPageRoom d end was
      → ((keeps : KeepsAll d start deeds desktop new) → IsHeadTold d told keeps → HasPageRoom d end keeps → X) → X
  unfolding read_keeps
  told_room_still new run usable end told is room f = f (read_keeps {new = new} run usable) is (record {
    page = room.page;
    inside = omega (arith, room.inside, run.device.as_large);
    few = room.few;
  })

  -- and what is to be written before the desktop is exchanged
  pub ahead_still : {X : Type 0} (new : StoreView D) (run : IsOnlyRead d old.disk new.disk)
      (usable : new.must_reopen ≡ false) (p : Page) (past : PastEnd) (from limit : ℕ) (bytes : List ℕ)
      → IsAhead d p past from limit bytes was
      → ((keeps : KeepsAll d start deeds desktop new) → IsAhead d p past from limit bytes keeps → X) → X
  unfolding read_keeps
  ahead_still new run usable p past from limit bytes ahead f = f (read_keeps {new = new} run usable) (record {
    at = ahead.at;
    are = ahead.are;
    up_to = ahead.up_to;
    limit_is = ahead.limit_is;
    room = omega (arith, ahead.room, run.device.as_large);
    counted = ahead.counted;
    short = ahead.short;
    good = ahead.good;
  })

  -- ---- a page is written
  module _ (new : StoreView D) (from limit : ℕ) (at : from ≡ was.remembers.standing.past.next)
      (only : IsConfined d.size d.honest d.trail (InRange from limit) old.disk new.disk) where
    kept_there : LeavesOnly (d.trail old.disk) (d.trail new.disk) (λ c. HoldsPages c start was.remembers.pages)
    kept_there = written_kept was.remembers.pages start was.behind (λ n far. quiet n) (only.moments honest)
        (λ n low high within. omega (arith, high, within.0, at, was.remembers.past.up_to)) was.remembers.past.written

    pub page_moments : KeepsStanding d old new → LeavesAll d start deeds desktop old new
    page_moments keeps = weakened
        (both_leave (keeps was.usable honest was.remembers.standing was.remembers.past.stands) kept_there)
        (λ c x. remembers_on was.remembers refl x.0 x.1)

    pub page_keeps : {bytes : List ℕ} (end : PastEnd) → IsWrittenBehind d from bytes old new
        → bytes ≡ page_bytes (journal_of was.remembers.standing) → length bytes < 2 ^ 32
        → from + page_sectors (journal_of was.remembers.standing) ≡ end.next → end.next ≤ d.size old.disk
        → was.remembers.standing.past.before + length was.remembers.standing.events ≡ end.before
        → HasNewPage d start deeds desktop end new
    page_keeps end done same short up_to room counted = record {
      keeps = record {
        usable = done.usable;
        behind = was.behind;
        remembers = remembers_on was.remembers only.as_large
            (done.shown honest was.remembers.standing was.remembers.past.stands)
            (at_last kept_there (now (d.trail new.disk)).reads (read_is_an_image (now (d.trail new.disk))));
      };
      marks = [];
      are = tt;
      held = (
        subst (λ n. HoldsBytes (now (d.trail new.disk)).reads n
            (page_bytes (journal_of was.remembers.standing))) at
            (subst (λ l. HoldsBytes (now (d.trail new.disk)).reads from l) same (done.held honest)),
        tt,
      );
      short = subst (λ l. length l < 2 ^ 32) same short;
      up_to = ap (λ n. n + page_sectors (journal_of was.remembers.standing)) (sym at) ∙ up_to;
      room = omega (arith, room, only.as_large);
      counted = counted;
    }

  -- ---- an event is posted
  module _ (new : StoreView D) (event : Event) (has : HasJournalRoom old)
      (within : StaysWithin d old.disk new.disk) where
    still_there : LeavesOnly (d.trail old.disk) (d.trail new.disk) (λ c. HoldsPages c start was.remembers.pages)
    still_there = written_kept was.remembers.pages start was.behind (λ n far. quiet n) (within.moments honest)
        (λ n low high store. omega (arith, low, was.behind, store)) was.remembers.past.written

    pub post_moments : LeavesPosted d event old new
        → LeavesOnly (d.trail old.disk) (d.trail new.disk) (λ c. Remembers (d.size old.disk) start deeds desktop c
        ⊎ Remembers (d.size old.disk) start (deeds ++ posted event ∷ []) (step desktop event).desktop c)
    post_moments leaves = weakened
        (both_leave (leaves has was.usable honest was.remembers.standing was.remembers.past.stands) still_there)
        (λ c x. elim x.0 [
          | inl added ↦ inr (remembers_more was.remembers event refl added x.1)
          | inr still ↦ inl (remembers_on was.remembers refl still x.1)
        ])

    pub post_keeps : new.must_reopen ≡ false → ShowsStanding d new (and_then was.remembers.standing event)
        → KeepsAll d start (deeds ++ posted event ∷ []) (step desktop event).desktop new
    post_keeps usable shows = record {
      usable = usable;
      behind = was.behind;
      remembers = remembers_more was.remembers event within.as_large shows
          (at_last still_there (now (d.trail new.disk)).reads (read_is_an_image (now (d.trail new.disk))));
    }

-- ---- a checkpoint ends the epoch, whose page is written
module _ {D : Type 0} (d : Ghosts D) {start : Start} {deeds : List PastDeed} {desktop : Desktop} {end : PastEnd}
    {old : StoreView D} (was : HasNewPage d start deeds desktop end old) (honest : d.honest old.disk)
    (quiet : IsQuiet d old) (new : StoreView D) (within : StaysWithin d old.disk new.disk) where
  abbrev r : Remembers (d.size old.disk) start deeds desktop (now (d.trail old.disk)).reads
  r = was.keeps.remembers

  abbrev added : List Page
  added = journal_of r.standing ∷ was.marks

  all_pages : HoldsPages (now (d.trail old.disk)).reads start (r.pages ++ added)
  all_pages = written_both r.pages added (now (d.trail old.disk)).reads start r.past.written
      (subst (λ n. HasPages (now (d.trail old.disk)).reads n added) (sym r.past.up_to) was.held)

  pages_there : LeavesOnly (d.trail old.disk) (d.trail new.disk) (λ c. HoldsPages c start (r.pages ++ added))
  pages_there = written_kept (r.pages ++ added) start was.keeps.behind (λ n far. quiet n)
      (within.moments honest) (λ n low high store. omega (arith, low, was.keeps.behind, store)) all_pages

  pub turn_moments : LeavesNext d (renewed_from end) old new → LeavesAll d start deeds desktop old new
  turn_moments renewed = weakened (both_leave (renewed was.keeps.usable honest r.standing r.past.stands) pages_there)
      (λ c x. elim x.0 [
        | inl anew ↦ remembers_ended r was.marks was.are end was.up_to was.counted was.short was.room anew x.1
        | inr still ↦ remembers_on r refl still (written_before r.pages added c start x.1)
      ])

  pub turn_keeps : new.must_reopen ≡ false → ShowsNext d (renewed_from end) old new
      → KeepsAll d start deeds desktop new
  turn_keeps usable shows = record {
    usable = usable;
    behind = was.keeps.behind;
    remembers = remembers_ended r was.marks was.are end was.up_to was.counted was.short
        (omega (arith, was.room, within.as_large)) (shows honest r.standing r.past.stands)
        (at_last pages_there (now (d.trail new.disk)).reads (read_is_an_image (now (d.trail new.disk))));
  }

-- ---- a mark is written behind the page of the epoch

module _ {D : Type 0} (d : Ghosts D) {start : Start} {deeds : List PastDeed} {desktop : Desktop} {past : PastEnd}
    {old : StoreView D} (was : HasNewPage d start deeds desktop past old) (honest : d.honest old.disk)
    (quiet : IsQuiet d old) where
  -- a call that only reads
  pub new_page_still : (new : StoreView D) → IsOnlyRead d old.disk new.disk → new.must_reopen ≡ false
      → HasNewPage d start deeds desktop past new
  unfolding read_keeps
  new_page_still new run usable =
      let image = at_last (run.unwritten honest) (now (d.trail new.disk)).reads
      (read_is_an_image (now (d.trail new.disk))) in
      record {
        keeps = read_keeps d was.keeps honest quiet {new = new} run usable;
        marks = was.marks;
        are = was.are;
        held = subst (λ c. HasPages c was.keeps.remembers.standing.past.next
            (journal_of was.keeps.remembers.standing ∷ was.marks)) (sym (λ i n. image n (quiet n) i)) was.held;
        short = was.short;
        up_to = was.up_to;
        room = omega (arith, was.room, run.device.as_large);
        counted = was.counted;
      }

  module _ (new : StoreView D) (from limit : ℕ) (at : from ≡ past.next)
      (only : IsConfined d.size d.honest d.trail (InRange from limit) old.disk new.disk) where
    abbrev rest : Remembers (d.size old.disk) start deeds desktop (now (d.trail old.disk)).reads
    rest = was.keeps.remembers

    abbrev so_far : List Page
    so_far = journal_of rest.standing ∷ was.marks

    before_mark : rest.standing.past.next ≤ past.next
    before_mark = let far = end_above so_far rest.standing.past.next in omega (arith, far, was.up_to)

    kept_before : LeavesOnly (d.trail old.disk) (d.trail new.disk) (λ c. HoldsPages c start rest.pages)
    kept_before = written_kept rest.pages start was.keeps.behind (λ n far. quiet n) (only.moments honest)
        (λ n low high within. omega (arith, high, within.0, at, rest.past.up_to, before_mark)) rest.past.written

    pub mark_moments : KeepsStanding d old new → LeavesAll d start deeds desktop old new
    mark_moments keeps = weakened
        (both_leave (keeps was.keeps.usable honest rest.standing rest.past.stands) kept_before)
        (λ c x. remembers_on rest refl x.0 x.1)

    held_before : HasPages (now (d.trail new.disk)).reads rest.standing.past.next so_far
    held_before = pages_stay so_far (now (d.trail old.disk)).reads (now (d.trail new.disk)).reads
        rest.standing.past.next
        (λ n low high. still_reads (d.trail old.disk) (d.trail new.disk) (only.moments honest) n
        (λ within. omega (arith, high, within.0, at, was.up_to))) was.held

    pub mark_keeps : {bytes : List ℕ} (end : PastEnd) → IsWrittenBehind d from bytes old new
        → IsCopyPage false desktop bytes → from + (last_sector (length bytes) + 1) ≡ end.next
        → end.next ≤ d.size old.disk → end.before ≡ past.before → HasNewPage d start deeds desktop end new
    mark_keeps {bytes = bytes} end done copy up_to room same =
        let mark = copy_of false copy.sectors desktop in
        record {
          keeps = record {
            usable = done.usable;
            behind = was.keeps.behind;
            remembers = remembers_on rest only.as_large (done.shown honest rest.standing rest.past.stands)
                (at_last kept_before (now (d.trail new.disk)).reads (read_is_an_image (now (d.trail new.disk))));
          };
          marks = was.marks ++ mark ∷ [];
          are = marks_on desktop was.marks (mark ∷ []) was.are (copy.sectors, refl, copy.good, tt);
          held = pages_on so_far (now (d.trail new.disk)).reads rest.standing.past.next mark held_before
              (subst (λ n. HoldsBytes (now (d.trail new.disk)).reads n (page_bytes mark)) (at ∙ sym was.up_to)
              (subst (λ l. HoldsBytes (now (d.trail new.disk)).reads from l) copy.are (done.held honest)));
          short = was.short;
          up_to = end_on so_far rest.standing.past.next mark ∙ ap (λ n. n + page_sectors mark) was.up_to
              ∙ ap (λ n. n + page_sectors mark) (sym at)
              ∙ ap (λ l. from + (last_sector (length l) + 1)) (sym copy.are) ∙ up_to;
          room = omega (arith, room, only.as_large);
          counted = was.counted ∙ sym same;
        }

-- ---- calls one after another

-- reads, and then a page is written
module _ {D : Type 0} (d : Ghosts D) {start : Start} {deeds : List PastDeed} {desktop : Desktop}
    {old : StoreView D} (mid new : StoreView D) (was : KeepsAll d start deeds desktop old) (honest : d.honest old.disk)
    (quiet : IsQuiet d old) (run : IsOnlyRead d old.disk mid.disk) (usable : mid.must_reopen ≡ false)
    (still : IsQuiet d mid) (from limit : ℕ) (at : from ≡ was.remembers.standing.past.next)
    (only : IsConfined d.size d.honest d.trail (InRange from limit) mid.disk new.disk) where
  pub read_then_moments : KeepsStanding d mid new → LeavesAll d start deeds desktop old new
  unfolding read_keeps
  read_then_moments keeps = chained (read_moments d was honest quiet mid run)
      (subst (λ n. LeavesOnly (d.trail mid.disk) (d.trail new.disk) (Remembers n start deeds desktop))
      run.device.as_large
      (page_moments d (read_keeps d was honest quiet {new = mid} run usable) (run.device.still honest) still new from
      limit at only keeps))

  pub read_then_page : {bytes : List ℕ} (end : PastEnd) → IsWrittenBehind d from bytes mid new
      → bytes ≡ page_bytes (journal_of was.remembers.standing) → length bytes < 2 ^ 32
      → from + page_sectors (journal_of was.remembers.standing) ≡ end.next → end.next ≤ d.size mid.disk
      → was.remembers.standing.past.before + length was.remembers.standing.events ≡ end.before
      → HasNewPage d start deeds desktop end new
  unfolding read_keeps
  read_then_page end done same short up_to room counted =
      page_keeps d (read_keeps d was honest quiet {new = mid} run usable) (run.device.still honest) still
      new from limit at only end done same short up_to room counted

-- a part of a call that leaves all, and another one behind it
pub leaves_then : {D : Type 0} (d : Ghosts D) {start : Start} {deeds : List PastDeed} {desktop : Desktop}
    (old mid new : StoreView D) → IsSameDevice d old.disk mid.disk → LeavesAll d start deeds desktop old mid
    → LeavesAll d start deeds desktop mid new → LeavesAll d start deeds desktop old new
leaves_then d {start = start} {deeds = deeds} {desktop = desktop} old mid new device first second =
    chained first (subst (λ n. LeavesOnly (d.trail mid.disk) (d.trail new.disk) (Remembers n start deeds desktop))
    device.as_large second)

abbrev pub LeavesMore : {D : Type 0} → Ghosts D → ℕ → Event → Start → List PastDeed → Desktop → D → D → Type 0
LeavesMore d size event start deeds desktop old new = LeavesOnly (d.trail old) (d.trail new)
    (λ c. Remembers size start deeds desktop c
    ⊎ Remembers size start (deeds ++ posted event ∷ []) (step desktop event).desktop c)

pub leaves_more : {D : Type 0} (d : Ghosts D) {start : Start} {deeds : List PastDeed} {desktop : Desktop}
    (old mid : StoreView D) (event : Event) → LeavesAll d start deeds desktop old mid
    → LeavesMore d (d.size old.disk) event start deeds desktop old.disk mid.disk
leaves_more d old mid event first = weakened first (λ c r. inl r)

pub leaves_more_then : {D : Type 0} (d : Ghosts D) {start : Start} {deeds : List PastDeed} {desktop : Desktop}
    (old mid new : StoreView D) (event : Event) → IsSameDevice d old.disk mid.disk
    → LeavesAll d start deeds desktop old mid
    → LeavesMore d (d.size mid.disk) event start deeds desktop mid.disk new.disk
    → LeavesMore d (d.size old.disk) event start deeds desktop old.disk new.disk
leaves_more_then d {start = start} {deeds = deeds} {desktop = desktop} old mid new event device first
    second = chained (weakened first (λ c r. inl r))
    (subst (λ n. LeavesMore d n event start deeds desktop mid.disk new.disk) device.as_large second)
