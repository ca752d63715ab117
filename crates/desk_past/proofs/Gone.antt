-- A way to a moment of the pages that was found and gone. `d` and `e` are what is known of the disks.
use Rattle.std.proofs.Common.{◌≡◌, ◌+◌, ◌<◌, ◌≤◌, ◌∙◌, ℕ, List, [], length, sym, ap, subst, arith}
use Rattle.std.specs.declared.option.Option.{Option}
use Rattle.std.specs.Prelude.{IsSomeAnd}
use Rattle.sector_disk.specs.declared.disk.Disk.{Ghosts}
use Rattle.sector_disk.specs.Trail.{Content, now}
use Rattle.desktop_definitions.specs.Desktop.{Desktop}
use Rattle.store_layout.specs.declared.head.PastEnd.{PastEnd}
use Rattle.store_layout.specs.declared.layout.TheConstants.{STORE_SECTORS}
use Rattle.desk_journal.specs.View.{StoreView}
use Rattle.past_pages.specs.Page.{Page}
use Rattle.past_pages.specs.Laying.{StandsFrom}
use Rattle.past_pages.specs.Marks.{ShowsCopy}
use Rattle.past_pages.specs.Reading.{IsOnlyReadFrom, IsQuiet}
use Rattle.past_pages.proofs.StillReads.{still_both, still_reads}
use Rattle.desk_past.specs.Deeds.{PastDeed, after_deeds}
use Rattle.desk_past.specs.Past.{HasPages, end_of_pages}
use Rattle.desk_past.specs.Past.{AreGood, AreTurns, HasStart, HoldsPages, Remembers, Start, all_deeds, first_page, moment}
use Rattle.desk_past.specs.Reading.{HoldsTold, IsLed, ShowsNow}
use Rattle.desk_past.specs.Routes.{IsWay}
use Rattle.desk_past.specs.declared.routes.Leg.{Leg}
use Rattle.desk_past.specs.declared.routes.Origin.{Origin}
use Rattle.desk_past.proofs.Carrying.{end_above}

-- ---- what the head in use tells

-- a past has the pages of which its head tells
pub holds_told : {size size' : ℕ} {start : Start} {deeds : List PastDeed} {desktop : Desktop} {c c' : Content}
    (r : Remembers size start deeds desktop c) (told : PastEnd) → told ≡ r.standing.past → size' ≡ size
    → HoldsPages c' start r.pages → HoldsTold size' start told r.pages c'
holds_told r told is large written = record {
  written = written;
  good = r.past.good;
  turns = r.past.turns;
  up_to = r.past.up_to ∙ sym (ap (λ (x : PastEnd). x.next) is);
  room = let next = ap (λ (x : PastEnd). x.next) is in omega (arith, r.past.room, next, large);
  counted = r.past.counted ∙ sym (ap (λ (x : PastEnd). x.before) is);
}

-- ---- the start, and what stands behind it

pub start_stands : {c : Content} {start : Start} (has : HasStart c start) (base : ℕ) → start.base ≡ base
    → StandsFrom c base has.standing
start_stands {c = c} has base is = subst (λ n. StandsFrom c n has.standing) is has.stands

module _ {size : ℕ} {start : Start} {told : PastEnd} {pages : List Page} {c : Content}
    (has : HoldsTold size start told pages c) (base : ℕ) (is : start.base ≡ base) where
  pub told_room : base + STORE_SECTORS ≤ told.next
  told_room = let far = end_above pages (first_page start) in omega (arith, far, has.up_to, is)

  pub told_pages : HasPages c (base + STORE_SECTORS) pages
  told_pages = subst (λ n. HasPages c (n + STORE_SECTORS) pages) is has.written.1

  pub told_end : end_of_pages (base + STORE_SECTORS) pages ≡ told.next
  told_end = ap (λ n. end_of_pages (n + STORE_SECTORS) pages) (sym is) ∙ has.up_to

-- ---- a way that is found and gone

-- the store was read up to `mid` before the way was found, and up to `far` before it was gone
module _ {D : Type 0} (d : Ghosts D) {start : Start} {told : PastEnd} {pages : List Page} {old mid : StoreView D}
    (has : HoldsTold (d.size old.disk) start told pages (now (d.trail old.disk)).reads) (base : ℕ)
    (is : start.base ≡ base)
    (honest : d.honest old.disk) (quiet : IsQuiet d old) (still : IsOnlyReadFrom d old mid) (first k : ℕ)
    (first_is : first ≡ start.before) (high : k < told.before) where
  -- what is known of the way to a moment of some pages is known of the way to moment k
  pub way_there : (X : Start → List Page → Type 0) → (d.honest mid.disk → (start : Start) (pages : List Page)
      → start.before ≡ first → HasPages (now (d.trail mid.disk)).reads (base + STORE_SECTORS) pages → AreGood pages
      → AreTurns start [] pages → end_of_pages (base + STORE_SECTORS) pages ≡ told.next
      → k ≤ first + length (all_deeds pages) → X start pages) → X start pages
  way_there X ways =
      let counted : start.before + length (all_deeds pages) ≡ told.before = has.counted in
      ways (still.left.disk.device.still honest) start pages (sym first_is)
      (subst (λ x. HasPages x (base + STORE_SECTORS) pages) (sym (still_reads d still quiet honest))
      (told_pages has base is))
      has.good has.turns (told_end has base is) (omega (arith, first_is, counted, high))

  -- it leads to what the desktop was then
  pub way_gone : {E : Type 0} (e : Ghosts E) {far : StoreView D} → IsOnlyReadFrom d mid far
      → (legs : List Leg) (from : Origin)
      (found : Option (StoreView E)) → (d.honest mid.disk → (start : Start) (pages : List Page) → start.before ≡ first
      → HasPages (now (d.trail mid.disk)).reads (base + STORE_SECTORS) pages → AreGood pages → AreTurns start [] pages
      → end_of_pages (base + STORE_SECTORS) pages ≡ told.next → k ≤ first + length (all_deeds pages)
      → IsWay (now (d.trail mid.disk)).reads told.next start (all_deeds pages) k legs from)
      → (d.honest far.disk → (start : Start) → HasStart (now (d.trail far.disk)).reads start → start.base ≡ base
      → (deeds : List PastDeed) (k : ℕ) → IsWay (now (d.trail far.disk)).reads told.next start deeds k legs from
      → IsSomeAnd found (ShowsCopy e (moment start deeds k)))
      → IsSomeAnd found (ShowsCopy e (moment start (all_deeds pages) k))
  way_gone e {far = far} more legs from found ways led =
      let both : IsOnlyReadFrom d old far = still_both d still more in
      let reads = still_reads d both quiet honest in
      led (both.left.disk.device.still honest) start (subst (λ x. HasStart x start) (sym reads) has.written.0) is
      (all_deeds pages) k
      (subst (λ x. IsWay x told.next start (all_deeds pages) k legs from) (still_reads d still quiet honest ∙ sym reads)
      (way_there (λ s p. IsWay (now (d.trail mid.disk)).reads told.next s (all_deeds p) k legs from) ways))

-- ---- from where a way goes, and to where

pub start_shown : {E : Type 0} (e : Ghosts E) {c : Content} {start : Start} (has : HasStart c start) {was : Desktop}
    {shown : StoreView E} → was ≡ start.desktop → ShowsNow e has.standing shown → ShowsCopy e was shown
start_shown e has same shows = record {
  usable = shows.usable;
  honest = shows.honest;
  desktop = shows.desktop ∙ has.is ∙ sym same;
}

pub led_to : {E : Type 0} (e : Ghosts E) {c : Content} {end : ℕ} {start : Start} {deeds : List PastDeed} {k : ℕ}
    {legs : List Leg} {from : Origin} {shown new : StoreView E} (way : IsWay c end start deeds k legs from)
    → ShowsCopy e way.was shown → IsLed e way.done shown new → ShowsCopy e (moment start deeds k) new
led_to e way shows led = record {
  usable = led.usable shows.usable;
  honest = led.still shows.honest;
  desktop = led.desktop shows.honest ∙ ap (λ x. after_deeds x way.done) shows.desktop ∙ sym way.leads;
}
