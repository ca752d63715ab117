-- How far a past reaches. `d` is what is known of a disk.
use Rattle.std.proofs.Common.{◌≡◌, ◌+◌, ◌-◌, ◌<◌, ◌≤◌, ◌^◌, ℕ, List, false, length, refl, sym, ◌∙◌, ap, subst, arith}
use Rattle.std.specs.Prelude.{IsSomeAnd}
use Rattle.std.specs.declared.option.Option.{Option}
use Rattle.sector_disk.specs.declared.disk.Disk.{Ghosts}
use Rattle.sector_disk.specs.Trail.{now}
use Rattle.desktop_definitions.specs.Desktop.{Desktop}
use Rattle.store_layout.specs.Finding.{StandingLaw}
use Rattle.store_layout.specs.declared.layout.TheConstants.{STORE_SECTORS}
use Rattle.desk_journal.specs.View.{StoreView}
use Rattle.past_pages.specs.declared.parts.Part.{Part}
use Rattle.past_pages.specs.Parts.{IsPastPart}
use Rattle.past_pages.specs.Reading.{IsOnlyReadFrom, IsQuiet}
use Rattle.past_pages.proofs.StillReads.{still_shows}
use Rattle.desk_past.specs.Deeds.{PastDeed}
use Rattle.desk_past.specs.Going.{LiesInPart}
use Rattle.desk_past.specs.Past.{HasPages, end_of_pages, HasMoment, KeepsAll, Start}
use Rattle.desk_past.proofs.Opened.{pages_end, pages_there, start_room}
use Rattle.desk_past.specs.Turning.{PastOf}
use Rattle.desk_past.proofs.Remembering.{read_keeps}
use Rattle.desk_past.proofs.TurnedBack.{past_behind}
use Rattle.told_pasts.specs.Reaching.{HasCountable, HasReach, IsReach}
use Rattle.told_pasts.specs.declared.reach.Reach.{Reach}

-- the moment before the last deeds
pub has_before : (start : Start) (deeds : List PastDeed) (count k : ℕ) → k ≡ start.before + length deeds - count
    → count ≤ length deeds → HasMoment start deeds k
has_before start deeds count k is low = record { low = omega (arith, is, low); high = omega (arith, is, low) }

module _ {D : Type 0} (d : Ghosts D) {start : Start} {deeds : List PastDeed} {desktop : Desktop} {store : StoreView D}
    (keeps : KeepsAll d start deeds desktop store) where
  -- the part of the past is found
  pub part_found : (lies : LiesInPart d keeps) (found : Option Part) (sectors next : ℕ)
      → ((base end : ℕ) → IsPastPart sectors base end → base + STORE_SECTORS ≤ next → next ≤ end
      → IsSomeAnd found (λ part. (part.base ≡ base) × (part.end ≡ end)))
      → sectors ≡ d.size store.disk → next ≡ keeps.remembers.standing.past.next
      → IsSomeAnd found (λ part. (part.base ≡ start.base) × (part.end ≡ lies.end))
  part_found lies found sectors next all large is =
      let room = start_room d keeps start.base refl in
      all start.base lies.end (subst (λ n. IsPastPart n start.base lies.end) (sym large) lies.part)
      (omega (arith, room, is)) (omega (arith, lies.within, is))

  -- its numbers stay where it is only read
  pub reach_still : StandingLaw → (honest : d.honest store.disk) (quiet : IsQuiet d store) {new : StoreView D}
      (still : IsOnlyReadFrom d store new) (reach : Reach) → IsReach d keeps reach
      → IsReach d (read_keeps d keeps honest quiet {new = new} still.left.disk still.usable) reach
  reach_still law honest quiet {new = new} still reach is =
      let after = (read_keeps d keeps honest quiet {new = new} still.left.disk still.usable).remembers in
      let s = keeps.remembers.standing in
      let same : s ≡ after.standing = law (d.size new.disk) (now (d.trail new.disk)).reads s after.standing
      (still_shows d still quiet honest s keeps.remembers.past.stands) after.past.stands in
      record {
        base = is.base;
        next = is.next ∙ ap (λ x. x.past.next) same;
        before = is.before ∙ ap (λ x. x.past.before) same;
        journal = is.journal ∙ ap (λ x. length x.events) same;
      }

-- the numbers of a past, and where its first page stands
abbrev pub has_reach : {D : Type 0} (d : Ghosts D) {store : StoreView D} {reach : Reach} {first : ℕ}
    (past : PastOf d store) → IsReach d past.keeps reach → first ≡ reach.part.base + STORE_SECTORS
    → HasReach d store reach first
has_reach d past told at = record { past = past; numbers = told; at = at ∙ ap (λ n. n + STORE_SECTORS) told.base }

-- ---- behind a call that only reads

module _ {D : Type 0} (d : Ghosts D) {old mid : StoreView D} (still : IsOnlyReadFrom d old mid)
    (quiet : old.must_reopen ≡ false → d.honest old.disk → IsQuiet d old) where
  abbrev pub reach_behind : StandingLaw → {reach : Reach} {first : ℕ} → HasReach d old reach first
      → HasReach d mid reach first
  reach_behind law {reach = reach} h = record {
    past = past_behind d still quiet h.past;
    numbers = reach_still d h.past.keeps law h.past.honest (quiet h.past.keeps.usable h.past.honest) {new = mid} still
        reach h.numbers;
    at = h.at;
  }

-- ---- pages of a past

module _ {D : Type 0} (d : Ghosts D) {store : StoreView D} {reach : Reach} {first : ℕ}
    (h : HasReach d store reach first) where
  pub its_pages : HasPages (now (d.trail store.disk)).reads first h.past.keeps.remembers.pages
  its_pages = subst (λ n. HasPages (now (d.trail store.disk)).reads n h.past.keeps.remembers.pages) (sym h.at)
      (pages_there d h.past.keeps h.past.start.base refl)

  pub its_end : end_of_pages first h.past.keeps.remembers.pages ≡ reach.next
  its_end = ap (λ n. end_of_pages n h.past.keeps.remembers.pages) h.at
      ∙ pages_end d h.past.keeps h.past.start.base refl ∙ sym h.numbers.next

  pub its_room : reach.next ≤ d.size store.disk
  its_room = let room = h.past.keeps.remembers.past.room in
      let is = h.numbers.next in
      omega (arith, room, is)

  -- they can be counted
  abbrev pub its_count : (before : ℕ) → before ≡ reach.before → before < 2 ^ 64 → HasCountable d store first reach.next
  its_count before is few = record {
    usable = h.past.keeps.usable;
    honest = h.past.honest;
    pages = h.past.keeps.remembers.pages;
    written = its_pages;
    good = h.past.keeps.remembers.past.good;
    up_to = its_end;
    room = its_room;
    few = let counted = h.past.keeps.remembers.past.counted in
        let told = h.numbers.before in
        omega (arith, counted, told, is, few);
  }
