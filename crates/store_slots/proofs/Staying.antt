-- Characters and sectors in memory, over a disk that is written elsewhere.
use Rattle.std.proofs.Common.{◌≡◌, inl, inr, ◌+◌, ◌<◌, ◌≤◌, ℕ, refl, sym, ◌∙◌, ap, subst, arith, true, false}
use Rattle.sector_disk.specs.declared.disk.Disk.{Ghosts}
use Rattle.sector_disk.specs.Confined.{IsConfined}
use Rattle.sector_disk.specs.Trail.{Trail, now, Nowhere, Touches}
use Rattle.sector_disk.proofs.Touching.{still_reads}
use Rattle.char_pages.specs.declared.pages.Pages.{Pages}
use Rattle.char_pages.specs.Pages.{base_of, saved_of, saved_sectors, renewed_of, paged_characters}
use Rattle.char_pages.proofs.Paging.{paged_on, told_on}
use Rattle.desktop_definitions.specs.declared.reply.Reply.{Reply}
use Rattle.desktop_definitions.specs.Desktop.{Desktop, KeptDesktop}
use Rattle.desktop_definitions.specs.Seen.{seen}
use Rattle.desktop_definitions.specs.Step.{Outcome, outcome_of}
use Rattle.desktop_definitions.specs.Viewers.{text_of}
use Rattle.screen_cells.specs.declared.lines.KeptLines.{KeptLines}
use Rattle.screen_cells.specs.Lines.{AreLinesOf}
use Rattle.store_layout.specs.declared.layout.TheConstants.{AREAS, JOURNAL_EVENTS, SLOTS}
use Rattle.store_layout.specs.Layout.{area_start}
use Rattle.store_layout.specs.Kept.{InCheckpoint, chosen_area}
use Rattle.store_slots.specs.declared.live.LiveDesktop.{LiveDesktop}
use Rattle.store_slots.specs.declared.place.SlotPlace.{SlotPlace}
use Rattle.store_slots.specs.Live.{AreTrueOver, HasTrueCache, seen_live, IsLive, IsOverPages, LooksThrough, StaysLive}
use Rattle.store_slots.proofs.Settled.{over_as_long}
use Rattle.store_slots.specs.Written.{ContinuesArea, InRecord, InRenewal}

-- the sectors of the first characters aren't in the area
abbrev pub IsApart : (ℕ → Type 0) → Pages → Type 0
IsApart area p = (n : ℕ) → base_of p ≤ n → n < base_of p + saved_sectors p → ¬ area n

-- they are the same characters
pub characters_stay : {area : ℕ → Type 0} (old new : Trail) (p : Pages) → Touches area old new → IsApart area p
    → paged_characters (now new).reads p ≡ paged_characters (now old).reads p
characters_stay old new p run apart = paged_on (now old).reads (now new).reads p.base p.saved p.rest.items p.whole
    (λ n from to. still_reads old new run n (apart n from to))

-- so the desktop shows the same
pub shown_stays : {area : ℕ → Type 0} (old new : Trail) (live : LiveDesktop) → Touches area old new
    → IsApart area live.pages → seen_live (now new).reads live ≡ seen_live (now old).reads live
shown_stays old new live run apart = ap (λ l. seen l live.desktop) (characters_stay old new live.pages run apart)

-- beside a reply too
pub answer_stays : {now mid : Desktop} {reply : Reply} {answer : Outcome} → now ≡ mid → outcome_of mid reply ≡ answer
    → outcome_of now reply ≡ answer
answer_stays {reply = reply} same is = ap (λ d. outcome_of d reply) same ∙ is

-- and what is in memory of the disk is still so
pub told_stays : {D : Type 0} (d : Ghosts D) {area : ℕ → Type 0} {disk disk' : D} (p : Pages)
    → IsConfined d.size d.honest d.trail area disk disk' → IsApart area p → AreTrueOver d disk p
    → AreTrueOver d disk' p
told_stays d {disk = disk} {disk' = disk'} p run apart told = λ honest.
    told_on p (λ n from to. still_reads (d.trail disk) (d.trail disk') (run.moments (run.already honest)) n
    (apart n from to)) (told (run.already honest))

-- nothing of it is touched where nothing is written
pub apart_nowhere : (p : Pages) → IsApart Nowhere p
apart_nowhere p n from to within = within

-- lines that are kept are so still where the desktop shows the same
pub lines_stay : {D : Type 0} (d : Ghosts D) {area : ℕ → Type 0} {disk disk' : D} (old new : LiveDesktop)
    → IsConfined d.size d.honest d.trail area disk disk'
    → (d.honest disk → seen_live (now (d.trail disk')).reads new ≡ seen_live (now (d.trail disk)).reads old)
    → new.lines ≡ old.lines → HasTrueCache d disk old → AreTrueOver d disk' new.pages → HasTrueCache d disk' new
lines_stay d {disk = disk} {disk' = disk'} old new run same kept told pages = record {
  pages = pages;
  lines = λ honest. let before = run.already honest in
      subst (λ (x : Desktop). AreLinesOf (text_of x) new.lines) (sym (same before))
      (subst (λ (l : KeptLines). AreLinesOf (text_of (seen_live (now (d.trail disk)).reads old)) l) (sym kept)
      (told.lines before));
}

-- a desktop of which nothing is written to the disk
pub live_stays : {D : Type 0} (d : Ghosts D) {area : ℕ → Type 0} {disk disk' : D} (live : LiveDesktop)
    → IsConfined d.size d.honest d.trail area disk disk' → IsApart area live.pages → HasTrueCache d disk live
    → HasTrueCache d disk' live
live_stays d {disk = disk} {disk' = disk'} live run apart told =
    lines_stay d live live run
    (λ honest. shown_stays (d.trail disk) (d.trail disk') live (run.moments honest) apart) refl told
    (told_stays d live.pages run apart told.pages)

-- It was looked at: its characters are the same, and the lines that it keeps are so, if they were.
pub looks_stay : {D : Type 0} (d : Ghosts D) {disk disk' : D} (old new : LiveDesktop)
    → LooksThrough d disk disk' old.pages new.pages → new.desktop ≡ old.desktop → new.area ≡ old.area
    → (d.honest disk → AreLinesOf (text_of (seen_live (now (d.trail disk)).reads old)) old.lines
    → AreLinesOf (text_of (seen_live (now (d.trail disk)).reads old)) new.lines)
    → IsLive old → HasTrueCache d disk old → StaysLive d disk disk' old new
looks_stay d {disk = disk} {disk' = disk'} old new looks kept area lines live told =
    record {
      shown_same = looked;
      kept_same = kept;
      area_same = area;
      renewed_before = looks.reads.before;
      place_same = looks.reads.counted;
      told = record {
        pages = looks.reads.told;
        lines = λ honest. let first = looks.reads.confined.already honest in
            subst (λ (x : Desktop). AreLinesOf (text_of x) new.lines) (sym (looked first))
            (lines first (told.lines first));
      };
      live = record {
        over = subst (λ (x : KeptDesktop). IsOverPages new.pages x) (sym kept)
            (over_as_long old.pages new.pages old.desktop (now (d.trail disk)).reads (now (d.trail disk')).reads
            live.over looks.long);
        low = subst (λ n. n < AREAS) (sym area) live.low;
        based = looks.reads.base ∙ live.based ∙ ap area_start (sym area);
      };
    }
  where
    looked : d.honest disk → seen_live (now (d.trail disk')).reads new ≡ seen_live (now (d.trail disk)).reads old
    looked honest = λ i. seen (looks.same honest i) (kept i)

-- nothing was done
pub stays_so : {D : Type 0} (d : Ghosts D) {disk : D} (live : LiveDesktop) → IsLive live → HasTrueCache d disk live
    → StaysLive d disk disk live live
stays_so d live is told = record {
  shown_same = λ honest. refl;
  kept_same = refl;
  area_same = refl;
  renewed_before = λ not. not;
  place_same = λ not. refl;
  told = told;
  live = is;
}

-- after a look the disk was read once more, for something else
pub stays_on : {D : Type 0} (d : Ghosts D) {disk mid disk' : D} (old new : LiveDesktop)
    → IsConfined d.size d.honest d.trail Nowhere disk mid → IsConfined d.size d.honest d.trail Nowhere mid disk'
    → StaysLive d disk mid old new → StaysLive d disk disk' old new
stays_on d {mid = mid} {disk' = disk'} old new first second stays = record {
  shown_same = λ honest. shown_stays (d.trail mid) (d.trail disk') new (second.moments (first.still honest))
      (apart_nowhere new.pages) ∙ stays.shown_same honest;
  kept_same = stays.kept_same;
  area_same = stays.area_same;
  renewed_before = stays.renewed_before;
  place_same = stays.place_same;
  told = live_stays d new second (apart_nowhere new.pages) stays.told;
  live = stays.live;
}

-- ---- what is written while the first characters stand at the front of an area

pub apart_record : (p : Pages) (area slot k : ℕ) → base_of p ≡ area_start area → slot < SLOTS → k < JOURNAL_EVENTS
    → IsApart (InRecord slot k) p
apart_record p area slot k based low index n from to within = elim within [
  | inl (inl a) ↦ omega (arith, based, from, a, low, index)
  | inl (inr a) ↦ omega (arith, based, from, a.0, low, index)
  | inr a ↦ omega (arith, based, from, a, low, index)
]

-- where some stand there, a checkpoint goes on in their area
pub goes_on : (live : LiveDesktop) (place : SlotPlace) → IsLive live → ContinuesArea place live → 0 < saved_of live.pages
    → base_of live.pages ≡ area_start place.area
goes_on live place is goes some = is.based
    ∙ ap (λ k. area_start k) (sym (goes.area_is ∙ (elim (renewed_of live.pages) as
    (λ b. renewed_of live.pages ≡ b → chosen_area b live.area ≡ live.area) [
      | true ↦ λ anew. absurd (let none = live.pages.anew anew in omega (arith, some, none))
      | false ↦ λ not. refl
    ]) refl))

apart_checkpoint : (p : Pages) (slot own area saved : ℕ) → base_of p ≡ area_start own
    → (0 < saved_of p → base_of p ≡ area_start area) → slot < SLOTS → saved ≡ saved_sectors p
    → IsApart (InCheckpoint slot area saved) p
apart_checkpoint p slot own area saved based goes low is n from to within = elim within [
  | inl (inl a) ↦ omega (arith, based, from, a, low)
  | inl (inr (inl a)) ↦ omega (arith, based, from, a, low)
  | inl (inr (inr a)) ↦ omega (arith, based, from, a.1, low)
  | inr a ↦ (let some : 0 < saved_of p = omega (arith, from, to) in omega (arith, goes some, is, to, a.0))
]

pub apart_renewal : (live : LiveDesktop) (place : SlotPlace) → IsLive live → ContinuesArea place live
    → IsApart (InRenewal place) live.pages
apart_renewal live place is goes n from to within = elim within [
  | inl a ↦ omega (arith, is.based, from, a, place.two)
  | inr a ↦ apart_checkpoint live.pages place.slot live.area place.area place.saved is.based
      (goes_on live place is goes) place.two goes.saved_is n from to a
]
