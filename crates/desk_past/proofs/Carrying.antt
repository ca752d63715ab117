-- Pages stay where no sector of theirs is touched, and what becomes of a past.
use Rattle.std.proofs.Common.{◌≡◌, ◌+◌, ◌^◌, ◌<◌, ◌≤◌, ℕ, List, [], ◌∷◌, ◌++◌, length, refl, sym, ◌∙◌, ap}
use Rattle.std.proofs.Common.{arith, false, length-append}
use Rattle.std.specs.Prelude.{get_or}
use Rattle.sector_disk.specs.Stored.{HoldsBytes, last_sector}
use Rattle.sector_disk.specs.Trail.{Content, Trail, now, LeavesOnly, Touches}
use Rattle.store_layout.specs.declared.layout.TheConstants.{STORE_SECTORS}
use Rattle.store_layout.specs.declared.layout.TheConstants.{LAYOUT}
use Rattle.store_layout.specs.declared.head.PastEnd.{PastEnd}
use Rattle.store_layout.specs.Meaning.{IsJournal, Standing, Stands}
use Rattle.store_layout.proofs.StandingLaws.{journal_short}
use Rattle.desk_journal.proofs.Aside.{stands_behind}
use Rattle.event_bytes.specs.declared.event.Event.{Event}
use Rattle.past_pages.specs.Page.{Page, page_body, page_count, behind_length, page_kind, number}
use Rattle.past_pages.specs.Page.{page_bytes, page_sectors, page_version, AreEvents, IsGoodPage, journal_of}
use Rattle.desk_past.specs.Past.{HasPages, end_of_pages, AreGood, HoldsPast, HasStart, HoldsPages, Start, first_page}

held_stays : (c c' : Content) (at : ℕ) (bytes : List ℕ)
    → ((k : ℕ) → k ≤ last_sector (length bytes) → c' (at + k) ≡ c (at + k))
    → HoldsBytes c at bytes → HoldsBytes c' at bytes
held_stays c c' at bytes same held = λ k j low small. ap (λ b. get_or b j 0) (same k low) ∙ held k j low small

pub end_above : (pages : List Page) (at : ℕ) → at ≤ end_of_pages at pages
end_above [] at = omega arith
end_above (p ∷ pages) at = let far = end_above pages (at + page_sectors p) in omega (arith, far)

-- pages rest on the sectors from the first one to the one before the end
pub pages_stay : (pages : List Page) (c c' : Content) (at : ℕ)
    → ((n : ℕ) → at ≤ n → n < end_of_pages at pages → c' n ≡ c n) → HasPages c at pages → HasPages c' at pages
pages_stay [] c c' at same has = tt
pages_stay (p ∷ pages) c c' at same has =
    let far = end_above pages (at + page_sectors p) in (
      held_stays c c' at (page_bytes p) (λ k low. same (at + k) (omega arith) (omega (arith, low, far))) has.0,
      pages_stay pages c c' (at + page_sectors p) (λ n low high. same n (omega (arith, low)) high) has.1,
    )

-- one page more
pub end_on : (pages : List Page) (at : ℕ) (p : Page) → end_of_pages at (pages ++ p ∷ []) ≡ end_of_pages at
    pages + page_sectors p
end_on [] at p = refl
end_on (q ∷ pages) at p = end_on pages (at + page_sectors q) p

pub pages_on : (pages : List Page) (c : Content) (at : ℕ) (p : Page) → HasPages c at pages
    → HoldsBytes c (end_of_pages at pages) (page_bytes p) → HasPages c at (pages ++ p ∷ [])
pages_on [] c at p has held = (held, tt)
pages_on (q ∷ pages) c at p has held = (has.0, pages_on pages c (at + page_sectors q) p has.1 held)

-- more pages
pub end_both : (pages more : List Page) (at : ℕ) → end_of_pages at (pages ++ more) ≡ end_of_pages
    (end_of_pages at pages) more
end_both [] more at = refl
end_both (q ∷ pages) more at = end_both pages more (at + page_sectors q)

pub pages_both : (pages more : List Page) (c : Content) (at : ℕ) → HasPages c at pages
    → HasPages c (end_of_pages at pages) more → HasPages c at (pages ++ more)
pages_both [] more c at has held = held
pages_both (q ∷ pages) more c at has held = (has.0, pages_both pages more c (at + page_sectors q) has.1 held)

-- a start rests on the sectors of its store
start_stays : (c c' : Content) (start : Start)
    → ((n : ℕ) → start.base ≤ n → n < first_page start → c' n ≡ c n) → HasStart c start → HasStart c' start
start_stays c c' start same has = record {
  standing = has.standing;
  stands = stands_behind (λ n. c (start.base + n)) (λ n. c' (start.base + n)) has.standing has.stands
      (λ n low. same (start.base + n) (omega arith) (omega (arith, low)));
  is = has.is;
  counted = has.counted;
}

-- and both on the sectors from the first one of the start to the one before the end
pub written_stays : (pages : List Page) (c c' : Content) (start : Start)
    → ((n : ℕ) → start.base ≤ n → n < end_of_pages (first_page start) pages → c' n ≡ c n) → HoldsPages c start pages
    → HoldsPages c' start pages
written_stays pages c c' start same has =
    let far = end_above pages (first_page start) in (
      start_stays c c' start (λ n low high. same n low (omega (arith, high, far))) has.0,
      pages_stay pages c c' (first_page start) (λ n low high. same n (omega (arith, low)) high) has.1,
    )

-- at each moment a crash leaves them, where no sector of theirs is touched
pub written_kept : {area : ℕ → Type 0} {old new : Trail} (pages : List Page) (start : Start)
    → STORE_SECTORS ≤ start.base
    → ((n : ℕ) → STORE_SECTORS ≤ n → (now old).pending n ≡ false) → Touches area old new
    → ((n : ℕ) → start.base ≤ n → n < end_of_pages (first_page start) pages → ¬ area n)
    → HoldsPages (now old).reads start pages
    → LeavesOnly old new (λ c. HoldsPages c start pages)
written_kept {old = old} pages start far quiet run out has = record {
  later = run.later;
  kept = run.kept;
  each = λ t above below c image. written_stays pages (now old).reads c start
      (λ n low high. image n (run.settled t above below n (out n low high) (quiet n (omega (arith, low, far))))
      ∙ run.reads t above below n (out n low high)) has;
}

-- one page more
pub written_on : (pages : List Page) (c : Content) (start : Start) (p : Page) → HoldsPages c start pages
    → HoldsBytes c (end_of_pages (first_page start) pages) (page_bytes p) → HoldsPages c start (pages ++ p ∷ [])
written_on pages c start p has held = (has.0, pages_on pages c (first_page start) p has.1 held)

-- more pages
pub written_both : (pages more : List Page) (c : Content) (start : Start) → HoldsPages c start pages
    → HasPages c (end_of_pages (first_page start) pages) more → HoldsPages c start (pages ++ more)
written_both pages more c start has held = (has.0, pages_both pages more c (first_page start) has.1 held)

-- two facts of each image
pub both_leave : {P Q : Content → Type 0} {old new : Trail} → LeavesOnly old new P → LeavesOnly old new Q
    → LeavesOnly old new (λ c. P c × Q c)
both_leave first second = record {
  later = first.later;
  kept = first.kept;
  each = λ t above below c image. (first.each t above below c image, second.each t above below c image);
}

-- a standing whose head tells the same, from the same start, has the same past
pub past_of : {size size' : ℕ} {start : Start} {s : Standing} {pages : List Page} {c c' : Content} (t : Standing)
    → HoldsPast size start s pages c → t.past ≡ s.past → t.start ≡ s.start → t.version ≡ s.version → size' ≡ size
    → Stands size' c' t → HoldsPages c' start pages → HoldsPast size' start t pages c'
past_of t past told start_is version large stands written = record {
  stands = stands;
  newest = version ∙ past.newest;
  written = written;
  good = past.good;
  turns = past.turns;
  up_to = past.up_to ∙ sym (ap (λ (p : PastEnd). p.next) told);
  room = let same = ap (λ (p : PastEnd). p.next) told in omega (arith, past.room, large, same);
  counted = past.counted ∙ sym (ap (λ (p : PastEnd). p.before) told);
  leads = past.leads ∙ sym start_is;
}

-- all pages but the last
pages_front : (pages : List Page) (c : Content) (at : ℕ) (p : Page) → HasPages c at (pages ++ p ∷ [])
    → HasPages c at pages
pages_front [] c at p has = tt
pages_front (q ∷ pages) c at p has = (has.0, pages_front pages c (at + page_sectors q) p has.1)

pub written_front : (pages : List Page) (c : Content) (start : Start) (p : Page) → HoldsPages c start (pages ++ p ∷ [])
    → HoldsPages c start pages
written_front pages c start p has = (has.0, pages_front pages c (first_page start) p has.1)

-- all pages before some
pages_before : (pages more : List Page) (c : Content) (at : ℕ) → HasPages c at (pages ++ more) → HasPages c at pages
pages_before [] more c at has = tt
pages_before (q ∷ pages) more c at has = (has.0, pages_before pages more c (at + page_sectors q) has.1)

pub written_before : (pages more : List Page) (c : Content) (start : Start) → HoldsPages c start (pages ++ more)
    → HoldsPages c start pages
written_before pages more c start has = (has.0, pages_before pages more c (first_page start) has.1)

-- the events of a journal can be spelled
journal_valid : (events : List Event) (c : Content) (slot k : ℕ) → IsJournal c slot k events → AreEvents events
journal_valid [] c slot k journal = tt
journal_valid (e ∷ events) c slot k journal = (journal.2.valid, journal_valid events c slot (k + 1) journal.3)

-- events are spelled in fewer bytes than their page has
behind : (a b : List ℕ) → length b ≤ length (a ++ b)
behind a b = omega (arith, length-append a b)

spelled_short : (p : Page) → length (page_body p) ≤ length (page_bytes p)
spelled_short p =
    let spelled = behind (number (length (page_body p))) (page_body p) in
    let some = behind (number (page_count p)) (behind_length (page_body p)) in
    let version = behind (number (page_version p)) (number (page_count p) ++ behind_length (page_body p)) in
    let all = behind (number (page_kind p)) (number (page_version p) ++
    (number (page_count p) ++ behind_length (page_body p))) in
    omega (arith, spelled, some, version, all)

pub good_journal : {size : ℕ} (c : Content) (s : Standing) → Stands size c s → s.version ≡ LAYOUT
    → length (page_bytes (journal_of s)) < 2 ^ 32 → IsGoodPage (journal_of s)
good_journal c s was newest short = record {
  newest = newest;
  few = let few = journal_short s.events c s.slot 0 (omega arith) was.journal in omega (arith, few);
  short = let less = spelled_short (journal_of s) in omega (arith, short, less);
  valid = journal_valid s.events c s.slot 0 was.journal;
}

pub good_on : (pages : List Page) (p : Page) → AreGood pages → IsGoodPage p → AreGood (pages ++ p ∷ [])
good_on [] p good last = (last, tt)
good_on (q ∷ pages) p good last = (good.0, good_on pages p good.1 last)

pub good_both : (pages more : List Page) → AreGood pages → AreGood more → AreGood (pages ++ more)
good_both [] more good last = last
good_both (q ∷ pages) more good last = (good.0, good_both pages more good.1 last)
