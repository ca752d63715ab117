-- A store with a past whose desktop is exchanged by one deed: an import, or a turn. `d` is what is known of a disk.
use Rattle.std.proofs.Common.{◌≡◌, ◌⊎◌, inl, inr, ◌+◌, ◌-◌, ◌*◌, ◌^◌, ◌<◌, ◌≤◌, ℕ, List, [], ◌∷◌, ◌++◌, length, refl}
use Rattle.std.proofs.Common.{sym, ◌∙◌, ap}
use Rattle.std.proofs.Common.{subst, arith, false, length-append}
use Rattle.std.specs.Prelude.{get_or, replicate}
use Rattle.std.proofs.lemmas.Bool.{cases_lt}
use Rattle.std.proofs.lemmas.List.{append-nil, get_or_append_left, get_or-append-add, get_or-replicate, get_or_past}
use Rattle.std.proofs.lemmas.List.{length-replicate}
use Rattle.sector_disk.specs.declared.disk.Disk.{Ghosts}
use Rattle.sector_disk.specs.declared.disk.TheConstants.{SECTOR_BYTES}
use Rattle.sector_disk.specs.Stored.{HoldsBytes, last_sector}
use Rattle.sector_disk.specs.Trail.{Content, now, LeavesOnly}
use Rattle.sector_disk.proofs.Touching.{at_last, read_is_an_image, weakened}
use Rattle.desktop_definitions.specs.Desktop.{Desktop}
use Rattle.store_layout.specs.declared.head.PastEnd.{PastEnd}
use Rattle.store_layout.specs.Meaning.{Standing, Stands, desktop_of}
use Rattle.store_slots.specs.Written.{anew_from}
use Rattle.desk_journal.specs.Behind.{GoesToNextWith, LeavesNextWith, StaysBehind}
use Rattle.desk_journal.specs.View.{StoreView}
use Rattle.past_pages.specs.Reading.{IsQuiet}
use Rattle.past_pages.specs.Page.{Page, page_bytes, page_sectors, IsGoodPage, journal_of}
use Rattle.past_pages.proofs.PageReads.{page_long}
use Rattle.desk_past.specs.Ahead.{CanAdd, IsAhead, padded, pages_added, two_pages}
use Rattle.desk_past.specs.Deeds.{PastDeed, after_deed, after_deeds, all_posted}
use Rattle.desk_past.specs.Past.{HasPages, deeds_in, end_of_pages}
use Rattle.desk_past.specs.Past.{AreGood, AreTurns, HoldsPages, IsTurn, KeepsAll, Remembers, Start}
use Rattle.desk_past.specs.Past.{all_deeds, first_page}
use Rattle.desk_past.proofs.Carrying.{both_leave, good_journal, written_kept}
use Rattle.desk_past.proofs.Moments.{after_both, joined, many_posted, stepped_on}
use Rattle.desk_past.proofs.Remembering.{remembers_on}
use Rattle.desk_past.proofs.Turns.{turns_both}

-- ---- two pages, each from the beginning of a sector

module _ (p q : Page) where
  abbrev zeros : List ℕ
  zeros = replicate (SECTOR_BYTES * page_sectors p - length (page_bytes p)) 0

  wide : length (page_bytes p) ≤ SECTOR_BYTES * page_sectors p
  wide = omega arith

  padded_long : length (padded (page_sectors p) (page_bytes p)) ≡ SECTOR_BYTES * page_sectors p
  padded_long = omega (
    arith,
    wide,
    length-append (page_bytes p) zeros,
    length-replicate {A = ℕ} (SECTOR_BYTES * page_sectors p - length (page_bytes p)) 0,
  )

  both_long : length (two_pages p q) ≡ SECTOR_BYTES * page_sectors p + length (page_bytes q)
  both_long = omega (arith, padded_long, length-append (padded (page_sectors p) (page_bytes p)) (page_bytes q))

  -- behind its bytes the first one has zeros
  in_zeros : (k : ℕ) → length (page_bytes p) + k < SECTOR_BYTES * page_sectors p
      → get_or (page_bytes p ++ zeros) (length (page_bytes p) + k) 0 ≡ 0
  in_zeros k low = get_or-append-add (page_bytes p) zeros k 0
      ∙ get_or-replicate (SECTOR_BYTES * page_sectors p - length (page_bytes p)) k 0 0 (omega (arith, low))

  behind_first : (i k : ℕ) → i ≡ length (page_bytes p) + k → i < SECTOR_BYTES * page_sectors p
      → get_or (page_bytes p ++ zeros) i 0 ≡ get_or (page_bytes p) i 0
  behind_first i k place low = ap (λ n. get_or (page_bytes p ++ zeros) n 0) place
      ∙ in_zeros k (omega (arith, low, place))
      ∙ sym (get_or_past (page_bytes p) i 0 (omega (arith, place)))

  in_padded : (i : ℕ) → i < SECTOR_BYTES * page_sectors p
      → get_or (page_bytes p ++ zeros) i 0 ≡ get_or (page_bytes p) i 0
  in_padded i low = elim (cases_lt i (length (page_bytes p))) [
    | inl less ↦ get_or_append_left (page_bytes p) zeros 0 i less
    | inr least ↦ behind_first i (i - length (page_bytes p)) (omega (arith, least)) low
  ]

  in_first : (i : ℕ) → i < SECTOR_BYTES * page_sectors p
      → get_or (two_pages p q) i 0 ≡ get_or (page_bytes p) i 0
  in_first i low = get_or_append_left (padded (page_sectors p) (page_bytes p)) (page_bytes q) 0 i
      (omega (arith, low, padded_long))
      ∙ in_padded i low

  pub held_both : (c : Content) (at : ℕ) → HoldsBytes c at (two_pages p q) → HasPages c at (p ∷ q ∷ [])
  held_both c at held = (
    λ k j low small. held k j (omega (arith, low, both_long, page_long q)) small
        ∙ in_first (SECTOR_BYTES * k + j) (omega (arith, low, small)),
    (
      λ k j low small.
          let there : at + (page_sectors p + k) ≡ at + page_sectors p + k = omega arith in
          let byte : SECTOR_BYTES * (page_sectors p + k) + j
          ≡ length (padded (page_sectors p) (page_bytes p)) + (SECTOR_BYTES * k + j) = omega (arith, padded_long) in
          sym (ap (λ n. get_or (c n) j 0) there)
          ∙ held (page_sectors p + k) j (omega (arith, low, both_long, page_long q)) small
          ∙ ap (λ n. get_or (two_pages p q) n 0) byte
          ∙ get_or-append-add (padded (page_sectors p) (page_bytes p)) (page_bytes q) (SECTOR_BYTES * k + j) 0,
      tt,
    ),
  )

-- ---- a past that goes on over one deed

-- pages behind others
end_both : (pages : List Page) (at : ℕ) (p q : Page)
    → end_of_pages at (pages ++ p ∷ q ∷ []) ≡ end_of_pages (end_of_pages at pages) (p ∷ q ∷ [])
end_both [] at p q = refl
end_both (r ∷ pages) at p q = end_both pages (at + page_sectors r) p q

pages_both : (pages : List Page) (c : Content) (at : ℕ) (p q : Page) → HasPages c at pages
    → HasPages c (end_of_pages at pages) (p ∷ q ∷ []) → HasPages c at (pages ++ p ∷ q ∷ [])
pages_both [] c at p q has more = more
pages_both (r ∷ pages) c at p q has more = (has.0, pages_both pages c (at + page_sectors r) p q has.1 more)

deeds_both : (pages : List Page) (p q : Page)
    → all_deeds (pages ++ p ∷ q ∷ []) ≡ (all_deeds pages ++ deeds_in p) ++ deeds_in q
deeds_both [] p q = ap (λ l. deeds_in p ++ l) (append-nil (deeds_in q))
deeds_both (r ∷ pages) p q = ap (λ l. deeds_in r ++ l) (deeds_both pages p q)
    ∙ sym (joined (deeds_in r) (all_deeds pages ++ deeds_in p) (deeds_in q))
    ∙ ap (λ l. l ++ deeds_in q) (sym (joined (deeds_in r) (all_deeds pages) (deeds_in p)))

good_both : (pages : List Page) (p q : Page) → AreGood pages → IsGoodPage p → IsGoodPage q
    → AreGood (pages ++ p ∷ q ∷ [])
good_both [] p q good first second = (first, (second, tt))
good_both (r ∷ pages) p q good first second = (good.0, good_both pages p q good.1 first second)

-- the desktop behind a deed at the beginning of the next journal, in the other slot, whose head tells of this past
abbrev pub done_from : PastEnd → PastDeed → Standing → Standing
done_from past deed s = anew_from s (1 - s.slot) past (after_deed (desktop_of s) deed)

-- `p` is the page of the deed
module _ {size : ℕ} {start : Start} {deeds : List PastDeed} {desktop : Desktop} {c : Content}
    (r : Remembers size start deeds desktop c) (p : Page) (deed : PastDeed) (one : deeds_in p ≡ deed ∷ []) where
  abbrev two : List Page
  two = pages_added p r.standing

  all_there : all_deeds (r.pages ++ two) ≡ deeds ++ deed ∷ []
  all_there = deeds_both r.pages (journal_of r.standing) p ∙ (λ i. r.all i ++ one i)

  led_there : after_deeds start.desktop (all_deeds (r.pages ++ two)) ≡ after_deed (desktop_of r.standing) deed
  led_there = ap (after_deeds start.desktop) (deeds_both r.pages (journal_of r.standing) p)
      ∙ ap (λ l. after_deeds start.desktop ((all_deeds r.pages ++ all_posted r.standing.events) ++ l)) one
      ∙ after_both start.desktop (all_deeds r.pages ++ all_posted r.standing.events) (deed ∷ [])
      ∙ ap (λ x. after_deed x deed)
      (stepped_on start.desktop r.pages r.standing r.standing.events r.past.newest r.past.leads)

  turns_there : IsTurn start deeds p → AreTurns start [] (r.pages ++ two)
  turns_there turn = turns_both start r.pages (journal_of r.standing) p r.past.turns tt
      (subst (λ l. IsTurn start l p) (sym r.all) turn)

  remembers_done : {size' : ℕ} {c' : Content} (past : PastEnd) → size' ≡ size
      → end_of_pages r.standing.past.next two ≡ past.next → past.next ≤ size
      → r.standing.past.before + length r.standing.events + 1 ≡ past.before
      → length (page_bytes (journal_of r.standing)) < 2 ^ 32 → IsGoodPage p → IsTurn start deeds p
      → Stands size' c' (done_from past deed r.standing) → HoldsPages c' start (r.pages ++ two)
      → Remembers size' start (deeds ++ deed ∷ []) (after_deed desktop deed) c'
  remembers_done past large up_to room counted short good turn stands written = record {
    standing = done_from past deed r.standing;
    pages = r.pages ++ two;
    past = record {
      stands = stands;
      newest = refl;
      written = written;
      good = good_both r.pages (journal_of r.standing) p r.past.good
          (good_journal c r.standing r.past.stands r.past.newest short) good;
      turns = turns_there turn;
      up_to = end_both r.pages (first_page start) (journal_of r.standing) p
          ∙ ap (λ n. end_of_pages n two) r.past.up_to ∙ up_to;
      room = omega (arith, room, large);
      counted = let all = ap length all_there in
          let before = ap length r.all in
          omega (
            arith,
            all,
            before,
            length-append deeds (deed ∷ []),
            length-append (all_deeds r.pages) (all_posted r.standing.events),
            many_posted r.standing.events,
            r.past.counted,
            counted,
          );
      leads = led_there;
    };
    all = append-nil (all_deeds (r.pages ++ two)) ∙ all_there;
    is = ap (λ x. after_deed x deed) r.is;
  }

module _ {D : Type 0} (d : Ghosts D) {start : Start} {deeds : List PastDeed} {desktop : Desktop} (p : Page)
    (deed : PastDeed) (one : deeds_in p ≡ deed ∷ []) {old : StoreView D} (was : KeepsAll d start deeds desktop old)
    (turn : IsTurn start deeds p) {past : PastEnd} {from limit : ℕ} {bytes : List ℕ}
    (ahead : IsAhead d p past from limit bytes was) (honest : d.honest old.disk) (quiet : IsQuiet d old)
    (new : StoreView D) (within : StaysBehind d from limit old.disk new.disk) where
  abbrev both : List Page
  both = pages_added p was.remembers.standing

  kept_there : LeavesOnly (d.trail old.disk) (d.trail new.disk) (λ c. HoldsPages c start was.remembers.pages)
  kept_there = written_kept was.remembers.pages start was.behind (λ n far. quiet n) (within.moments honest)
      (λ n low high touched. elim touched [
        | inl store ↦ omega (arith, low, was.behind, store)
        | inr inside ↦ omega (arith, high, inside.0, ahead.at, was.remembers.past.up_to)
      ]) was.remembers.past.written

  two_there : (c : Content) → HoldsPages c start was.remembers.pages → HoldsBytes c from bytes
      → HoldsPages c start (was.remembers.pages ++ both)
  two_there c has held = (
    has.0,
    pages_both was.remembers.pages c (first_page start) (journal_of was.remembers.standing) p has.1
        (subst (λ n. HasPages c n both) (ahead.at ∙ sym was.remembers.past.up_to)
        (held_both (journal_of was.remembers.standing) p c from (subst (HoldsBytes c from) ahead.are held))),
  )

  end_there : end_of_pages was.remembers.standing.past.next both ≡ past.next
  end_there = ap (λ n. end_of_pages n both) (sym ahead.at) ∙ ahead.up_to

  pub done_moments : LeavesNextWith d (done_from past deed) from bytes old new
      → LeavesOnly (d.trail old.disk) (d.trail new.disk) (λ c. Remembers (d.size old.disk) start deeds desktop c
      ⊎ Remembers (d.size old.disk) start (deeds ++ deed ∷ []) (after_deed desktop deed) c)
  done_moments next = weakened
      (both_leave (next was.usable honest was.remembers.standing was.remembers.past.stands) kept_there)
      (λ c x. elim x.0 [
        | inl anew ↦ inr (remembers_done was.remembers p deed one past refl end_there ahead.room ahead.counted
            ahead.short ahead.good turn anew.0 (two_there c x.1 anew.1))
        | inr still ↦ inl (remembers_on was.remembers refl still x.1)
      ])

  pub done_keeps : new.must_reopen ≡ false → GoesToNextWith d (done_from past deed) from bytes old new
      → KeepsAll d start (deeds ++ deed ∷ []) (after_deed desktop deed) new
  done_keeps usable goes = record {
    usable = usable;
    behind = was.behind;
    remembers = remembers_done was.remembers p deed one past within.as_large end_there ahead.room ahead.counted
        ahead.short ahead.good turn (goes.shows honest was.remembers.standing was.remembers.past.stands)
        (two_there (now (d.trail new.disk)).reads
        (at_last kept_there (now (d.trail new.disk)).reads (read_is_an_image (now (d.trail new.disk))))
        (goes.held honest));
  }

-- ---- what is to be written before it

pub page_few : (p : Page) → IsGoodPage p → length (page_bytes p) < 2 ^ 33
page_few p good = omega (arith, page_long p, good.short)

module _ {D : Type 0} (d : Ghosts D) {start : Start} {deeds : List PastDeed} {desktop : Desktop} {store : StoreView D}
    (keeps : KeepsAll d start deeds desktop store) (p : Page) (told : PastEnd) (events : ℕ)
    (journal page : List ℕ) (told_is : told ≡ keeps.remembers.standing.past)
    (many : length keeps.remembers.standing.events ≡ events)
    (journal_is : journal ≡ page_bytes (journal_of keeps.remembers.standing))
    (page_is : page ≡ page_bytes p) where
  next_is : told.next ≡ keeps.remembers.standing.past.next
  next_is = ap (λ (x : PastEnd). x.next) told_is

  before_is : told.before ≡ keeps.remembers.standing.past.before
  before_is = ap (λ (x : PastEnd). x.before) told_is

  first_is : last_sector (length journal) + 1 ≡ page_sectors (journal_of keeps.remembers.standing)
  first_is = ap (λ l. last_sector (length l) + 1) journal_is

  second_is : last_sector (length page) + 1 ≡ page_sectors p
  second_is = ap (λ l. last_sector (length l) + 1) page_is

  -- it is ahead of the page
  pub is_ahead : {past : PastEnd} {from limit : ℕ} {bytes : List ℕ} → length journal < 2 ^ 32 → IsGoodPage p
      → bytes ≡ padded (last_sector (length journal) + 1) journal ++ page
      → from ≡ told.next → from + limit ≡ past.next → past.next ≤ d.size store.disk
      → past.next ≡ told.next + (last_sector (length journal) + 1) + (last_sector (length page) + 1)
      → past.before ≡ told.before + events + 1 → IsAhead d p past from limit bytes keeps
  is_ahead short good are at ends room next before = record {
    at = at ∙ next_is;
    are = are ∙ (λ i. padded (first_is i) (journal_is i) ++ page_is i);
    up_to = (λ i. at i + sym first_is i + sym second_is i) ∙ sym next;
    limit_is = ends;
    room = room;
    counted = omega (arith, before, before_is, many);
    short = subst (λ l. length l < 2 ^ 32) journal_is short;
    good = good;
  }

  -- and there is room for it where the past can go on
  pub room_ahead : (can : CanAdd d p keeps) → (end : ℕ) → can.end ≤ end
      → told.next + (last_sector (length journal) + 1) + (last_sector (length page) + 1) ≤ end
  room_ahead can end high = omega (arith, can.room.pages, first_is, second_is, next_is, high)

  pub few_ahead : CanAdd d p keeps → told.before + events + 1 < 2 ^ 64
  few_ahead can = omega (arith, can.room.few, before_is, many)
