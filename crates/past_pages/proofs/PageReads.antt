-- What stands in the sectors of a page.
use Rattle.std.proofs.Common.{◌≡◌, ◌+◌, ◌*◌, ◌^◌, ◌<◌, ◌≤◌, ℕ, zero, suc, List, [], ◌∷◌, ◌++◌, length, take, drop, refl}
use Rattle.std.proofs.Common.{sym, ◌∙◌, ap, arith, length-append}
use Rattle.std.specs.declared.option.Option.{Option}
use Rattle.std.specs.Prelude.{Some, None, false, true}
use Rattle.std.specs.Int.{from_be_bytes, to_be_bytes, w32, w64}
use Rattle.std.proofs.lemmas.Nat.{from_be_bytes-to_be_bytes_4, from_be_bytes-to_be_bytes_8}
use Rattle.sector_disk.specs.declared.disk.TheConstants.{SECTOR_BYTES}
use Rattle.sector_disk.specs.Stored.{HoldsBytes, last_sector, stored}
use Rattle.sector_disk.specs.Trail.{Content}
use Rattle.sector_disk.proofs.StoredLaws.{stored_held, take-stored}
use Rattle.event_bytes.specs.declared.event.Event.{Event}
use Rattle.event_bytes.specs.Spelling.{BeginsWithEvent, spelling}
use Rattle.document_filing.specs.Bringing.{Documents}
use Rattle.store_layout.specs.declared.layout.TheConstants.{LAYOUT}
use Rattle.store_slots.specs.Bodies.{spellings}
use Rattle.desktop_definitions.specs.Desktop.{Desktop}
use Rattle.past_pages.specs.declared.page.TheConstants.{EVENTS_PAGE, FAR_PAGE, IMPORT_PAGE, MARK_PAGE}
use Rattle.past_pages.specs.declared.page.TheConstants.{MOST_SPELLED, TURN_PAGE}
use Rattle.past_pages.specs.Copies.{Sectors}
use Rattle.past_pages.specs.Page.{Page, of_copy, of_events, of_import, of_turn, behind_length, document_spellings}
use Rattle.past_pages.specs.Page.{number}
use Rattle.past_pages.specs.Page.{page_body, page_bytes, page_count, page_kind, page_sectors, page_version}
use Rattle.past_pages.specs.Page.{AreDoable, AreDocuments, AreEvents, IsGoodPage}
use Rattle.past_pages.proofs.StillReads.{page_there}

pub joined : (a b c : List ℕ) → (a ++ b) ++ c ≡ a ++ (b ++ c)
joined [] b c = refl
joined (x ∷ a) b c = ap (λ r. x ∷ r) (joined a b c)

pub dropped_bytes : (a b : List ℕ) → drop (length a) (a ++ b) ≡ b
dropped_bytes [] b = refl
dropped_bytes (x ∷ a) b = dropped_bytes a b

none_left : (m : ℕ) → drop {A = ℕ} m [] ≡ []
none_left zero = refl
none_left (suc m) = refl

pub drop_both : (n m : ℕ) (l : List ℕ) → drop m (drop n l) ≡ drop (n + m) l
drop_both zero m l = let e : m ≡ 0 + m = omega arith in ap (λ k. drop k l) e
drop_both (suc n) m [] = none_left m ∙ sym (none_left (suc n + m))
drop_both (suc n) m (x ∷ l) =
    drop_both n m l ∙ (let e : suc n + m ≡ suc (n + m) = omega arith in sym (ap (λ k. drop k (x ∷ l)) e))

pub small_kind : (p : Page) → page_kind p < 2 ^ 32
small_kind (of_events version events) = omega arith
small_kind (of_import version documents) = omega arith
small_kind (of_turn version k to) = omega arith
small_kind (of_copy version false sectors to) = omega arith
small_kind (of_copy version true sectors to) = omega arith

four : (n : ℕ) → length (number n) ≡ 4
four n = refl

pub page_long : (p : Page) → length (page_bytes p) ≡ 16 + length (page_body p)
page_long p =
    let e = page_body p in
    omega (
      arith,
      four (page_kind p),
      four (page_version p),
      four (page_count p),
      four (length e),
      length-append (number (length e)) e,
      length-append (number (page_count p)) (behind_length e),
      length-append (number (page_version p)) (number (page_count p) ++ behind_length e),
      length-append (number (page_kind p)) (number (page_version p) ++ (number (page_count p) ++ behind_length e)),
    )

-- a page whose spelling is short is short itself
pub page_short : (a b c e f bytes : List ℕ) → length a ≤ 4 → length b ≤ 4 → length c ≤ 4 → length e ≤ 4
    → length f ≤ MOST_SPELLED → bytes ≡ a ++ (b ++ (c ++ (e ++ f))) → length bytes < 2 ^ 32
page_short a b c e f bytes first second third fourth few is =
    let long = ap length is in
    omega (
      arith,
      long,
      first,
      second,
      third,
      fourth,
      few,
      length-append a (b ++ (c ++ (e ++ f))),
      length-append b (c ++ (e ++ f)),
      length-append c (e ++ f),
      length-append e f,
    )

module _ (c : Content) (at : ℕ) (p : Page) (held : HoldsBytes c at (page_bytes p)) (good : IsGoodPage p) where
  module _ (front first : List ℕ) (is : front ≡ take 16 first) (read : first ≡ stored c at (SECTOR_BYTES * 1)) where
    front_is : front ≡ number (page_kind p) ++ (number (page_version p)
        ++ (number (page_count p) ++ number (length (page_body p))))
    front_is = is ∙ ap (take 16) read ∙ take-stored c at (SECTOR_BYTES * 1) 16 (omega arith)
        ∙ sym (take-stored c at (length (page_bytes p)) 16 (omega (arith, page_long p)))
        ∙ ap (take 16) (stored_held c at (page_bytes p) held)

    pub kind_is : (n : ℕ) → n ≡ from_be_bytes w32 (take 4 front) → n ≡ page_kind p
    kind_is n told = told ∙ ap (λ l. from_be_bytes w32 (take 4 l)) front_is
        ∙ from_be_bytes-to_be_bytes_4 (page_kind p) (small_kind p)

    pub version_is : from_be_bytes w32 (take 4 (drop 4 front)) ≡ LAYOUT
    version_is = ap (λ l. from_be_bytes w32 (take 4 (drop 4 l))) front_is
        ∙ from_be_bytes-to_be_bytes_4 (page_version p) (omega (arith, good.newest)) ∙ good.newest

    pub count_is : (n : ℕ) → n ≡ from_be_bytes w32 (take 4 (drop 8 front)) → n ≡ page_count p
    count_is n told = told ∙ ap (λ l. from_be_bytes w32 (take 4 (drop 8 l))) front_is
        ∙ from_be_bytes-to_be_bytes_4 (page_count p) good.few

    pub spelled_is : (n : ℕ) → n ≡ from_be_bytes w32 (take 4 (drop 12 front)) → n ≡ length (page_body p)
    spelled_is n told = told ∙ ap (λ l. from_be_bytes w32 (take 4 (drop 12 l))) front_is
        ∙ from_be_bytes-to_be_bytes_4 (length (page_body p)) good.short

    -- in how many sectors it stands
    pub sectors_are : (n sectors : ℕ) → n ≡ from_be_bytes w32 (take 4 (drop 12 front))
        → sectors ≡ last_sector (n + 16) + 1 → sectors ≡ page_sectors p
    sectors_are n sectors told count = count
        ∙ ap (λ m. last_sector m + 1) (omega (arith, page_long p, spelled_is n told))

  -- and what comes behind its front
  pub spelled_there : (bytes left : List ℕ) (sectors : ℕ) → sectors ≡ page_sectors p
      → bytes ≡ stored c at (SECTOR_BYTES * sectors) → left ≡ drop 16 bytes
      → left ≡ page_body p ++ drop (length (page_bytes p)) (stored c at (SECTOR_BYTES * sectors))
  spelled_there bytes left sectors are read is = is ∙ ap (drop 16) read
      ∙ ap (drop 16) (page_there c at (SECTOR_BYTES * sectors) p held
      (let wide : length (page_bytes p) ≤ SECTOR_BYTES * page_sectors p = omega arith in omega (arith, are, wide)))

-- ---- what it says was done

-- of a page of events
pub of_events_page : (X : Page → Type 0) (p : Page) (kind count : ℕ) (bytes rest : List ℕ) → kind ≡ EVENTS_PAGE
    → kind ≡ page_kind p → count ≡ page_count p → AreDoable p → bytes ≡ page_body p ++ rest
    → ((version : ℕ) (events : List Event) → length events ≡ count → AreEvents events → bytes ≡ spellings events ++ rest
    → X (of_events version events)) → X p
of_events_page X (of_events version events) kind count bytes rest one is many valid spelled f =
    f version events (sym many) valid spelled
of_events_page X (of_import version documents) kind count bytes rest one is many valid spelled f =
    absurd (omega (arith, one, is))
of_events_page X (of_turn version k to) kind count bytes rest one is many valid spelled f =
    absurd (omega (arith, one, is))
of_events_page X (of_copy version false sectors to) kind count bytes rest one is many valid spelled f =
    absurd (omega (arith, one, is))
of_events_page X (of_copy version true sectors to) kind count bytes rest one is many valid spelled f =
    absurd (omega (arith, one, is))

-- of a page of an import
pub of_import_page : (X : Page → Type 0) (p : Page) (kind count : ℕ) (bytes rest : List ℕ) → kind ≡ IMPORT_PAGE
    → kind ≡ page_kind p → count ≡ page_count p → AreDoable p → bytes ≡ page_body p ++ rest
    → ((version : ℕ) (documents : Documents) → length documents ≡ count → AreDocuments documents
    → bytes ≡ document_spellings documents ++ rest → X (of_import version documents)) → X p
of_import_page X (of_events version events) kind count bytes rest two is many valid spelled f =
    absurd (omega (arith, two, is))
of_import_page X (of_import version documents) kind count bytes rest two is many valid spelled f =
    f version documents (sym many) valid spelled
of_import_page X (of_turn version k to) kind count bytes rest two is many valid spelled f =
    absurd (omega (arith, two, is))
of_import_page X (of_copy version false sectors to) kind count bytes rest two is many valid spelled f =
    absurd (omega (arith, two, is))
of_import_page X (of_copy version true sectors to) kind count bytes rest two is many valid spelled f =
    absurd (omega (arith, two, is))

-- of a page of a turn: eight bytes tell its moment
eight : (n : ℕ) → length (to_be_bytes w64 n) ≡ 8
eight n = refl

turn_told : (k : ℕ) (bytes rest : List ℕ) → k < 2 ^ 64 → bytes ≡ to_be_bytes w64 k ++ rest
    → from_be_bytes w64 (take 8 bytes) ≡ k
turn_told k bytes rest few spelled =
    ap (λ l. from_be_bytes w64 (take 8 l)) spelled ∙ from_be_bytes-to_be_bytes_8 k few

turn_long : (k : ℕ) (bytes rest : List ℕ) → bytes ≡ to_be_bytes w64 k ++ rest → 8 ≤ length bytes
turn_long k bytes rest spelled =
    let long = ap length spelled in omega (arith, long, eight k, length-append (to_be_bytes w64 k) rest)

pub of_turn_page : (X : Page → Type 0) (p : Page) (kind : ℕ) (bytes rest : List ℕ) → kind ≡ TURN_PAGE → kind ≡
    page_kind p
    → AreDoable p → bytes ≡ page_body p ++ rest
    → ((version k : ℕ) (to : Desktop) → from_be_bytes w64 (take 8 bytes) ≡ k → 8 ≤ length bytes → X
    (of_turn version k to))
    → X p
of_turn_page X (of_events version events) kind bytes rest three is valid spelled f = absurd (omega (arith, three, is))
of_turn_page X (of_import version documents) kind bytes rest three is valid spelled f = absurd
    (omega (arith, three, is))
of_turn_page X (of_turn version k to) kind bytes rest three is valid spelled f =
    f version k to (turn_told k bytes rest valid spelled) (turn_long k bytes rest spelled)
of_turn_page X (of_copy version false sectors to) kind bytes rest three is valid spelled f = absurd
    (omega (arith, three, is))
of_turn_page X (of_copy version true sectors to) kind bytes rest three is valid spelled f = absurd
    (omega (arith, three, is))

-- of a mark, and of a far turn
pub of_mark_page : (X : Page → Type 0) (p : Page) (kind : ℕ) → kind ≡ MARK_PAGE → kind ≡ page_kind p
    → ((version : ℕ) (sectors : Sectors) (to : Desktop) → X (of_copy version false sectors to)) → X p
of_mark_page X (of_events version events) kind four is f = absurd (omega (arith, four, is))
of_mark_page X (of_import version documents) kind four is f = absurd (omega (arith, four, is))
of_mark_page X (of_turn version k to) kind four is f = absurd (omega (arith, four, is))
of_mark_page X (of_copy version false sectors to) kind four is f = f version sectors to
of_mark_page X (of_copy version true sectors to) kind four is f = absurd (omega (arith, four, is))

pub of_far_page : (X : Page → Type 0) (p : Page) (kind : ℕ) → kind ≡ FAR_PAGE → kind ≡ page_kind p
    → ((version : ℕ) (sectors : Sectors) (to : Desktop) → X (of_copy version true sectors to)) → X p
of_far_page X (of_events version events) kind five is f = absurd (omega (arith, five, is))
of_far_page X (of_import version documents) kind five is f = absurd (omega (arith, five, is))
of_far_page X (of_turn version k to) kind five is f = absurd (omega (arith, five, is))
of_far_page X (of_copy version false sectors to) kind five is f = absurd (omega (arith, five, is))
of_far_page X (of_copy version true sectors to) kind five is f = f version sectors to

-- which stands in one sector
pub turn_sectors : (p : Page) → page_kind p ≡ TURN_PAGE → page_sectors p ≡ 1
turn_sectors (of_events version events) is = absurd (omega (arith, is))
turn_sectors (of_import version documents) is = absurd (omega (arith, is))
turn_sectors (of_turn version k to) is =
    let long = page_long (of_turn version k to) in omega (arith, long, eight k)
turn_sectors (of_copy version false sectors to) is = absurd (omega (arith, is))
turn_sectors (of_copy version true sectors to) is = absurd (omega (arith, is))

-- there is no other one
pub of_no_page : (p : Page) (kind : ℕ) (bytes rest : List ℕ) → ¬ (kind ≡ EVENTS_PAGE) → ¬ (kind ≡ IMPORT_PAGE)
    → (kind ≡ TURN_PAGE → length bytes < 8) → ¬ (kind ≡ MARK_PAGE) → ¬ (kind ≡ FAR_PAGE) → kind ≡ page_kind p
    → (kind ≡ TURN_PAGE → bytes ≡ page_body p ++ rest) → ⊥
of_no_page (of_events version events) kind bytes rest one two short four five is spelled = one is
of_no_page (of_import version documents) kind bytes rest one two short four five is spelled = two is
of_no_page (of_turn version k to) kind bytes rest one two short four five is spelled =
    let few = short is in omega (arith, few, turn_long k bytes rest (spelled is))
of_no_page (of_copy version false sectors to) kind bytes rest one two short four five is spelled = four is
of_no_page (of_copy version true sectors to) kind bytes rest one two short four five is spelled = five is

-- ---- events

-- the event that comes next
pub record IsNext (bytes : List ℕ) (k : ℕ) (events : List Event) (rest : List ℕ) : Type 0 where
  pub event : Event
  pub begins : BeginsWithEvent bytes event
  pub taken : take (suc k) events ≡ take k events ++ event ∷ []
  pub left : drop (length (spelling event)) bytes ≡ spellings (drop (suc k) events) ++ rest

pub next_there : (bytes : List ℕ) (k : ℕ) (events : List Event) (rest : List ℕ) → AreEvents events → k < length events
    → bytes ≡ spellings (drop k events) ++ rest → IsNext bytes k events rest
next_there bytes zero [] rest valid low is = absurd (omega (arith, low))
next_there bytes (suc k) [] rest valid low is = absurd (omega (arith, low))
next_there bytes zero (e ∷ events) rest valid low is =
    let parts : bytes ≡ spelling e ++ (spellings events ++ rest) = is ∙ joined (spelling e) (spellings events) rest in
    record {
      event = e;
      begins = record { valid = valid.0; rest = spellings events ++ rest; parts = parts };
      taken = refl;
      left = ap (drop (length (spelling e))) parts ∙ dropped_bytes (spelling e) (spellings events ++ rest);
    }
next_there bytes (suc k) (e ∷ events) rest valid low is =
    let next = next_there bytes k events rest valid.1 (omega (arith, low)) is in
    record {
      event = next.event;
      begins = next.begins;
      taken = ap (λ l. e ∷ l) next.taken;
      left = next.left;
    }

first_of : Event → Option (Event × ℕ) → Event
first_of e (Some x) = x.0
first_of e None = e

second_of : ℕ → Option (Event × ℕ) → ℕ
second_of n (Some x) = x.1
second_of n None = n

pub same_found : {o : Option (Event × ℕ)} {e e' : Event} {n n' : ℕ} → o ≡ Some (e, n) → o ≡ Some (e', n')
    → (e ≡ e') × (n ≡ n')
unfolding first_of second_of
same_found {e = e} {n = n} first second =
    (ap (first_of e) (sym first ∙ second), ap (second_of n) (sym first ∙ second))

-- one event more was read
pub read_on : (bytes left : List ℕ) (place k : ℕ) (events : List Event) (rest : List ℕ) → AreEvents events
    → k < length events → left ≡ drop place bytes → drop place bytes ≡ spellings (drop k events) ++ rest
    → {o : Option (Event × ℕ)} → ((e : Event) → BeginsWithEvent left e → o ≡ Some (e, length (spelling e)))
    → {e : Event} {n : ℕ} → o ≡ Some (e, n)
    → (take k events ++ e ∷ [] ≡ take (k + 1) events)
    × (drop (place + n) bytes ≡ spellings (drop (k + 1) events) ++ rest)
read_on bytes left place k events rest valid low back at only {e = e} {n = n} found =
    let next = next_there left k events rest valid low (back ∙ at) in
    let same = same_found found (only next.event next.begins) in
    let more : suc k ≡ k + 1 = omega arith in (
      ap (λ x. take k events ++ x ∷ []) same.0 ∙ sym next.taken ∙ ap (λ m. take m events) more,
      sym (drop_both place n bytes) ∙ ap (drop n) (sym back) ∙ ap (λ m. drop m left) same.1 ∙ next.left
          ∙ ap (λ m. spellings (drop m events) ++ rest) more,
    )
