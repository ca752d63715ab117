-- What led to a moment of a past, in words. `d` is what is known of a disk.
use Rattle.std.proofs.Common.{◌≡◌, ◌∙◌, ◌+◌, ◌-◌, ◌<◌, ◌≤◌, ℕ, zero, suc, List, [], ◌∷◌, ◌++◌, length, slice_get, refl, sym, ap}
use Rattle.std.proofs.Common.{arith, subst, take, drop, length-append, Bool, codes, true, false, Some, if◌then◌else◌, nat_le}
use Rattle.std.proofs.lemmas.Bool.Decides.{nat_tests}
use Rattle.sector_disk.specs.declared.disk.Disk.{Ghosts}
use Rattle.event_bytes.specs.declared.event.Event.{Event}
use Rattle.document_filing.specs.Bringing.{Documents}
use Rattle.desktop_definitions.specs.Desktop.{Desktop}
use Rattle.desk_journal.specs.View.{StoreView}
use Rattle.past_pages.specs.Page.{of_copy, of_events, of_import, of_turn, Page}
use Rattle.past_pages.specs.Reading.{IsRead}
use Rattle.past_pages.specs.declared.pages.PageDeeds.{PageDeeds}
use Rattle.past_pages.specs.declared.pages.PageDeeds.TheVariants.{Events, FarTurn, Import, Mark, Turn}
use Rattle.desk_past.specs.Deeds.{PastDeed, after_deed, after_deeds, all_posted, brought, posted, turned}
use Rattle.desk_past.specs.Past.{deeds_in, all_deeds, moment}
use Rattle.desk_past.specs.Going.{LiesInPart}
use Rattle.desk_past.specs.Turning.{PastOf}
use Rattle.desk_past.proofs.Moments.{after_both, joined, many_posted}
use Rattle.told_pasts.specs.Words.{deed_line, turn_line}
use Rattle.past_moments.specs.Moments.{IsDeedOf, IsDesktopAt, IsExtentOf, IsLastOf, IsPageIn, IsPageOf, IsPlaceIn, IsPagePlace, IsToldOf}
use Rattle.past_moments.specs.Words.{told_at}
use Rattle.past_moments.specs.declared.extent.Extent.{Extent}
use Rattle.past_moments.specs.declared.extent.Place.{Place}
use Rattle.past_moments.proofs.Walking.{deeds_front, none_todo}

lets_in : (n m : ℕ) → n ≤ m → nat_le n m ≡ true
lets_in n m le = grind (arith, nat_tests)

keeps_out : (n m : ℕ) → m < n → nat_le n m ≡ false
keeps_out n m lt = grind (arith, nat_tests)

picks : {X : Type 0} (b : Bool) (x y : X) → b ≡ true → (if b then x else y) ≡ x
picks true x y is = refl
picks false x y is = absurd cc is

picks_not : {X : Type 0} (b : Bool) (x y : X) → b ≡ false → (if b then x else y) ≡ y
picks_not true x y is = absurd cc is
picks_not false x y is = refl

-- ---- elements behind others

get_behind : {X : Type 0} (a b : List X) (i : ℕ) → slice_get (a ++ b) (length a + i) ≡ slice_get b i
get_behind [] b i = let same : 0 + i ≡ i = omega arith in ap (slice_get b) same
get_behind (x ∷ a) b i =
    let same : suc (length a) + i ≡ suc (length a + i) = omega arith in
    ap (slice_get (x ∷ (a ++ b))) same ∙ get_behind a b i

get_before : {X : Type 0} (a b : List X) (i : ℕ) → i < length a → slice_get (a ++ b) i ≡ slice_get a i
get_before [] b i low = absurd (omega (arith, low))
get_before (x ∷ a) b zero low = refl
get_before (x ∷ a) b (suc i) low = get_before a b i (omega (arith, low))

get_posted : (events : List Event) (i : ℕ) (event : Event) → slice_get events i ≡ Some event
    → slice_get (all_posted events) i ≡ Some (posted event)
get_posted [] i event is = absurd cc is
get_posted (e ∷ events) zero event is = ap (λ x. slice_get (all_posted (x ∷ [])) 0) (some_same e event is) where
  some_same : (a b : Event) → Some a ≡ Some b → a ≡ b
  some_same a b is = cc is
get_posted (e ∷ events) (suc i) event is = get_posted events i event is

-- there is one before the end of a list, and only there
pub get_some : {X : Type 0} (l : List X) (i : ℕ) → i < length l → (x : X) × (slice_get l i ≡ Some x)
get_some [] i low = absurd (omega (arith, low))
get_some (y ∷ l) zero low = (y, refl)
get_some (y ∷ l) (suc i) low = get_some l i (omega (arith, low))

got_low : {X : Type 0} (l : List X) (i : ℕ) (x : X) → slice_get l i ≡ Some x → i < length l
got_low [] i x is = absurd cc is
got_low (y ∷ l) zero x is = omega arith
got_low (y ∷ l) (suc i) x is = let low = got_low l i x is in omega (arith, low)

-- one element more
take_one : (l : List PastDeed) (i : ℕ) (x : PastDeed) → slice_get l i ≡ Some x → take (suc i) l ≡ take i l ++ x ∷ []
take_one [] i x is = absurd cc is
take_one (y ∷ l) zero x is = ap (λ z. z ∷ []) (some_same y x is) where
  some_same : (a b : PastDeed) → Some a ≡ Some b → a ≡ b
  some_same a b is = cc is
take_one (y ∷ l) (suc i) x is = ap (λ r. y ∷ r) (take_one l i x is)

-- the one element there
first_at : (l : List Event) (i : ℕ) (x : Event) → slice_get l i ≡ Some x → take 1 (drop i l) ≡ x ∷ []
first_at [] i x is = absurd cc is
first_at (y ∷ l) zero x is = ap (λ z. z ∷ []) (some_same y x is) where
  some_same : (a b : Event) → Some a ≡ Some b → a ≡ b
  some_same a b is = cc is
first_at (y ∷ l) (suc i) x is = first_at l i x is

pub one_at : (l : List Event) (i n : ℕ) (x : Event) → n ≡ 1 → slice_get l i ≡ Some x → take n (drop i l) ≡ x ∷ []
one_at l i n x one is = ap (λ m. take m (drop i l)) one ∙ first_at l i x is

-- a line alone is the last one
pub only_line : (former : List (List ℕ)) (line other : List ℕ) → line ∷ [] ≡ former ++ other ∷ [] → other ≡ line
only_line [] line other is = cc is
only_line (x ∷ former) line other is = absurd (omega (arith, ap length is, length-append former (other ∷ [])))

-- it says that these events were posted
abbrev pub AreEvents : PageDeeds → List Event → Type 0
AreEvents (Events events) items = events.items ≡ items
AreEvents (Import documents) items = ⊥
AreEvents (Turn to) items = ⊥
AreEvents FarTurn items = ⊥
AreEvents Mark items = ⊥

-- the events of a page, as deeds
get_page : (deeds : PageDeeds) (page : Page) (items : List Event) (i : ℕ) (event : Event) → AreEvents deeds items
    → IsRead deeds page → slice_get items i ≡ Some event → slice_get (deeds_in page) i ≡ Some (posted event)
get_page (Events events) (of_events version all) items i event are read is =
    get_posted all i event (ap (λ l. slice_get l i) (sym read ∙ are) ∙ is)
get_page (Events events) (of_import version documents) items i event are read is = absurd read
get_page (Events events) (of_turn version k to) items i event are read is = absurd read
get_page (Events events) (of_copy version false sectors to) items i event are read is = absurd read
get_page (Events events) (of_copy version true sectors to) items i event are read is = absurd read
get_page (Import documents) page items i event are read is = absurd are
get_page (Turn to) page items i event are read is = absurd are
get_page FarTurn page items i event are read is = absurd are
get_page Mark page items i event are read is = absurd are

-- it says that these documents came
abbrev pub AreDocuments : PageDeeds → Documents → Type 0
AreDocuments (Events events) items = ⊥
AreDocuments (Import documents) items = documents.items ≡ items
AreDocuments (Turn to) items = ⊥
AreDocuments FarTurn items = ⊥
AreDocuments Mark items = ⊥

get_import : (deeds : PageDeeds) (page : Page) (items : Documents) → AreDocuments deeds items → IsRead deeds page
    → slice_get (deeds_in page) 0 ≡ Some (brought items)
get_import (Events events) page items are read = absurd are
get_import (Import documents) (of_events version all) items are read = absurd read
get_import (Import documents) (of_import version all) items are read = ap (λ l. Some (brought l)) (sym read ∙ are)
get_import (Import documents) (of_turn version k to) items are read = absurd read
get_import (Import documents) (of_copy version false sectors to) items are read = absurd read
get_import (Import documents) (of_copy version true sectors to) items are read = absurd read
get_import (Turn to) page items are read = absurd are
get_import FarTurn page items are read = absurd are
get_import Mark page items are read = absurd are

-- it says that the desktop was turned
abbrev pub IsTurned : PageDeeds → Type 0
IsTurned (Events events) = ⊥
IsTurned (Import documents) = ⊥
IsTurned (Turn to) = Unit {0}
IsTurned FarTurn = Unit {0}
IsTurned Mark = ⊥

get_turn : (deeds : PageDeeds) (page : Page) → IsTurned deeds → IsRead deeds page
    → (desktop : Desktop) × (slice_get (deeds_in page) 0 ≡ Some (turned desktop))
get_turn (Events events) page is read = absurd is
get_turn (Import documents) page is read = absurd is
get_turn (Turn to) (of_events version all) is read = absurd read
get_turn (Turn to) (of_import version all) is read = absurd read
get_turn (Turn to) (of_turn version k desktop) is read = (desktop, refl)
get_turn (Turn to) (of_copy version false sectors desktop) is read = absurd read
get_turn (Turn to) (of_copy version true sectors desktop) is read = absurd read
get_turn FarTurn (of_events version all) is read = absurd read
get_turn FarTurn (of_import version all) is read = absurd read
get_turn FarTurn (of_turn version k desktop) is read = absurd read
get_turn FarTurn (of_copy version false sectors desktop) is read = absurd read
get_turn FarTurn (of_copy version true sectors desktop) is read = (desktop, refl)
get_turn Mark page is read = absurd is

-- ---- the deed that led to a moment

-- this deed led to moment k
abbrev pub IsDeedAt : {D : Type 0} → Ghosts D → ℕ → PastDeed → StoreView D → Type 0
IsDeedAt d k deed store = (past : PastOf d store) → LiesInPart d past.keeps
    → (past.start.before < k) × (slice_get past.deeds (k - 1 - past.start.before) ≡ Some deed)

module _ {D : Type 0} (d : Ghosts D) {store : StoreView D} where
  -- the deed of that number behind where a page begins
  deed_behind : (past : PastOf d store) (place : Place) (is : IsPlaceIn d past place) (i : ℕ)
      → slice_get past.deeds (place.k + i - past.start.before)
      ≡ slice_get (all_deeds is.todo ++ all_posted past.keeps.remembers.standing.events) i
  deed_behind past place is i =
      let at : place.k + i - past.start.before ≡ length (all_deeds is.front) + i = omega (arith, is.count) in
      (λ j. slice_get (deeds_front d past is.front is.todo is.parts j) (at j))
      ∙ get_behind (all_deeds is.front) (all_deeds is.todo ++ all_posted past.keeps.remembers.standing.events) i

  deed_in_page : (past : PastOf d store) (place next : Place) (deeds : PageDeeds) (is : IsPageIn d past place (IsRead deeds) next)
      (i : ℕ) → i < length (deeds_in is.page)
      → slice_get past.deeds (place.k + i - past.start.before) ≡ slice_get (deeds_in is.page) i
  deed_in_page past place next deeds is i low =
      let rest = all_deeds is.todo ++ all_posted past.keeps.remembers.standing.events in
      deed_behind past place (record {
        front = is.front;
        todo = is.page ∷ is.todo;
        parts = is.parts;
        at = is.at;
        count = is.count;
      }) i
      ∙ ap (λ l. slice_get l i) (joined (deeds_in is.page) (all_deeds is.todo)
      (all_posted past.keeps.remembers.standing.events))
      ∙ get_before (deeds_in is.page) rest i low

  pub deed_event : (place next : Place) (deeds : PageDeeds) (items : List Event) (k i : ℕ) (event : Event)
      → AreEvents deeds items → place.k < k → i ≡ k - 1 - place.k → slice_get items i ≡ Some event
      → IsPageOf d place (IsRead deeds) next store → IsDeedAt d k (posted event) store
  deed_event place next deeds items k i event are low at is page = λ past lies.
      let here = page past lies in
      let got = get_page deeds here.page items i event are here.is is in
      let few = got_low (deeds_in here.page) i (posted event) got in
      let count = here.count in
      let same : k - 1 - past.start.before ≡ place.k + i - past.start.before = omega (arith, at, low) in (
        omega (arith, count, low),
        ap (slice_get past.deeds) same ∙ deed_in_page past place next deeds here i few ∙ got,
      )

  pub deed_import : (place next : Place) (documents : Documents) (deeds : PageDeeds) (k i : ℕ) → AreDocuments deeds documents
      → place.k < k → i ≡ k - 1 - place.k → i ≡ 0 → IsPageOf d place (IsRead deeds) next store → IsDeedAt d k (brought documents) store
  deed_import place next documents deeds k i are low at none page = λ past lies.
      let here = page past lies in
      let got = get_import deeds here.page documents are here.is in
      let few = got_low (deeds_in here.page) 0 (brought documents) got in
      let count = here.count in
      let same : k - 1 - past.start.before ≡ place.k + 0 - past.start.before = omega (arith, at, low, none) in (
        omega (arith, count, low),
        ap (slice_get past.deeds) same ∙ deed_in_page past place next deeds here 0 few ∙ got,
      )

  pub deed_late : (extent : Extent) (place : Place) (k i : ℕ) (event : Event) → IsExtentOf d extent store
      → IsPagePlace d place store → extent.end ≤ place.at → place.k < k → i ≡ k - 1 - place.k
      → slice_get extent.journal.items i ≡ Some event → IsDeedAt d k (posted event) store
  deed_late extent place k i event reaches is high low at got = λ past lies.
      let far = reaches past lies in
      let here = is past lies in
      let events = past.keeps.remembers.standing.events in
      let count = here.count in
      let same : k - 1 - past.start.before ≡ place.k + i - past.start.before = omega (arith, at, low) in (
        omega (arith, count, low),
        ap (slice_get past.deeds) same ∙ deed_behind past place here i
            ∙ ap (λ l. slice_get (all_deeds l ++ all_posted events) i) (none_todo d past place here extent.end far.end high)
            ∙ get_posted events i event (ap (λ l. slice_get l i) (sym far.journal) ∙ got),
      )

  -- the moment behind it
  pub moment_deed : (k : ℕ) (deed : PastDeed) (here after : Desktop) → IsDeedAt d k deed store → IsDesktopAt d (k - 1) here store
      → after ≡ after_deed here deed → IsDesktopAt d k after store
  moment_deed k deed here after led was done = λ past lies.
      let fact = led past lies in
      let i : ℕ = k - 1 - past.start.before in
      let low = fact.0 in
      let few = got_low past.deeds i deed fact.1 in
      let count : k - past.start.before ≡ suc i = omega (arith, low) in
      record {
        there = record { low = omega (arith, low); high = omega (arith, low, few) };
        is = done ∙ ap (λ x. after_deed x deed) (was past lies).is
            ∙ sym (ap (λ n. after_deeds past.start.desktop (take n past.deeds)) count
            ∙ ap (after_deeds past.start.desktop) (take_one past.deeds i deed fact.1)
            ∙ after_both past.start.desktop (take i past.deeds) (deed ∷ []));
      }

  -- ---- words

  -- the line of a deed over the moment before it
  pub deed_told : (past : PastOf d store) (k : ℕ) (here : Desktop) (deed : PastDeed) (words : List ℕ)
      → here ≡ moment past.start past.deeds (k - 1)
      → slice_get past.deeds (k - 1 - past.start.before) ≡ Some deed → words ≡ deed_line here deed
      → words ≡ told_at (moment past.start past.deeds (k - 1)) (slice_get past.deeds (k - 1 - past.start.before))
  deed_told past k here deed words was is line =
      line ∙ ap (λ x. deed_line x deed) was ∙ ap (told_at (moment past.start past.deeds (k - 1))) (sym is)

  -- the line of the deed that led there
  pub deed_words : (k : ℕ) (deed : PastDeed) (here : Desktop) (words : List ℕ) → IsDeedAt d k deed store
      → IsDesktopAt d (k - 1) here store → words ≡ deed_line here deed → IsDeedOf d k words store
  deed_words k deed here words led was line = λ past lies.
      deed_told past k here deed words (was past lies).is (led past lies).1 line

  -- and of a turn
  pub turn_words : (place next : Place) (deeds : PageDeeds) (k i : ℕ) (words : List ℕ) → IsTurned deeds → place.k < k
      → i ≡ k - 1 - place.k → i ≡ 0 → IsPageOf d place (IsRead deeds) next store → words ≡ turn_line → IsDeedOf d k words store
  turn_words place next deeds k i words turns low at none page line = λ past lies.
      let here = page past lies in
      let got = get_turn deeds here.page turns here.is in
      let few = got_low (deeds_in here.page) 0 (turned got.0) got.1 in
      let same : k - 1 - past.start.before ≡ place.k + 0 - past.start.before = omega (arith, at, low, none) in
      line ∙ sym (ap (told_at (moment past.start past.deeds (k - 1)))
      (ap (slice_get past.deeds) same ∙ deed_in_page past place next deeds here 0 few ∙ got.1))

  -- its last moment
  pub last_is : (extent : Extent) → IsExtentOf d extent store → IsLastOf d extent.last store
  last_is extent is = λ past lies.
      let r = past.keeps.remembers in
      let long = ap length (sym r.all) ∙ length-append (all_deeds r.pages) (all_posted r.standing.events) in
      let far = (is past lies).last in
      let many = many_posted r.standing.events in
      let before = r.past.counted in
      omega (arith, far, before, long, many)

  -- the words of a moment between the ends, and of those at the ends
  pub told_between : (extent : Extent) (k : ℕ) (words : List ℕ) (desktop : Desktop) → IsExtentOf d extent store
      → extent.first < k → (k ≡ extent.last → ⊥) → IsDesktopAt d k desktop store → IsDeedOf d k words store
      → IsToldOf d k words store
  told_between extent k words desktop is low other at deed = λ past lies.
      let first = (is past lies).first in
      let last = last_is extent is past lies in
      let most = (at past lies).there.high in
      let apart : k < extent.last = below k extent.last (omega (arith, last, most)) other in
      deed past lies ∙ sym (picks_not (nat_le k past.start.before) _ _ (keeps_out k past.start.before
      (omega (arith, first, low)))
      ∙ picks_not (nat_le (past.start.before + length past.deeds) k) _ _
      (keeps_out (past.start.before + length past.deeds) k (omega (arith, last, apart)))) where
        below : (a b : ℕ) → a ≤ b → (a ≡ b → ⊥) → a < b
        below a b le other = omega (arith, le, other)

  pub told_first : (extent : Extent) (k : ℕ) (words : List ℕ) → IsExtentOf d extent store → k ≤ extent.first
      → words ≡ codes "the oldest moment" → IsToldOf d k words store
  told_first extent k words is low words_are = λ past lies.
      let first = (is past lies).first in
      words_are ∙ sym (picks (nat_le k past.start.before) _ _ (lets_in k past.start.before (omega (arith, first, low))))

  pub told_last : (extent : Extent) (k : ℕ) (words : List ℕ) → IsExtentOf d extent store → extent.first < k
      → k ≡ extent.last → words ≡ codes "the present" → IsToldOf d k words store
  told_last extent k words is low same words_are = λ past lies.
      let first = (is past lies).first in
      let last = last_is extent is past lies in
      words_are ∙ sym (picks_not (nat_le k past.start.before) _ _ (keeps_out k past.start.before
      (omega (arith, first, low)))
      ∙ picks (nat_le (past.start.before + length past.deeds) k) _ _
      (lets_in (past.start.before + length past.deeds) k (omega (arith, last, same))))
