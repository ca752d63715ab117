-- The way to a moment, page by page. `d` is what is known of a disk.
use Rattle.std.proofs.Common.{◌≡◌, ◌∙◌, ◌+◌, ◌≤◌, ℕ, List, [], ◌∷◌, length, take, refl, sym, ap, subst, arith, true, false}
use Rattle.std.specs.Prelude.{Bool}
use Rattle.sector_disk.specs.Trail.{now}
use Rattle.sector_disk.specs.declared.disk.Disk.{Ghosts}
use Rattle.event_bytes.specs.declared.event.Event.{Event}
use Rattle.desktop_definitions.specs.Desktop.{Desktop}
use Rattle.desktop_definitions.specs.Step.{steps}
use Rattle.store_layout.specs.declared.layout.TheConstants.{STORE_SECTORS}
use Rattle.desk_journal.specs.View.{StoreView}
use Rattle.document_filing.specs.Bringing.{Documents}
use Rattle.past_pages.specs.Copies.{Sectors}
use Rattle.past_pages.specs.Page.{Page, of_copy, of_events, of_import, of_turn}
use Rattle.past_pages.specs.Reading.{HasCopy, IsKindOf, IsRead}
use Rattle.past_pages.specs.declared.pages.PageDeeds.{PageDeeds}
use Rattle.past_pages.specs.declared.pages.PageDeeds.TheVariants.{Mark as MarkRead}
use Rattle.past_pages.specs.declared.pages.PageKind.{PageKind}
use Rattle.past_pages.specs.declared.pages.PageKind.TheVariants as which
use Rattle.desk_past.specs.Deeds.{after_deeds, brought}
use Rattle.desk_past.specs.Past.{all_deeds, deeds_in, moment}
use Rattle.desk_past.proofs.Moments.{after_posted, many_posted, posted_first}
use Rattle.past_moments.specs.Moments.{GoesFrom, IsExtentOf, IsDesktopAt, IsMarkOf, IsPageOf, IsPagePlace, IsSameMoment, leg_behind}
use Rattle.past_moments.specs.declared.extent.Extent.{Extent}
use Rattle.past_moments.specs.declared.extent.Place.{Place}
use Rattle.past_moments.specs.declared.legs.Leg.{Leg}
use Rattle.past_moments.specs.declared.legs.Source.TheVariants.{Copy}
use Rattle.past_moments.specs.declared.marks.Mark.{Mark}
use Rattle.past_moments.proofs.Walking.{copy_in, far_leads, mark_leads, moment_at, moment_in, moment_in_journal, moment_next, moment_turned}
use Rattle.past_moments.proofs.Walking.{next_place, place_of, turn_in}

module _ {D : Type 0} (d : Ghosts D) {store : StoreView D} where
  -- the first page begins behind the start
  pub first_place : (extent : Extent) (place : Place) → place.at ≡ extent.base + STORE_SECTORS → place.k ≡ extent.first
      → IsExtentOf d extent store → IsPagePlace d place store
  first_place extent place at count is = λ past lies.
      let far = is past lies in
      let first = far.first in
      record {
        front = [];
        todo = past.keeps.remembers.pages;
        parts = refl;
        at = at ∙ ap (λ n. n + STORE_SECTORS) far.base;
        count = omega (arith, count, first);
      }

  -- another page begins behind it
  pub place_behind : (place next : Place) (such : Page → Type 0) → IsPageOf d place such next store
      → IsPagePlace d next store
  place_behind place next such is = λ past lies. next_place d past place next such (is past lies)

  -- the last leg behind a page
  pub leg_place : (leg : Leg) (here next : Place) (kind : PageKind) → IsPagePlace d leg.place store
      → IsPageOf d here (IsKindOf kind) next store → IsPagePlace d (leg_behind leg kind here.at next).place store
  leg_place leg here next (which.Events n) at is = at
  leg_place leg here next which.Import at is = at
  leg_place leg here next (which.Turn to) at is = place_behind here next (IsKindOf (which.Turn to)) is
  leg_place leg here next which.FarTurn at is = place_behind here next (IsKindOf which.FarTurn) is
  leg_place leg here next which.Mark at is = place_behind here next (IsKindOf which.Mark) is

  pub leg_goes : (leg : Leg) (here next : Place) (kind : PageKind) → GoesFrom d leg.place leg.from store
      → IsPageOf d here (IsKindOf kind) next store
      → GoesFrom d (leg_behind leg kind here.at next).place (leg_behind leg kind here.at next).from store
  leg_goes leg here next (which.Events n) goes is = goes
  leg_goes leg here next which.Import goes is = goes
  leg_goes leg here next (which.Turn to) goes is = λ past lies.
      let page = is past lies in moment_turned d past here next (IsKindOf (which.Turn to)) page to page.is
  leg_goes leg here next which.FarTurn goes is = λ past lies.
      let page = is past lies in
      copy_in d past here next (IsKindOf which.FarTurn) page
      (far_leads past.start page.page (all_deeds page.front) page.is)
  leg_goes leg here next which.Mark goes is = λ past lies.
      let page = is past lies in
      copy_in d past here next (IsKindOf which.Mark) page (mark_leads past.start page.page (all_deeds page.front) page.is
      (turn_in d past here next (IsKindOf which.Mark) page))

  -- a moment behind some of the deeds of a page
  pub moment_part : (place next : Place) (deeds : PageDeeds) (before after : Desktop) (count : ℕ)
      → IsPageOf d place (IsRead deeds) next store → IsDesktopAt d place.k before store
      → ((p : Page) → IsRead deeds p → (count ≤ length (deeds_in p)) × (after ≡ after_deeds before (take count (deeds_in p))))
      → IsDesktopAt d (place.k + count) after store
  unfolding place_of
  moment_part place next deeds before after count is was done = λ past lies.
      let page = is past lies in
      let old = was past lies in
      let fact = done page.page page.is in
      let there = moment_in d past place next (IsRead deeds) page count fact.0 in
      let at = moment_at d past place (place_of d past place next (IsRead deeds) page) in
      record {
        there = there.0;
        is = fact.1 ∙ ap (λ x. after_deeds x (take count (deeds_in page.page))) (old.is ∙ at.1) ∙ sym there.1;
      }

  -- and behind all of them
  pub moment_whole : (place next : Place) (deeds : PageDeeds) (before after : Desktop) → IsPageOf d place (IsRead deeds) next store
      → IsDesktopAt d place.k before store
      → ((p : Page) → IsRead deeds p → after ≡ after_deeds before (deeds_in p)) → IsDesktopAt d next.k after store
  unfolding place_of
  moment_whole place next deeds before after is was done = λ past lies.
      let page = is past lies in
      let old = was past lies in
      let there = moment_next d past place next (IsRead deeds) page in
      let at = moment_at d past place (place_of d past place next (IsRead deeds) page) in
      record {
        there = there.0;
        is = done page.page page.is ∙ ap (λ x. after_deeds x (deeds_in page.page)) (old.is ∙ at.1) ∙ sym there.1;
      }

  -- so the mark goes on
  pub mark_next : (mark new : Mark) (next : Place) (deeds : PageDeeds) → IsMarkOf d mark store
      → IsPageOf d mark.place (IsRead deeds) next store → new.place ≡ next
      → ((p : Page) → IsRead deeds p → new.shown.desktop ≡ after_deeds mark.shown.desktop (deeds_in p))
      → IsMarkOf d new store
  mark_next mark new next deeds is page at done = record {
    place = subst (λ x. IsPagePlace d x store) (sym at) (place_behind mark.place next (IsRead deeds) page);
    shown = subst (λ (x : Place). IsDesktopAt d x.k new.shown.desktop store) (sym at)
        (moment_whole mark.place next deeds mark.shown.desktop new.shown.desktop page is.shown done);
  }

  -- behind a turn it was what it was at the moment to which the turn leads
  pub moment_turn : (place : Place) (from : ℕ) (desktop : Desktop) → IsPagePlace d place store
      → IsSameMoment d place.k from store → IsDesktopAt d from desktop store → IsDesktopAt d place.k desktop store
  moment_turn place from desktop is same was = λ past lies. record {
    there = (moment_at d past place (is past lies)).0;
    is = (was past lies).is ∙ sym (same past lies);
  }

  -- and behind a page with a desktop it was that one
  pub moment_copy : (extent : Extent) (place : Place) (at : ℕ) (desktop : Desktop) → IsExtentOf d extent store
      → IsPagePlace d place store → GoesFrom d place (Copy at) store → (d.honest store.disk → (to : Desktop)
      → HasCopy (now (d.trail store.disk)).reads at extent.end to → extent.end ≤ d.size store.disk → desktop ≡ to)
      → IsDesktopAt d place.k desktop store
  moment_copy extent place at desktop reaches is goes found = λ past lies.
      let end = (reaches past lies).end in
      let to = moment past.start past.deeds place.k in
      record {
        there = (moment_at d past place (is past lies)).0;
        is = found past.honest to
            (subst (λ n. HasCopy (now (d.trail store.disk)).reads at n to) (sym end) (goes past lies))
            (subst (λ n. n ≤ d.size store.disk) (sym end) past.keeps.remembers.past.room);
      }

  -- and one in the journal in use
  pub moment_late : (extent : Extent) (place : Place) (before after : Desktop) (count : ℕ) → IsExtentOf d extent store
      → IsPagePlace d place store → IsDesktopAt d place.k before store → extent.end ≤ place.at
      → count ≤ length extent.journal.items → after ≡ steps before (take count extent.journal.items)
      → IsDesktopAt d (place.k + count) after store
  moment_late extent place before after count reaches is was high few done = λ past lies.
      let far = reaches past lies in
      let here = is past lies in
      let old = was past lies in
      let there = moment_in_journal d past place here extent.end count far.end high
      (subst (λ (l : List Event). count ≤ length l) far.journal few) in
      let at = moment_at d past place here in
      record {
        there = there.0;
        is = done ∙ (λ i. steps ((old.is ∙ at.1) i) (take count (far.journal i))) ∙ sym there.1;
      }

  -- none of them
  pub moment_same : (place : Place) (desktop : Desktop) (count : ℕ) → IsDesktopAt d place.k desktop store → count ≡ 0
      → IsDesktopAt d (place.k + count) desktop store
  moment_same place desktop count was none =
      let same : place.k ≡ place.k + count = omega (arith, none) in
      subst (λ k. IsDesktopAt d k desktop store) same was

-- ---- what a page says, done once more

-- the events of a page
pub done_events : (all : PageDeeds) (p : Page) (items : List Event) (before after : Desktop)
    → ((version : ℕ) (page : List Event) → IsRead all (of_events version page) → items ≡ page)
    → ((version : ℕ) (documents : Documents) → IsRead all (of_import version documents) → ⊥)
    → ((version k : ℕ) (to : Desktop) → IsRead all (of_turn version k to) → ⊥)
    → ((version : ℕ) (far : Bool) (sectors : Sectors) (to : Desktop) → IsRead all (of_copy version far sectors to) → ⊥)
    → IsRead all p → after ≡ steps before items
    → after ≡ after_deeds before (deeds_in p)
done_events all (of_events version page) items before after same other others copies read done =
    done ∙ ap (steps before) (same version page read) ∙ sym (after_posted before page)
done_events all (of_import version documents) items before after same other others copies read done =
    absurd (other version documents read)
done_events all (of_turn version k to) items before after same other others copies read done = absurd (others version k to read)
done_events all (of_copy version far sectors to) items before after same other others copies read done =
    absurd (copies version far sectors to read)

-- its first events
pub done_front : (all : PageDeeds) (p : Page) (count : ℕ) (items : List Event) (before after : Desktop)
    → ((version : ℕ) (page : List Event) → IsRead all (of_events version page) → items ≡ page)
    → ((version : ℕ) (documents : Documents) → IsRead all (of_import version documents) → ⊥)
    → ((version k : ℕ) (to : Desktop) → IsRead all (of_turn version k to) → ⊥)
    → ((version : ℕ) (far : Bool) (sectors : Sectors) (to : Desktop) → IsRead all (of_copy version far sectors to) → ⊥)
    → IsRead all p
    → (count ≤ length items) × (after ≡ steps before (take count items))
    → (count ≤ length (deeds_in p)) × (after ≡ after_deeds before (take count (deeds_in p)))
done_front all (of_events version page) count items before after same other others copies read done = (
  (let long = many_posted page in let here = ap length (same version page read) in omega (arith, done.0, long, here)),
  done.1 ∙ ap (λ l. steps before (take count l)) (same version page read) ∙ sym (after_posted before (take count page))
      ∙ ap (after_deeds before) (sym (posted_first count page)),
)
done_front all (of_import version documents) count items before after same other others copies read done =
    absurd (other version documents read)
done_front all (of_turn version k to) count items before after same other others copies read done =
    absurd (others version k to read)
done_front all (of_copy version far sectors to) count items before after same other others copies read done =
    absurd (copies version far sectors to read)

-- an import
pub done_import : (all : PageDeeds) (p : Page) (items : Documents) (before after : Desktop)
    → ((version : ℕ) (events : List Event) → IsRead all (of_events version events) → ⊥)
    → ((version : ℕ) (page : Documents) → IsRead all (of_import version page) → items ≡ page)
    → ((version k : ℕ) (to : Desktop) → IsRead all (of_turn version k to) → ⊥)
    → ((version : ℕ) (far : Bool) (sectors : Sectors) (to : Desktop) → IsRead all (of_copy version far sectors to) → ⊥)
    → IsRead all p
    → after ≡ after_deeds before (brought items ∷ []) → after ≡ after_deeds before (deeds_in p)
done_import all (of_events version events) items before after other same others copies read done =
    absurd (other version events read)
done_import all (of_import version page) items before after other same others copies read done =
    done ∙ ap (λ l. after_deeds before (brought l ∷ [])) (same version page read)
done_import all (of_turn version k to) items before after other same others copies read done = absurd (others version k to read)
done_import all (of_copy version far sectors to) items before after other same others copies read done =
    absurd (copies version far sectors to read)

-- a mark, which says nothing
pub done_mark : (p : Page) (shown : Desktop) → IsRead MarkRead p → shown ≡ after_deeds shown (deeds_in p)
done_mark (of_events version events) shown read = absurd read
done_mark (of_import version documents) shown read = absurd read
done_mark (of_turn version k to) shown read = absurd read
done_mark (of_copy version false sectors to) shown read = refl
done_mark (of_copy version true sectors to) shown read = absurd read
