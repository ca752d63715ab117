-- Places of a past, one behind another, and what the desktop was there. `d` is what is known of a disk.
use Rattle.std.proofs.Common.{◌≡◌, ◌+◌, ◌-◌, ◌<◌, ◌≤◌, ℕ, List, [], ◌∷◌, ◌++◌, length, take, refl, sym, ◌∙◌, ap}
use Rattle.std.proofs.Common.{subst, arith, length-append, true, false}
use Rattle.std.specs.Prelude.{Bool}
use Rattle.std.proofs.lemmas.List.{take-append-le, take_all}
use Rattle.std.proofs.Math.Seq.{take-append-add}
use Rattle.sector_disk.specs.declared.disk.Disk.{Ghosts}
use Rattle.sector_disk.specs.Stored.{HoldsBytes}
use Rattle.sector_disk.specs.Trail.{Content, now}
use Rattle.desktop_definitions.specs.Desktop.{Desktop}
use Rattle.desktop_definitions.specs.Step.{steps}
use Rattle.desk_journal.specs.View.{StoreView}
use Rattle.past_pages.specs.Copies.{Sectors}
use Rattle.past_pages.specs.Page.{Page, of_copy, of_events, of_import, of_turn, page_bytes, page_sectors}
use Rattle.past_pages.specs.Reading.{HasCopy, HasPage, IsKindOf, IsRead, kind_count}
use Rattle.past_pages.specs.declared.pages.PageDeeds.{PageDeeds}
use Rattle.past_pages.specs.declared.pages.PageKind.{PageKind}
use Rattle.past_pages.specs.declared.pages.PageKind.TheVariants as which
use Rattle.desk_past.specs.Deeds.{PastDeed, after_deeds, all_posted}
use Rattle.desk_past.specs.Past.{HasPages, deeds_in, end_of_pages}
use Rattle.desk_past.specs.Past.{AreGood, AreTurns, HasMoment, IsTurn, Start, all_deeds, first_page, moment}
use Rattle.desk_past.specs.Reading.{many_deeds}
use Rattle.desk_past.specs.Turning.{PastOf}
use Rattle.desk_past.proofs.Carrying.{end_above}
use Rattle.desk_past.proofs.Legs.{kind_many}
use Rattle.desk_past.proofs.Moments.{after_both, after_posted, deeds_of_both, joined, many_posted, nil_right, posted_first}
use Rattle.desk_past.proofs.Stepping.{read_many}
use Rattle.past_moments.specs.Moments.{IsPageIn, IsPlaceIn}
use Rattle.past_moments.specs.declared.extent.Place.{Place}

-- ---- pages behind others

ends_both : (front todo : List Page) (at : ℕ)
    → end_of_pages at (front ++ todo) ≡ end_of_pages (end_of_pages at front) todo
ends_both [] todo at = refl
ends_both (p ∷ front) todo at = ends_both front todo (at + page_sectors p)

held_both : (front todo : List Page) (c : Content) (at : ℕ) → HasPages c at (front ++ todo)
    → HasPages c (end_of_pages at front) todo
held_both [] todo c at has = has
held_both (p ∷ front) todo c at has = held_both front todo c (at + page_sectors p) has.1

good_both : (front todo : List Page) → AreGood (front ++ todo) → AreGood todo
good_both [] todo good = good
good_both (p ∷ front) todo good = good_both front todo good.1

turns_behind : (start : Start) (front todo : List Page) (lead : List PastDeed) → AreTurns start lead (front ++ todo)
    → AreTurns start (lead ++ all_deeds front) todo
turns_behind start [] todo lead turns = subst (λ l. AreTurns start l todo) (sym (nil_right lead)) turns
turns_behind start (p ∷ front) todo lead turns =
    subst (λ l. AreTurns start l todo) (joined lead (deeds_in p) (all_deeds front))
    (turns_behind start front todo (lead ++ deeds_in p) turns.1)

-- what a turn leads to
turned_to : (start : Start) (p : Page) (lead : List PastDeed) (before : Desktop) (to : ℕ) → IsKindOf (which.Turn to) p
    → IsTurn start lead p → HasMoment start lead to × (after_deeds before (deeds_in p) ≡ moment start lead to)
turned_to start (of_events version events) lead before to is turn = absurd is
turned_to start (of_import version documents) lead before to is turn = absurd is
turned_to start (of_turn version k desktop) lead before to is turn = (
  subst (HasMoment start lead) (sym is) turn.0,
  turn.1 ∙ ap (moment start lead) (sym is),
)
turned_to start (of_copy version false sectors desktop) lead before to is turn = absurd is
turned_to start (of_copy version true sectors desktop) lead before to is turn = absurd is

-- the page has a desktop, to which it leads
pub record LeadsToCopy (start : Start) (lead : List PastDeed) (p : Page) : Type 0 where
  pub version : ℕ
  pub far : Bool
  pub sectors : Sectors
  pub to : Desktop
  pub is : p ≡ of_copy version far sectors to
  pub leads : after_deeds (after_deeds start.desktop lead) (deeds_in p) ≡ to

pub mark_leads : (start : Start) (p : Page) (lead : List PastDeed) → IsKindOf which.Mark p → IsTurn start lead p
    → LeadsToCopy start lead p
mark_leads start (of_events version events) lead is turn = absurd is
mark_leads start (of_import version documents) lead is turn = absurd is
mark_leads start (of_turn version k desktop) lead is turn = absurd is
mark_leads start (of_copy version false sectors desktop) lead is turn = record {
  version = version;
  far = false;
  sectors = sectors;
  to = desktop;
  is = refl;
  leads = sym turn;
}
mark_leads start (of_copy version true sectors desktop) lead is turn = absurd is

pub far_leads : (start : Start) (p : Page) (lead : List PastDeed) → IsKindOf which.FarTurn p → LeadsToCopy start lead p
far_leads start (of_events version events) lead is = absurd is
far_leads start (of_import version documents) lead is = absurd is
far_leads start (of_turn version k desktop) lead is = absurd is
far_leads start (of_copy version false sectors desktop) lead is = absurd is
far_leads start (of_copy version true sectors desktop) lead is = record {
  version = version;
  far = true;
  sectors = sectors;
  to = desktop;
  is = refl;
  leads = refl;
}

joined_pages : (a b c : List Page) → (a ++ b) ++ c ≡ a ++ (b ++ c)
joined_pages [] b c = refl
joined_pages (p ∷ a) b c = ap (λ r. p ∷ r) (joined_pages a b c)

module _ {D : Type 0} (d : Ghosts D) {store : StoreView D} (past : PastOf d store) where
  abbrev front_done : List Page → Desktop
  front_done front = after_deeds past.start.desktop (all_deeds front)

  -- all deeds of the past, those of some pages first
  pub deeds_front : (front todo : List Page) → past.keeps.remembers.pages ≡ front ++ todo
      → past.deeds ≡ all_deeds front ++ (all_deeds todo ++ all_posted past.keeps.remembers.standing.events)
  deeds_front front todo parts =
      let events = all_posted past.keeps.remembers.standing.events in
      sym past.keeps.remembers.all ∙ ap (λ l. all_deeds l ++ events) parts
      ∙ ap (λ l. l ++ events) (deeds_of_both front todo) ∙ joined (all_deeds front) (all_deeds todo) events

  -- a moment behind some pages, by so many of the deeds that come next
  pub moment_behind : (front todo : List Page) → past.keeps.remembers.pages ≡ front ++ todo → (more rest : List PastDeed)
      → all_deeds todo ++ all_posted past.keeps.remembers.standing.events ≡ more ++ rest → (k n : ℕ)
      → k ≡ past.start.before + length (all_deeds front) → n ≤ length more
      → HasMoment past.start past.deeds (k + n)
      × (moment past.start past.deeds (k + n) ≡ after_deeds (front_done front) (take n more))
  moment_behind front todo parts more rest next k n at few =
      let all = deeds_front front todo parts ∙ ap (λ l. all_deeds front ++ l) next in
      let long = ap length all ∙ length-append (all_deeds front) (more ++ rest) in
      let long_more = length-append more rest in
      let count : k + n - past.start.before ≡ length (all_deeds front) + n = omega (arith, at) in (
        record { low = omega (arith, at); high = omega (arith, at, few, long, long_more) },
        ap (after_deeds past.start.desktop) (
            (λ i. take (count i) (all i))
            ∙ take-append-add (all_deeds front) (more ++ rest) n
            ∙ ap (λ l. all_deeds front ++ l) (take-append-le n more rest few)
            )
            ∙ after_both past.start.desktop (all_deeds front) (take n more),
      )

  -- where a page begins
  pub moment_at : (place : Place) (is : IsPlaceIn d past place) → HasMoment past.start past.deeds place.k
      × (moment past.start past.deeds place.k ≡ front_done is.front)
  moment_at place is =
      let fact = moment_behind is.front is.todo is.parts []
      (all_deeds is.todo ++ all_posted past.keeps.remembers.standing.events) refl place.k 0 is.count (omega arith) in
      let same : place.k + 0 ≡ place.k = omega arith in
      (subst (HasMoment past.start past.deeds) same fact.0, ap (moment past.start past.deeds) (sym same) ∙ fact.1)

  -- ---- a page that was read

  -- a page stands where one begins, before the end
  pub page_there : (place : Place) (end : ℕ) (is : IsPlaceIn d past place)
      → end ≡ past.keeps.remembers.standing.past.next → place.at < end
      → (p : Page) × (more : List Page) × (is.todo ≡ p ∷ more) × HasPage (now (d.trail store.disk)).reads place.at end p
  page_there place end is ends low =
      let r = past.keeps.remembers in
      let first = first_page past.start in
      let up_to : end_of_pages place.at is.todo ≡ end =
      ap (λ n. end_of_pages n is.todo) is.at ∙ sym (ends_both is.front is.todo first)
      ∙ ap (end_of_pages first) (sym is.parts) ∙ r.past.up_to ∙ sym ends in
      let held : HasPages (now (d.trail store.disk)).reads place.at is.todo =
      subst (λ n. HasPages (now (d.trail store.disk)).reads n is.todo) (sym is.at)
      (held_both is.front is.todo (now (d.trail store.disk)).reads first
      (subst (HasPages (now (d.trail store.disk)).reads first) is.parts r.past.written.1)) in
      let good = good_both is.front is.todo (subst AreGood is.parts r.past.good) in
      first_of is.todo place.at end held good up_to low where
        first_of : (todo : List Page) (at end : ℕ) → HasPages (now (d.trail store.disk)).reads at todo → AreGood todo
            → end_of_pages at todo ≡ end → at < end
            → (p : Page) × (more : List Page) × (todo ≡ p ∷ more) × HasPage (now (d.trail store.disk)).reads at end p
        first_of [] at end held good up_to low = absurd (omega (arith, up_to, low))
        first_of (p ∷ more) at end held good up_to low =
            let far = end_above more (at + page_sectors p) in
            (p, more, refl, record { held = held.0; good = good.0; within = omega (arith, far, up_to) })

  page_found : (place next : Place) (such : Page → Type 0) (is : IsPlaceIn d past place) (p : Page) (more : List Page)
      → is.todo ≡ p ∷ more → such p → next.at ≡ place.at + page_sectors p → next.k ≡ place.k + length (deeds_in p)
      → IsPageIn d past place such next
  page_found place next such is p more first page at count = record {
    front = is.front;
    page = p;
    todo = more;
    parts = is.parts ∙ ap (λ l. is.front ++ l) first;
    at = is.at;
    count = is.count;
    is = page;
    next_at = at;
    next_count = count;
  }

  pub page_read : (place next : Place) (deeds : PageDeeds) (is : IsPlaceIn d past place) (p : Page) (more : List Page)
      → is.todo ≡ p ∷ more → IsRead deeds p → next.at ≡ place.at + page_sectors p → next.k ≡ place.k + many_deeds deeds
      → IsPageIn d past place (IsRead deeds) next
  page_read place next deeds is p more first read at count = page_found place next (IsRead deeds) is p more first read at
      (count ∙ ap (λ n. place.k + n) (read_many deeds p read))

  pub front_read : (place next : Place) (kind : PageKind) (is : IsPlaceIn d past place) (p : Page) (more : List Page)
      → is.todo ≡ p ∷ more → IsKindOf kind p → next.at ≡ place.at + page_sectors p → next.k ≡ place.k + kind_count kind
      → IsPageIn d past place (IsKindOf kind) next
  front_read place next kind is p more first read at count = page_found place next (IsKindOf kind) is p more first read at
      (count ∙ ap (λ n. place.k + n) (kind_many kind p read))

  module _ (place next : Place) (such : Page → Type 0) (is : IsPageIn d past place such next) where
    front_more : all_deeds (is.front ++ is.page ∷ []) ≡ all_deeds is.front ++ deeds_in is.page
    front_more = deeds_of_both is.front (is.page ∷ []) ∙ ap (λ l. all_deeds is.front ++ l) (nil_right (deeds_in is.page))

    -- another one begins behind it
    pub next_place : IsPlaceIn d past next
    next_place = record {
      front = is.front ++ is.page ∷ [];
      todo = is.todo;
      parts = is.parts ∙ sym (joined_pages is.front (is.page ∷ []) is.todo);
      at = is.next_at ∙ ap (λ n. n + page_sectors is.page) is.at
          ∙ sym (ends_both is.front (is.page ∷ []) (first_page past.start));
      count = let long = ap length front_more ∙ length-append (all_deeds is.front) (deeds_in is.page) in
          omega (arith, is.next_count, is.count, long);
    }

    -- a moment behind so many of its deeds
    pub moment_in : (n : ℕ) → n ≤ length (deeds_in is.page) → HasMoment past.start past.deeds (place.k + n)
        × (moment past.start past.deeds (place.k + n) ≡ after_deeds (front_done is.front) (take n (deeds_in is.page)))
    moment_in n few =
        let events = all_posted past.keeps.remembers.standing.events in
        moment_behind is.front (is.page ∷ is.todo) is.parts (deeds_in is.page) (all_deeds is.todo ++ events)
        (joined (deeds_in is.page) (all_deeds is.todo) events) place.k n is.count few

    unfoldable pub place_of : IsPlaceIn d past place
    place_of = record { front = is.front; todo = is.page ∷ is.todo; parts = is.parts; at = is.at; count = is.count }

    -- all of it was done
    pub moment_next : HasMoment past.start past.deeds next.k
        × (moment past.start past.deeds next.k ≡ after_deeds (front_done is.front) (deeds_in is.page))
    moment_next =
        let fact = moment_in (length (deeds_in is.page)) (omega arith) in
        let same : place.k + length (deeds_in is.page) ≡ next.k = sym is.next_count in (
          subst (HasMoment past.start past.deeds) same fact.0,
          ap (moment past.start past.deeds) (sym same) ∙ fact.1
              ∙ ap (after_deeds (front_done is.front)) (take_all (length (deeds_in is.page)) (deeds_in is.page) (omega arith)),
        )

    -- what it leads to, if it is a turn or has a desktop
    pub turn_in : IsTurn past.start (all_deeds is.front) is.page
    turn_in = (turns_behind past.start is.front (is.page ∷ is.todo) []
        (subst (AreTurns past.start []) is.parts past.keeps.remembers.past.turns)).0

    -- behind a turn the desktop is what it was at its moment
    pub moment_turned : (to : ℕ) → IsKindOf (which.Turn to) is.page
        → moment past.start past.deeds next.k ≡ moment past.start past.deeds to
    moment_turned to kind =
        let rest = all_deeds (is.page ∷ is.todo) ++ all_posted past.keeps.remembers.standing.events in
        let fact = turned_to past.start is.page (all_deeds is.front) (front_done is.front) to kind turn_in in
        moment_next.1 ∙ fact.1 ∙ ap (after_deeds past.start.desktop) (
        sym (take-append-le (to - past.start.before) (all_deeds is.front) rest
        (omega (arith, fact.0.low, fact.0.high)))
        ∙ ap (take (to - past.start.before)) (sym (deeds_front is.front (is.page ∷ is.todo) is.parts))
        )

    -- it stands there
    page_held : HasPage (now (d.trail store.disk)).reads place.at past.keeps.remembers.standing.past.next is.page
    page_held =
        let r = past.keeps.remembers in
        let first = first_page past.start in
        let c = (now (d.trail store.disk)).reads in
        let held = held_both is.front (is.page ∷ is.todo) c first (subst (HasPages c first) is.parts r.past.written.1) in
        let up_to : end_of_pages (end_of_pages first is.front + page_sectors is.page) is.todo ≡ r.standing.past.next =
        sym (ends_both is.front (is.page ∷ is.todo) first) ∙ ap (end_of_pages first) (sym is.parts) ∙ r.past.up_to in
        let far = end_above is.todo (end_of_pages first is.front + page_sectors is.page) in
        let at = is.at in
        record {
          held = subst (λ n. HoldsBytes c n (page_bytes is.page)) (sym is.at) held.0;
          good = (good_both is.front (is.page ∷ is.todo) (subst AreGood is.parts r.past.good)).0;
          within = omega (arith, far, up_to, at);
        }

    -- behind a page with a desktop it is that desktop
    pub copy_in : LeadsToCopy past.start (all_deeds is.front) is.page
        → HasCopy (now (d.trail store.disk)).reads place.at past.keeps.remembers.standing.past.next
        (moment past.start past.deeds next.k)
    copy_in copy =
        let c = (now (d.trail store.disk)).reads in
        let end = past.keeps.remembers.standing.past.next in
        subst (HasCopy c place.at end) (sym (moment_next.1 ∙ copy.leads)) (record {
          version = copy.version;
          far = copy.far;
          sectors = copy.sectors;
          page = subst (HasPage c place.at end) copy.is page_held;
        })

  -- behind the last page no other one begins
  pub none_todo : (place : Place) (is : IsPlaceIn d past place) (end : ℕ)
      → end ≡ past.keeps.remembers.standing.past.next → end ≤ place.at → is.todo ≡ []
  none_todo place is end ends high =
      let first = first_page past.start in
      let up_to : end_of_pages place.at is.todo ≡ end =
      ap (λ k. end_of_pages k is.todo) is.at ∙ sym (ends_both is.front is.todo first)
      ∙ ap (end_of_pages first) (sym is.parts) ∙ past.keeps.remembers.past.up_to ∙ sym ends in
      none_of is.todo place.at end up_to high where
        none_of : (todo : List Page) (at end : ℕ) → end_of_pages at todo ≡ end → end ≤ at → todo ≡ []
        none_of [] at end up_to high = refl
        none_of (p ∷ more) at end up_to high =
            let far = end_above more (at + page_sectors p) in absurd (omega (arith, up_to, high, far))

  -- so many events of the journal in use
  pub moment_in_journal : (place : Place) (is : IsPlaceIn d past place) (end n : ℕ)
      → end ≡ past.keeps.remembers.standing.past.next → end ≤ place.at
      → n ≤ length past.keeps.remembers.standing.events
      → HasMoment past.start past.deeds (place.k + n)
      × (moment past.start past.deeds (place.k + n)
      ≡ steps (front_done is.front) (take n past.keeps.remembers.standing.events))
  moment_in_journal place is end n ends high few =
      let r = past.keeps.remembers in
      let fact = moment_behind is.front is.todo is.parts (all_posted r.standing.events) []
      (ap (λ l. all_deeds l ++ all_posted r.standing.events) (none_todo place is end ends high)
      ∙ sym (nil_right (all_posted r.standing.events))) place.k n is.count
      (let long = many_posted r.standing.events in omega (arith, long, few)) in (
        fact.0,
        fact.1 ∙ ap (after_deeds (front_done is.front)) (posted_first n r.standing.events)
            ∙ after_posted (front_done is.front) (take n r.standing.events),
      )
