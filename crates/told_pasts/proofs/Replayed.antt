-- Pages that are told, turns among them.
use Rattle.std.proofs.Common.{◌≡◌, ◌+◌, ◌-◌, ◌<◌, ◌≤◌, ℕ, List, [], ◌∷◌, ◌++◌, length, refl, sym, ◌∙◌, ap, subst}
use Rattle.std.proofs.Common.{arith, length-append, append_assoc, true, false}
use Rattle.std.proofs.lemmas.List.{append-nil, take-append-le}
use Rattle.std.specs.declared.option.Option.{Option}
use Rattle.std.specs.Prelude.{Bool, Some, None}
use Rattle.sector_disk.specs.declared.disk.Disk.{Ghosts}
use Rattle.sector_disk.specs.Trail.{Content, now}
use Rattle.desktop_definitions.specs.Desktop.{Desktop}
use Rattle.desk_journal.specs.View.{StoreView}
use Rattle.document_filing.specs.Bringing.{Documents}
use Rattle.event_bytes.specs.declared.event.Event.{Event}
use Rattle.past_pages.specs.declared.pages.PageDeeds.{PageDeeds}
use Rattle.past_pages.specs.declared.pages.PageDeeds.TheVariants.{FarTurn, Mark}
use Rattle.past_pages.specs.Copies.{Sectors}
use Rattle.past_pages.specs.Page.{Page, of_copy, of_events, of_import, of_turn, page_sectors}
use Rattle.past_pages.specs.Reading.{HasPage, IsOnlyReadFrom, IsQuiet, IsRead}
use Rattle.past_pages.proofs.StillReads.{still_reads}
use Rattle.desk_past.specs.Deeds.{PastDeed, after_deeds, all_posted, brought, turned}
use Rattle.desk_past.specs.Past.{HasPages, deeds_in, end_of_pages}
use Rattle.desk_past.specs.Past.{AreGood, AreTurns, HasMoment, IsTurn, Remembers, Start, all_deeds, moment}
use Rattle.desk_past.proofs.Moments.{after_both, joined}
use Rattle.desk_past.proofs.TurnedBack.{past_behind}
use Rattle.told_pasts.specs.Reaching.{HasReach}
use Rattle.told_pasts.specs.Telling.{GoesBack, HasDesktop, IsAmid, IsAtPage, IsToldOn, IsToldOver, IsToShow}
use Rattle.told_pasts.specs.Words.{told_lines, turn_line}
use Rattle.told_pasts.specs.declared.reach.Reach.{Reach}
use Rattle.told_pasts.proofs.Counted.{first_page, none_left, some_left}
use Rattle.told_pasts.proofs.Lines.{lines_both}
use Rattle.told_pasts.proofs.Reached.{its_room}

-- ---- turns

-- each turn of these pages leads to what the desktop was at its moment
abbrev pub LeadBack : Start → List PastDeed → List Page → Type 0
LeadBack start deeds [] = Unit {0}
LeadBack start deeds (p ∷ pages) = GoesBack start deeds p × LeadBack start deeds pages

-- a moment of some deeds is one of all
turn_of_all : (start : Start) (some more : List PastDeed) (p : Page) → IsTurn start some p
    → GoesBack start (some ++ more) p
turn_of_all start some more (of_events version events) turn = tt
turn_of_all start some more (of_import version documents) turn = tt
turn_of_all start some more (of_turn version k to) turn =
    let low = turn.0.low in
    let high = turn.0.high in
    let long = length-append some more in (
      record { low = low; high = omega (arith, high, long) },
      turn.1 ∙ ap (after_deeds start.desktop)
          (sym (take-append-le (k - start.before) some more (omega (arith, low, high)))),
    )
turn_of_all start some more (of_copy version far sectors to) turn = tt

pub lead_back : (start : Start) (pages : List Page) (some rest : List PastDeed) → AreTurns start some pages
    → LeadBack start (some ++ (all_deeds pages ++ rest)) pages
lead_back start [] some rest turns = tt
lead_back start (p ∷ pages) some rest turns = (
  turn_of_all start some ((deeds_in p ++ all_deeds pages) ++ rest) p turns.0,
  subst (λ l. LeadBack start l pages)
      (joined some (deeds_in p) (all_deeds pages ++ rest)
      ∙ ap (λ l. some ++ l) (sym (joined (deeds_in p) (all_deeds pages) rest)))
      (lead_back start pages (some ++ deeds_in p) rest turns.1),
)

-- so do those of a past
pub past_leads : {size : ℕ} {start : Start} {deeds : List PastDeed} {desktop : Desktop} {c : Content}
    (r : Remembers size start deeds desktop c) → LeadBack start deeds r.pages
past_leads {start = start} r = subst (λ l. LeadBack start l r.pages) r.all
    (lead_back start r.pages [] (all_posted r.standing.events) r.past.turns)

-- ---- what is due

module _ {D : Type 0} (d : Ghosts D) {store : StoreView D} {base : ℕ} {due : Option ℕ} {shown : Desktop}
    (a : IsAmid d store base due shown) where
  pub none_due : due ≡ None → shown ≡ a.here
  none_due none = subst (λ x. IsToShow a.past.start a.past.deeds x shown a.here) none a.shows

  pub turn_due : {k : ℕ} → due ≡ Some k → HasMoment a.past.start a.past.deeds k
      × (a.here ≡ moment a.past.start a.past.deeds k)
  turn_due some = subst (λ x. IsToShow a.past.start a.past.deeds x shown a.here) some a.shows

-- ---- what was told

module _ {start : Start} {deeds : List PastDeed} where
  pub nothing_told : {due : Option ℕ} {shown here : Desktop} (lines : List (List ℕ))
      → IsToShow start deeds due shown here → IsToldOver start deeds here [] due shown lines lines
  nothing_told lines shows = record { shows = shows; lines = sym (append-nil lines) }

  pub no_events_told : {due : Option ℕ} {shown here : Desktop} (events : List Event) (lines : List (List ℕ))
      → length events ≡ 0 → IsToShow start deeds due shown here
      → IsToldOver start deeds here (all_posted events) due shown lines lines
  no_events_told [] lines none shows = nothing_told lines shows
  no_events_told (event ∷ events) lines none shows = absurd (omega (arith, none))

  pub turn_told : {k : ℕ} {here to : Desktop} {due : Option ℕ} {shown : Desktop} {some more : List (List ℕ)}
      → HasMoment start deeds k → to ≡ moment start deeds k → due ≡ Some k → more ≡ some ++ turn_line ∷ []
      → IsToldOver start deeds here (turned to ∷ []) due shown some more
  turn_told {to = to} {shown = shown} within is some added = record {
    shows = subst (λ x. IsToShow start deeds x shown to) (sym some) (within, is);
    lines = added;
  }

  -- a turn to a desktop that is shown then
  pub desktop_told : {here to : Desktop} {due : Option ℕ} {shown : Desktop} {some more : List (List ℕ)}
      → shown ≡ to → due ≡ None → more ≡ some ++ turn_line ∷ []
      → IsToldOver start deeds here (turned to ∷ []) due shown some more
  desktop_told {to = to} {shown = shown} is none added = record {
    shows = subst (λ x. IsToShow start deeds x shown to) (sym none) is;
    lines = added;
  }

  -- what was done in memory, where no turn is due
  pub told_there : {M : Type 0} (m : Ghosts M) {here : Desktop} {told : List PastDeed} {due : Option ℕ}
      {some more : List (List ℕ)} {old new : StoreView M} → due ≡ None → old.desktop ≡ here → m.honest old.disk
      → IsToldOn m told some more old new → IsToldOver start deeds here told due new.desktop some more
  told_there m {here = here} {told = told} {some = some} {new = new} none is honest on = record {
    shows = subst (λ x. IsToShow start deeds x new.desktop (after_deeds here told)) (sym none)
        (on.desktop honest ∙ ap (λ x. after_deeds x told) is);
    lines = on.lines honest ∙ ap (λ x. some ++ told_lines x told) is;
  }

  -- some, and then others
  pub told_on : {here : Desktop} {some more : List PastDeed} {due due' : Option ℕ} {shown shown' : Desktop}
      {first mid last : List (List ℕ)} → IsToldOver start deeds here some due shown first mid
      → IsToldOver start deeds (after_deeds here some) more due' shown' mid last
      → IsToldOver start deeds here (some ++ more) due' shown' first last
  told_on {here = here} {some = some} {more = more} {due' = due'} {shown' = shown'} {first = first} was added = record {
    shows = subst (λ x. IsToShow start deeds due' shown' x) (sym (after_both here some more)) added.shows;
    lines = added.lines
        ∙ ap (λ l. l ++ told_lines (after_deeds here some) more) was.lines
        ∙ append_assoc first (told_lines here some) (told_lines (after_deeds here some) more)
        ∙ ap (λ l. first ++ l) (sym (lines_both here some more));
  }

-- ---- pages, one after another

-- These pages are left, and the deeds of those before them were told.
pub record HasTold (start : Start) (deeds : List PastDeed) (c : Content) (end : ℕ) (pages : List Page) (at : ℕ)
    (due : Option ℕ) (shown : Desktop) (first lines : List (List ℕ))
    : Type 0 where
  pub todo : List Page
  pub done : List PastDeed
  pub written : HasPages c at todo
  pub good : AreGood todo
  pub back : LeadBack start deeds todo
  pub up_to : end_of_pages at todo ≡ end
  pub all : done ++ all_deeds todo ≡ all_deeds pages
  pub told : IsToldOver start deeds start.desktop done due shown first lines

pub no_page_told : {start : Start} {deeds : List PastDeed} {due : Option ℕ} {shown : Desktop} (c : Content) (end : ℕ)
    (pages : List Page) (at : ℕ) (lines : List (List ℕ)) → HasPages c at pages → AreGood pages
    → LeadBack start deeds pages → end_of_pages at pages ≡ end → IsToShow start deeds due shown start.desktop
    → HasTold start deeds c end pages at due shown lines lines
no_page_told c end pages at lines written good back up_to shows = record {
  todo = pages;
  done = [];
  written = written;
  good = good;
  back = back;
  up_to = up_to;
  all = refl;
  told = nothing_told lines shows;
}

module _ {start : Start} {deeds : List PastDeed} {c : Content} {end : ℕ} {pages : List Page} {at : ℕ}
    {due : Option ℕ} {shown : Desktop} {first lines : List (List ℕ)}
    (was : HasTold start deeds c end pages at due shown first lines) where
  pub page_left : at < end → (p : Page) × (more : List Page) × (was.todo ≡ p ∷ more)
  page_left low = some_left was.todo at end was.up_to low

  pub page_there : (p : Page) (more : List Page) → was.todo ≡ p ∷ more → HasPage c at end p
  page_there p more is = first_page c was.todo at end p more is was.written was.good was.up_to

  pub page_leads : (p : Page) (more : List Page) → was.todo ≡ p ∷ more → GoesBack start deeds p
  page_leads p more is = (subst (LeadBack start deeds) is was.back).0

  pub page_told : {due' : Option ℕ} {shown' : Desktop} {last : List (List ℕ)} (p : Page) (more : List Page)
      → was.todo ≡ p ∷ more
      → IsToldOver start deeds (after_deeds start.desktop was.done) (deeds_in p) due' shown' lines last
      → {after : ℕ} → after ≡ at + page_sectors p → HasTold start deeds c end pages after due' shown' first last
  page_told p more is added {after = after} behind = record {
    todo = more;
    done = was.done ++ deeds_in p;
    written = subst (λ n. HasPages c n more) (sym behind) (subst (HasPages c at) is was.written).1;
    good = (subst AreGood is was.good).1;
    back = (subst (LeadBack start deeds) is was.back).1;
    up_to = ap (λ n. end_of_pages n more) behind ∙ sym (ap (end_of_pages at) is) ∙ was.up_to;
    all = joined was.done (deeds_in p) (all_deeds more) ∙ sym (ap (λ l. was.done ++ all_deeds l) is) ∙ was.all;
    told = told_on was.told added;
  }

  pub all_told : end ≤ at → IsToldOver start deeds start.desktop (all_deeds pages) due shown first lines
  all_told high =
      subst (λ l. IsToldOver start deeds start.desktop l due shown first lines)
      (sym (append-nil was.done)
      ∙ sym (ap (λ l. was.done ++ all_deeds l) (none_left was.todo at end was.up_to high))
      ∙ was.all) was.told

-- ---- the next page

-- it stands on a larger disk, too
page_on : {c : Content} {at end : ℕ} (size : ℕ) (p : Page) → HasPage c at end p → end ≤ size → HasPage c at size p
page_on size p has le = record { held = has.held; good = has.good; within = omega (arith, has.within, le) }

-- this was read of it, and nothing was written
module _ {D : Type 0} (d : Ghosts D) {old mid : StoreView D} (still : IsOnlyReadFrom d old mid)
    (quiet : old.must_reopen ≡ false → d.honest old.disk → IsQuiet d old) {reach : Reach} {first : ℕ}
    (h : HasReach d old reach first) {at : ℕ} {due : Option ℕ} {shown : Desktop} {some lines : List (List ℕ)}
    (was : HasTold h.past.start h.past.deeds (now (d.trail old.disk)).reads reach.next h.past.keeps.remembers.pages at
    due shown some lines) where
  pub page_behind : (p : Page) (more : List Page) → was.todo ≡ p ∷ more
      → HasPage (now (d.trail mid.disk)).reads at (d.size mid.disk) p
  page_behind p more is =
      let room = its_room d h in
      let large = still.left.disk.device.as_large in
      subst (λ r. HasPage r at (d.size mid.disk) p)
      (sym (still_reads d still (quiet h.past.keeps.usable h.past.honest) h.past.honest))
      (page_on (d.size mid.disk) p (page_there was p more is) (omega (arith, room, large)))

  abbrev pub at_page : (read : PageDeeds) (p : Page) (more : List Page) → was.todo ≡ p ∷ more → IsRead read p
      → IsAtPage d mid reach.part.base at read due shown
  at_page read p more is says = record {
    amid = record {
      past = past_behind d still quiet h.past;
      at = sym h.numbers.base;
      here = after_deeds h.past.start.desktop was.done;
      shows = was.told.shows;
    };
    page = p;
    is = says;
    goes_back = page_leads was p more is;
    there = page_behind p more is;
  }

-- ---- what was read of a page

module _ {start : Start} {deeds : List PastDeed} {here : Desktop} {due : Option ℕ} {shown : Desktop}
    {some more : List (List ℕ)} (read : PageDeeds) where
  pub events_page : (p : Page) (events : List Event)
      → ((version : ℕ) (all : List Event) → IsRead read (of_events version all) → events ≡ all)
      → ((version : ℕ) (all : Documents) → IsRead read (of_import version all) → ⊥)
      → ((version k : ℕ) (to : Desktop) → IsRead read (of_turn version k to) → ⊥)
      → ((version : ℕ) (far : Bool) (sectors : Sectors) (to : Desktop) → IsRead read (of_copy version far sectors to)
      → ⊥)
      → IsRead read p
      → IsToldOver start deeds here (all_posted events) due shown some more
      → IsToldOver start deeds here (deeds_in p) due shown some more
  events_page (of_events version all) events same none never copied is told =
      subst (λ l. IsToldOver start deeds here (all_posted l) due shown some more) (same version all is) told
  events_page (of_import version all) events same none never copied is told = absurd (none version all is)
  events_page (of_turn version k to) events same none never copied is told = absurd (never version k to is)
  events_page (of_copy version far sectors to) events same none never copied is told =
      absurd (copied version far sectors to is)

  pub import_page : (p : Page) (documents : Documents)
      → ((version : ℕ) (all : List Event) → IsRead read (of_events version all) → ⊥)
      → ((version : ℕ) (all : Documents) → IsRead read (of_import version all) → documents ≡ all)
      → ((version k : ℕ) (to : Desktop) → IsRead read (of_turn version k to) → ⊥)
      → ((version : ℕ) (far : Bool) (sectors : Sectors) (to : Desktop) → IsRead read (of_copy version far sectors to)
      → ⊥)
      → IsRead read p
      → IsToldOver start deeds here (brought documents ∷ []) due shown some more
      → IsToldOver start deeds here (deeds_in p) due shown some more
  import_page (of_events version all) documents none same never copied is told = absurd (none version all is)
  import_page (of_import version all) documents none same never copied is told =
      subst (λ l. IsToldOver start deeds here (brought l ∷ []) due shown some more) (same version all is) told
  import_page (of_turn version k to) documents none same never copied is told = absurd (never version k to is)
  import_page (of_copy version far sectors to) documents none same never copied is told =
      absurd (copied version far sectors to is)

  pub turn_page : (p : Page) (k : ℕ)
      → ((version : ℕ) (all : List Event) → IsRead read (of_events version all) → ⊥)
      → ((version : ℕ) (all : Documents) → IsRead read (of_import version all) → ⊥)
      → ((version m : ℕ) (to : Desktop) → IsRead read (of_turn version m to) → k ≡ m)
      → ((version : ℕ) (far : Bool) (sectors : Sectors) (to : Desktop) → IsRead read (of_copy version far sectors to)
      → ⊥)
      → IsRead read p → GoesBack start deeds p
      → ((to : Desktop) → HasMoment start deeds k → to ≡ moment start deeds k
      → IsToldOver start deeds here (turned to ∷ []) due shown some more)
      → IsToldOver start deeds here (deeds_in p) due shown some more
  turn_page (of_events version all) k never none same copied is turn told = absurd (never version all is)
  turn_page (of_import version all) k never none same copied is turn told = absurd (none version all is)
  turn_page (of_turn version m to) k never none same copied is turn told =
      let here_is = sym (same version m to is) in
      told to (subst (HasMoment start deeds) here_is turn.0) (turn.1 ∙ ap (moment start deeds) here_is)
  turn_page (of_copy version far sectors to) k never none same copied is turn told =
      absurd (copied version far sectors to is)

-- a mark says that nothing was done
pub mark_page : {start : Start} {deeds : List PastDeed} {here : Desktop} {due : Option ℕ} {shown : Desktop}
    (lines : List (List ℕ)) (p : Page) → IsRead Mark p → IsToShow start deeds due shown here
    → IsToldOver start deeds here (deeds_in p) due shown lines lines
mark_page lines (of_events version all) is shows = absurd is
mark_page lines (of_import version all) is shows = absurd is
mark_page lines (of_turn version k to) is shows = absurd is
mark_page lines (of_copy version false sectors to) is shows = nothing_told lines shows
mark_page lines (of_copy version true sectors to) is shows = absurd is

-- a far turn leads to the desktop of its page
far_page : {D : Type 0} (d : Ghosts D) (store : StoreView D) (at : ℕ) (p : Page) → IsRead FarTurn p
    → d.honest store.disk → HasPage (now (d.trail store.disk)).reads at (d.size store.disk) p
    → (h : HasDesktop d store at) × (deeds_in p ≡ turned h.to ∷ [])
far_page d store at (of_events version all) is honest there = absurd is
far_page d store at (of_import version all) is honest there = absurd is
far_page d store at (of_turn version k to) is honest there = absurd is
far_page d store at (of_copy version false sectors to) is honest there = absurd is
far_page d store at (of_copy version true sectors to) is honest there = (
  record {
    honest = honest;
    to = to;
    there = record { version = version; far = true; sectors = sectors; page = there };
  },
  refl,
)

pub far_there : {D : Type 0} (d : Ghosts D) {store : StoreView D} {base at : ℕ} {read : PageDeeds} {due : Option ℕ}
    {shown : Desktop} (a : IsAtPage d store base at read due shown) → read ≡ FarTurn
    → (h : HasDesktop d store at) × (deeds_in a.page ≡ turned h.to ∷ [])
far_there d {store = store} {at = at} a is =
    far_page d store at a.page (subst (λ r. IsRead r a.page) is a.is) a.amid.past.honest a.there

pub far_told : {start : Start} {deeds : List PastDeed} {here to : Desktop} (all : List PastDeed) {due : Option ℕ}
    {shown : Desktop} {some more : List (List ℕ)} → all ≡ turned to ∷ []
    → IsToldOver start deeds here (turned to ∷ []) due shown some more
    → IsToldOver start deeds here all due shown some more
far_told {start = start} {deeds = deeds} {here = here} all {due = due} {shown = shown} {some = some} {more = more} same
    told =
    subst (λ l. IsToldOver start deeds here l due shown some more) (sym same) told
