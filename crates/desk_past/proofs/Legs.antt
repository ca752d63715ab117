-- The way to a moment: legs between turns and desktops.
use Rattle.std.proofs.Common.{◌≡◌, ◌+◌, ◌-◌, ◌<◌, ◌≤◌, ℕ, zero, suc, List, [], ◌∷◌, ◌++◌, length, take, refl, sym}
use Rattle.std.proofs.Common.{◌∙◌, ap}
use Rattle.std.proofs.Common.{subst, arith, length-append, true}
use Rattle.std.specs.Prelude.{Bool, false}
use Rattle.sector_disk.specs.declared.disk.Disk.{Ghosts}
use Rattle.desk_journal.specs.View.{StoreView}
use Rattle.std.proofs.lemmas.List.{take-append-le}
use Rattle.std.proofs.Math.Seq.{take-append-add}
use Rattle.sector_disk.specs.Trail.{Content}
use Rattle.event_bytes.specs.declared.event.Event.{Event}
use Rattle.desktop_definitions.specs.Desktop.{Desktop}
use Rattle.document_filing.specs.Bringing.{Documents}
use Rattle.past_pages.specs.Copies.{Sectors}
use Rattle.past_pages.specs.Page.{Page, of_copy, of_events, of_import, of_turn, page_sectors}
use Rattle.past_pages.specs.Reading.{HasCopy, HasPage, IsKindOf, kind_count}
use Rattle.past_pages.specs.declared.pages.PageKind.{PageKind}
use Rattle.past_pages.specs.declared.pages.PageKind.TheVariants as which
use Rattle.desk_past.specs.Deeds.{PastDeed, after_deeds, all_posted, brought, posted, turned}
use Rattle.desk_past.specs.Past.{HasPages, deeds_in, end_of_pages}
use Rattle.desk_past.specs.Past.{AreGood, AreTurns, HasMoment, IsTurn, Start, all_deeds, moment}
use Rattle.desk_past.specs.Reading.{IsLed}
use Rattle.desk_past.specs.Routes.{AreLegs, BeginsAt, HasNoTurn, IsLeg, IsPassed, IsReached, IsWay, LeadsBack}
use Rattle.desk_past.specs.Routes.{LegBeginsAt}
use Rattle.desk_past.specs.declared.routes.Origin.{Origin}
use Rattle.desk_past.specs.declared.routes.Origin.TheVariants.{AtCopy, AtMoment, AtStart}
use Rattle.desk_past.specs.declared.routes.Leg.{Leg}
use Rattle.desk_past.proofs.Carrying.{end_above}
use Rattle.desk_past.proofs.Moments.{after_both, deeds_of_both, joined, many_posted, nil_right}
use Rattle.desk_past.proofs.Stepping.{some_left}

-- ---- pages behind others

joined_pages : (a b c : List Page) → (a ++ b) ++ c ≡ a ++ (b ++ c)
joined_pages [] b c = refl
joined_pages (p ∷ a) b c = ap (λ r. p ∷ r) (joined_pages a b c)

-- ---- none of these deeds is a turn

none_in_first : (l : List PastDeed) → HasNoTurn l → (n : ℕ) → HasNoTurn (take n l)
none_in_first l free zero = tt
none_in_first [] free (suc n) = tt
none_in_first (posted event ∷ l) free (suc n) = none_in_first l free n
none_in_first (brought documents ∷ l) free (suc n) = none_in_first l free n
none_in_first (turned to ∷ l) free (suc n) = absurd free

none_in_posted : (events : List Event) → HasNoTurn (all_posted events)
none_in_posted [] = tt
none_in_posted (event ∷ events) = none_in_posted events

none_in_both : (some more : List PastDeed) → HasNoTurn some → HasNoTurn more → HasNoTurn (some ++ more)
none_in_both [] more first second = second
none_in_both (posted event ∷ some) more first second = none_in_both some more first second
none_in_both (brought documents ∷ some) more first second = none_in_both some more first second
none_in_both (turned to ∷ some) more first second = absurd first

-- ---- a page has as many deeds as its front says

pub kind_many : (kind : PageKind) (p : Page) → IsKindOf kind p → kind_count kind ≡ length (deeds_in p)
kind_many (which.Events n) (of_events version all) is = is ∙ sym (many_posted all)
kind_many (which.Events n) (of_import version all) is = absurd is
kind_many (which.Events n) (of_turn version moment to) is = absurd is
kind_many (which.Events n) (of_copy version false sectors to) is = absurd is
kind_many (which.Events n) (of_copy version true sectors to) is = absurd is
kind_many which.Import (of_events version all) is = absurd is
kind_many which.Import (of_import version all) is = refl
kind_many which.Import (of_turn version moment to) is = absurd is
kind_many which.Import (of_copy version false sectors to) is = absurd is
kind_many which.Import (of_copy version true sectors to) is = absurd is
kind_many (which.Turn k) (of_events version all) is = absurd is
kind_many (which.Turn k) (of_import version all) is = absurd is
kind_many (which.Turn k) (of_turn version moment to) is = refl
kind_many (which.Turn k) (of_copy version false sectors to) is = absurd is
kind_many (which.Turn k) (of_copy version true sectors to) is = absurd is
kind_many which.Mark (of_events version all) is = absurd is
kind_many which.Mark (of_import version all) is = absurd is
kind_many which.Mark (of_turn version moment to) is = absurd is
kind_many which.Mark (of_copy version false sectors to) is = refl
kind_many which.Mark (of_copy version true sectors to) is = absurd is
kind_many which.FarTurn (of_events version all) is = absurd is
kind_many which.FarTurn (of_import version all) is = absurd is
kind_many which.FarTurn (of_turn version moment to) is = absurd is
kind_many which.FarTurn (of_copy version false sectors to) is = absurd is
kind_many which.FarTurn (of_copy version true sectors to) is = refl

-- ---- on the way to moment k

-- So many deeds are left to it behind the pages that were passed, up to this sector, and this is the last leg so far:
-- these deeds came before it, and these pages of it were passed.
pub record IsReaching (c : Content) (end : ℕ) (start : Start) (pages : List Page) (k at left : ℕ) (leg : Leg)
    (from : Origin)
    : Type 0 where
  pub todo : List Page
  pub passed : List Page
  pub lead : List PastDeed
  pub todo_held : HasPages c at todo
  pub todo_good : AreGood todo
  pub todo_ends : end_of_pages at todo ≡ end
  pub turns : AreTurns start (lead ++ all_deeds passed) todo
  pub all : lead ++ (all_deeds passed ++ all_deeds todo) ≡ all_deeds pages
  pub held : HasPages c leg.at (passed ++ todo)
  pub good : AreGood (passed ++ todo)
  pub up_to : end_of_pages leg.at (passed ++ todo) ≡ end
  pub free : HasNoTurn (all_deeds passed)
  pub counted : start.before + length lead + leg.count ≡ k
  pub enough : leg.count ≤ length (all_deeds passed) + left
  pub some : 0 < left → leg.count ≡ length (all_deeds passed) + left
  pub here : Desktop
  pub begins : LegBeginsAt c end start (all_deeds pages) from here
  pub leads : after_deeds start.desktop lead ≡ here
  pub earlier : LeadsBack start.before k from

pub none_passed : {c : Content} {end : ℕ} {start : Start} (pages : List Page) (k first : ℕ) (leg : Leg)
    → HasPages c first pages → AreGood pages → AreTurns start [] pages → end_of_pages first pages ≡ end
    → leg.at ≡ first → start.before + leg.count ≡ k → IsReaching c end start pages k first leg.count leg AtStart
none_passed {c = c} {end = end} {start = start} pages k first leg held good turns ends at counted = record {
  todo = pages;
  passed = [];
  lead = [];
  todo_held = held;
  todo_good = good;
  todo_ends = ends;
  turns = turns;
  all = refl;
  held = subst (λ n. HasPages c n pages) (sym at) held;
  good = good;
  up_to = ap (λ n. end_of_pages n pages) at ∙ ends;
  free = tt;
  counted = omega (arith, counted);
  enough = omega arith;
  some = λ more. omega arith;
  here = start.desktop;
  begins = refl;
  leads = refl;
  earlier = tt;
}

module _ {c : Content} {end : ℕ} {start : Start} {pages : List Page} {k at left : ℕ} {leg : Leg} {from : Origin}
    (was : IsReaching c end start pages k at left leg from) where
  long : length (all_deeds pages) ≡ length was.lead + (length (all_deeds was.passed) + length (all_deeds was.todo))
  long = let all = ap length was.all in omega (
    arith,
    all,
    length-append was.lead (all_deeds was.passed ++ all_deeds was.todo),
    length-append (all_deeds was.passed) (all_deeds was.todo),
  )

  -- where deeds are left a page is left
  page_left : 0 < left → k ≤ start.before + length (all_deeds pages)
      → (p : Page) × (more : List Page) × (was.todo ≡ p ∷ more)
  page_left more room = some_left was.todo [] (all_deeds was.todo) left more refl
      (let count = was.some more in omega (arith, count, room, long, was.counted))

  has_page : (p : Page) (more : List Page) → was.todo ≡ p ∷ more → HasPage c at end p
  has_page p more is =
      let far = end_above more (at + page_sectors p) in
      let ends = sym (ap (end_of_pages at) is) ∙ was.todo_ends in record {
        held = (subst (HasPages c at) is was.todo_held).0;
        good = (subst AreGood is was.todo_good).0;
        within = omega (arith, far, ends);
      }

  pub one_left : 0 < left → k ≤ start.before + length (all_deeds pages) → (p : Page) × HasPage c at end p
  one_left more room = let x = page_left more room in (x.0, has_page x.0 x.1 x.2)

  -- a page none of whose deeds is a turn was passed
  module _ (p : Page) (more : List Page) (is : was.todo ≡ p ∷ more) (next less : ℕ)
      (behind : next ≡ at + page_sectors p)
      (rest : less ≡ left - length (deeds_in p)) where
    one_more : was.passed ++ was.todo ≡ (was.passed ++ p ∷ []) ++ more
    one_more = ap (λ l. was.passed ++ l) is ∙ sym (joined_pages was.passed (p ∷ []) more)

    passed_more : all_deeds (was.passed ++ p ∷ []) ≡ all_deeds was.passed ++ deeds_in p
    passed_more = deeds_of_both was.passed (p ∷ []) ∙ ap (λ l. all_deeds was.passed ++ l) (nil_right (deeds_in p))

    many_more : length (all_deeds (was.passed ++ p ∷ [])) ≡ length (all_deeds was.passed) + length (deeds_in p)
    many_more = ap length passed_more ∙ length-append (all_deeds was.passed) (deeds_in p)

    turns_more : AreTurns start ((was.lead ++ all_deeds was.passed) ++ deeds_in p) more
    turns_more = (subst (AreTurns start (was.lead ++ all_deeds was.passed)) is was.turns).1

    all_more : was.lead ++ ((all_deeds was.passed ++ deeds_in p) ++ all_deeds more) ≡ all_deeds pages
    all_more = ap (λ l. was.lead ++ l) (joined (all_deeds was.passed) (deeds_in p) (all_deeds more))
        ∙ ap (λ l. was.lead ++ (all_deeds was.passed ++ all_deeds l)) (sym is)
        ∙ was.all

    page_passed : HasNoTurn (deeds_in p) → IsReaching c end start pages k next less leg from
    page_passed free = record {
      todo = more;
      passed = was.passed ++ p ∷ [];
      lead = was.lead;
      todo_held = subst (λ n. HasPages c n more) (sym behind) (subst (HasPages c at) is was.todo_held).1;
      todo_good = (subst AreGood is was.todo_good).1;
      todo_ends = ap (λ n. end_of_pages n more) behind ∙ sym (ap (end_of_pages at) is) ∙ was.todo_ends;
      turns = subst (λ l. AreTurns start l more)
          (joined was.lead (all_deeds was.passed) (deeds_in p) ∙ ap (λ l. was.lead ++ l) (sym passed_more)) turns_more;
      all = ap (λ l. was.lead ++ (l ++ all_deeds more)) passed_more ∙ all_more;
      held = subst (HasPages c leg.at) one_more was.held;
      good = subst AreGood one_more was.good;
      up_to = sym (ap (end_of_pages leg.at) one_more) ∙ was.up_to;
      free = subst HasNoTurn (sym passed_more) (none_in_both (all_deeds was.passed) (deeds_in p) was.free free);
      counted = was.counted;
      enough = omega (arith, was.enough, many_more, rest);
      some = λ left_more. (let before : 0 < left = omega (arith, rest, left_more) in
          let count = was.some before in omega (arith, count, many_more, rest, left_more));
      here = was.here;
      begins = was.begins;
      leads = was.leads;
      earlier = was.earlier;
    }

    -- another leg begins behind it
    leg_anew : (from' : Origin) (there : Desktop) → LegBeginsAt c end start (all_deeds pages) from' there
        → after_deeds start.desktop (was.lead ++ (all_deeds was.passed ++ deeds_in p)) ≡ there
        → LeadsBack start.before k from' → 0 < left → length (deeds_in p) ≤ left
        → (leg' : Leg) → leg'.at ≡ next → leg'.count ≡ less → IsReaching c end start pages k next less leg' from'
    leg_anew from' there begins leads earlier some few leg' starts counts =
        let count = was.some some in
        let lead_long = length-append was.lead (all_deeds was.passed ++ deeds_in p) in
        let passed_long = length-append (all_deeds was.passed) (deeds_in p) in
        record {
          todo = more;
          passed = [];
          lead = was.lead ++ (all_deeds was.passed ++ deeds_in p);
          todo_held = subst (λ n. HasPages c n more) (sym behind) (subst (HasPages c at) is was.todo_held).1;
          todo_good = (subst AreGood is was.todo_good).1;
          todo_ends = ap (λ n. end_of_pages n more) behind ∙ sym (ap (end_of_pages at) is) ∙ was.todo_ends;
          turns = subst (λ l. AreTurns start l more)
              (joined was.lead (all_deeds was.passed) (deeds_in p)
              ∙ sym (nil_right (was.lead ++ (all_deeds was.passed ++ deeds_in p)))) turns_more;
          all = joined was.lead (all_deeds was.passed ++ deeds_in p) (all_deeds more) ∙ all_more;
          held = subst (λ n. HasPages c n more) (sym (starts ∙ behind)) (subst (HasPages c at) is was.todo_held).1;
          good = (subst AreGood is was.todo_good).1;
          up_to = ap (λ n. end_of_pages n more) (starts ∙ behind) ∙ sym (ap (end_of_pages at) is) ∙ was.todo_ends;
          free = tt;
          counted = omega (arith, was.counted, count, lead_long, passed_long, rest, counts, few);
          enough = omega (arith, counts);
          some = λ left_more. omega (arith, counts);
          here = there;
          begins = begins;
          leads = leads;
          earlier = earlier;
        }

    -- behind a turn to a moment
    turn_passed : (to : Desktop) (moment_of : ℕ) → deeds_in p ≡ turned to ∷ []
        → HasMoment start (was.lead ++ all_deeds was.passed) moment_of
        → to ≡ moment start (was.lead ++ all_deeds was.passed) moment_of → 0 < left
        → (leg' : Leg) → leg'.at ≡ next → leg'.count ≡ less → IsReaching c end start pages k next less leg'
        (AtMoment moment_of)
    turn_passed to moment_of one within same some leg' starts counts =
        let one_long = ap length one in
        let count = was.some some in
        let front_long = length-append was.lead (all_deeds was.passed) in
        leg_anew (AtMoment moment_of) (moment start (all_deeds pages) moment_of) refl
        (ap (after_deeds start.desktop)
        (sym (joined was.lead (all_deeds was.passed) (deeds_in p))
        ∙ ap (λ l. (was.lead ++ all_deeds was.passed) ++ l) one)
        ∙ after_both start.desktop (was.lead ++ all_deeds was.passed) (turned to ∷ [])
        ∙ same
        ∙ ap (after_deeds start.desktop) (sym (take-append-le (moment_of - start.before)
        (was.lead ++ all_deeds was.passed) (all_deeds was.todo) (omega (arith, within.low, within.high))))
        ∙ ap (λ l. after_deeds start.desktop (take (moment_of - start.before) l))
        (joined was.lead (all_deeds was.passed) (all_deeds was.todo) ∙ was.all))
        (within.low, omega (arith, within.high, front_long, was.counted, count, some)) some
        (omega (arith, one_long, some)) leg' starts counts

    -- behind a desktop
    copy_passed : (to : Desktop) → HasCopy c at end to
        → after_deeds start.desktop (was.lead ++ (all_deeds was.passed ++ deeds_in p)) ≡ to → 0 < left
        → length (deeds_in p) ≤ left → (leg' : Leg) → leg'.at ≡ next → leg'.count ≡ less
        → IsReaching c end start pages k next less leg' (AtCopy at)
    copy_passed to has leads = leg_anew (AtCopy at) to has leads tt

  -- one page more was passed
  after_page : (p : Page) (more : List Page) (is : was.todo ≡ p ∷ more) (next less : ℕ) → next ≡ at + page_sectors p
      → less ≡ left - length (deeds_in p) → 0 < left → IsTurn start (was.lead ++ all_deeds was.passed) p
      → {leg' : Leg} {from' : Origin} → IsPassed p at next less leg from leg' from'
      → IsReaching c end start pages k next less leg' from'
  after_page (of_events version events) more is next less behind rest some turn same =
      subst (λ (x : Leg × Origin). IsReaching c end start pages k next less x.0 x.1)
      (λ i. (sym same.0 i, sym same.1 i))
      (page_passed (of_events version events) more is next less behind rest (none_in_posted events))
  after_page (of_import version documents) more is next less behind rest some turn same =
      subst (λ (x : Leg × Origin). IsReaching c end start pages k next less x.0 x.1)
      (λ i. (sym same.0 i, sym same.1 i))
      (page_passed (of_import version documents) more is next less behind rest tt)
  after_page (of_turn version m to) more is next less behind rest some turn {leg' = leg'} same =
      subst (λ (x : Origin). IsReaching c end start pages k next less leg' x) (sym same.2)
      (turn_passed (of_turn version m to) more is next less behind rest to m refl turn.0 turn.1 some leg' same.0 same.1)
  after_page (of_copy version false sectors to) more is next less behind rest some turn {leg' = leg'} same =
      subst (λ (x : Origin). IsReaching c end start pages k next less leg' x) (sym same.2)
      (copy_passed (of_copy version false sectors to) more is next less behind rest to
      (record {
        version = version;
        far = false;
        sectors = sectors;
        page = has_page (of_copy version false sectors to)
            more is;
      })
      (ap (λ l. after_deeds start.desktop (was.lead ++ l)) (nil_right (all_deeds was.passed)) ∙ sym turn) some
      (omega arith) leg' same.0 same.1)
  after_page (of_copy version true sectors to) more is next less behind rest some turn {leg' = leg'} same =
      subst (λ (x : Origin). IsReaching c end start pages k next less leg' x) (sym same.2)
      (copy_passed (of_copy version true sectors to) more is next less behind rest to
      (record {
        version = version;
        far = true;
        sectors = sectors;
        page = has_page (of_copy version true sectors to) more
            is;
      })
      (ap (after_deeds start.desktop) (sym (joined was.lead (all_deeds was.passed) (turned to ∷ [])))
      ∙ after_both start.desktop (was.lead ++ all_deeds was.passed) (turned to ∷ [])) some
      (omega (arith, some)) leg' same.0 same.1)

  pub page_on : 0 < left → k ≤ start.before + length (all_deeds pages) → (kind : PageKind) (next n less : ℕ)
      → n ≡ kind_count kind → less ≡ left - n
      → ((p : Page) → HasPage c at end p → IsKindOf kind p × (next ≡ at + page_sectors p))
      → {leg' : Leg} {from' : Origin} → ((p : Page) → IsKindOf kind p → IsPassed p at next less leg from leg' from')
      → IsReaching c end start pages k next less leg' from'
  page_on some room kind next n less many rest read passes =
      let x = page_left some room in
      let is = read x.0 (has_page x.0 x.1 x.2) in
      let long = many ∙ kind_many kind x.0 is.0 in
      after_page x.0 x.1 x.2 next less is.1 (omega (arith, rest, long)) some
      (subst (AreTurns start (was.lead ++ all_deeds was.passed)) x.2 was.turns).0 (passes x.0 is.0)

  -- none is left
  pub reached : left ≡ 0 → IsReached c end start (all_deeds pages) k leg from
  reached none =
      let few : leg.count ≤ length (all_deeds was.passed) = omega (arith, was.enough, none) in
      let count : k - start.before ≡ length was.lead + leg.count = omega (arith, was.counted) in
      let both = deeds_of_both was.passed was.todo in
      let front = ap (take leg.count) both ∙ take-append-le leg.count (all_deeds was.passed) (all_deeds was.todo) few in
      record {
        was = was.here;
        begins = was.begins;
        done = take leg.count (all_deeds (was.passed ++ was.todo));
        is_leg = record {
          pages = was.passed ++ was.todo;
          held = was.held;
          good = was.good;
          up_to = was.up_to;
          enough = let all = ap length both in
              omega (arith, few, all, length-append (all_deeds was.passed) (all_deeds was.todo));
          are = refl;
          none_turns = subst HasNoTurn (sym front) (none_in_first (all_deeds was.passed) was.free leg.count);
        };
        leads = ap (λ n. after_deeds start.desktop (take n (all_deeds pages))) count
            ∙ ap (λ l. after_deeds start.desktop (take (length was.lead + leg.count) l)) (sym was.all)
            ∙ ap (after_deeds start.desktop)
            (take-append-add was.lead (all_deeds was.passed ++ all_deeds was.todo) leg.count)
            ∙ after_both start.desktop was.lead (take leg.count (all_deeds was.passed ++ all_deeds was.todo))
            ∙ ap (λ x. after_deeds x (take leg.count (all_deeds was.passed ++ all_deeds was.todo))) was.leads
            ∙ ap (λ l. after_deeds was.here (take leg.count l)) (sym both);
      }

-- ---- legs, one after another

-- a leg more before the others
pub legs_on : {c : Content} {end : ℕ} (legs : List Leg) (leg : Leg) (deeds before : List PastDeed) → AreLegs c end
    legs deeds
    → IsLeg c end leg before → AreLegs c end (legs ++ leg ∷ []) (before ++ deeds)
legs_on [] leg deeds before are is = ([], before, ap (λ l. before ++ l) are ∙ nil_right before, is, refl)
legs_on (first ∷ legs) leg deeds before are is = (
  before ++ are.0,
  are.1,
  ap (λ l. before ++ l) are.2 ∙ sym (joined before are.0 are.1),
  are.3,
  legs_on legs leg are.0 before are.4 is,
)

-- the last one of them comes first
pub last_leg : {c : Content} {end : ℕ} (legs : List Leg) (leg : Leg) (deeds : List PastDeed)
    → AreLegs c end (legs ++ leg ∷ []) deeds
    → (before more : List PastDeed) × (deeds ≡ before ++ more) × IsLeg c end leg before × AreLegs c end legs more
last_leg [] leg deeds are = (are.1, [], are.2 ∙ ap (λ l. l ++ are.1) are.4 ∙ sym (nil_right are.1), are.3, refl)
last_leg (first ∷ legs) leg deeds are =
    let x = last_leg legs leg are.0 are.4 in (
      x.0,
      x.1 ++ are.1,
      are.2 ∙ ap (λ l. l ++ are.1) x.2 ∙ joined x.0 x.1 are.1,
      x.3,
      (x.1, are.1, refl, are.3, x.4),
    )

-- ---- the legs of a way so far

-- they lead from there to moment k, and there may be a moment, too
pub record IsWaySoFar (c : Content) (end : ℕ) (start : Start) (deeds : List PastDeed) (k : ℕ) (legs : List Leg)
    (from : Origin)
    : Type 0 where
  pub was : Desktop
  pub begins : LegBeginsAt c end start deeds from was
  pub done : List PastDeed
  pub are : AreLegs c end legs done
  pub leads : moment start deeds k ≡ after_deeds was done

pub no_way : {c : Content} {end : ℕ} (start : Start) (deeds : List PastDeed) (k : ℕ) {legs : List Leg} → legs ≡ []
    → IsWaySoFar c end start deeds k legs (AtMoment k)
no_way {c = c} {end = end} start deeds k none = record {
  was = moment start deeds k;
  begins = refl;
  done = [];
  are = subst (λ l. AreLegs c end l []) (sym none) refl;
  leads = refl;
}

pub way_on : {c : Content} {end : ℕ} {start : Start} {deeds : List PastDeed} {k to : ℕ} {legs more : List Leg}
    {leg : Leg}
    {from : Origin} → IsWaySoFar c end start deeds k legs (AtMoment to) → IsReached c end start deeds to leg from
    → more ≡ legs ++ leg ∷ [] → IsWaySoFar c end start deeds k more from
way_on {c = c} {end = end} {start = start} {deeds = deeds} {legs = legs} {leg = leg} {from = from} before there on =
    record {
      was = there.was;
      begins = there.begins;
      done = there.done ++ before.done;
      are = subst (λ l. AreLegs c end l (there.done ++ before.done)) (sym on)
          (legs_on legs leg before.done there.done before.are there.is_leg);
      leads = before.leads ∙ ap (λ x. after_deeds x before.done) (before.begins ∙ there.leads)
          ∙ sym (after_both there.was there.done before.done);
    }

-- from no moment it is a whole way
begins_there : (c : Content) (end : ℕ) (start : Start) (deeds : List PastDeed) (from : Origin) (was : Desktop)
    → ((n : ℕ) → from ≡ AtMoment n → ⊥) → LegBeginsAt c end start deeds from was → BeginsAt c end start from was
begins_there c end start deeds AtStart was none begins = begins
begins_there c end start deeds (AtMoment n) was none begins = none n refl
begins_there c end start deeds (AtCopy at) was none begins = begins

pub whole_way : {c : Content} {end : ℕ} {start : Start} {deeds : List PastDeed} {k : ℕ} {legs : List Leg}
    (from : Origin) → ((n : ℕ) → from ≡ AtMoment n → ⊥) → IsWaySoFar c end start deeds k legs from
    → IsWay c end start deeds k legs from
whole_way {c = c} {end = end} {start = start} {deeds = deeds} from none way = record {
  was = way.was;
  begins = begins_there c end start deeds from way.was none way.begins;
  done = way.done;
  are = way.are;
  leads = way.leads;
}

-- how many moments may come before the one from which a way goes
pub left_of : Origin → ℕ
left_of AtStart = 0
left_of (AtMoment k) = suc k
left_of (AtCopy at) = 0

pub fewer_left : (from : Origin) (k before : ℕ) → LeadsBack before k from → left_of from < left_of (AtMoment k)
unfolding left_of
fewer_left AtStart k before back = omega arith
fewer_left (AtMoment to) k before back = omega (arith, back.1)
fewer_left (AtCopy at) k before back = omega arith

-- a moment from which a way begins is at most moment k
abbrev pub LiesWithin : ℕ → ℕ → Origin → Type 0
LiesWithin before k AtStart = Unit {0}
LiesWithin before k (AtMoment n) = (before ≤ n) × (n ≤ k)
LiesWithin before k (AtCopy at) = Unit {0}

pub still_within : (from : Origin) (before : ℕ) {k to : ℕ} → to ≤ k → LeadsBack before to from
    → LiesWithin before k from
still_within AtStart before low back = tt
still_within (AtMoment n) before low back = (back.0, omega (arith, back.1, low))
still_within (AtCopy at) before low back = tt

-- ---- legs that were gone. `e` is what is known of the disk of the store on which they are gone.

pub record HasGone {E : Type 0} (e : Ghosts E) (c : Content) (end : ℕ) (legs : List Leg) (deeds : List PastDeed)
    (old new : StoreView E)
    : Type 0 where
  pub done : List PastDeed
  pub more : List PastDeed
  pub all : deeds ≡ done ++ more
  pub others : AreLegs c end legs more
  pub led : IsLed e done old new

pub none_gone : {E : Type 0} (e : Ghosts E) {c : Content} {end : ℕ} {legs : List Leg} (deeds : List PastDeed)
    (store : StoreView E) → AreLegs c end legs deeds → HasGone e c end legs deeds store store
none_gone e deeds store are = record {
  done = [];
  more = deeds;
  all = refl;
  others = are;
  led = record { usable = λ u. u; still = λ h. h; desktop = λ h. refl };
}

module _ {E : Type 0} (e : Ghosts E) {c : Content} {end : ℕ} {legs : List Leg} {deeds : List PastDeed}
    {old mid : StoreView E} (was : HasGone e c end legs deeds old mid) where
  pub leg_gone : {new : StoreView E} (leg : Leg) (rest : List Leg) {done : Bool} → legs ≡ rest ++ leg ∷ []
      → ((pages : List Page) → HasPages c leg.at pages → AreGood pages → end_of_pages leg.at pages ≡ end
      → leg.count ≤ length (all_deeds pages) → HasNoTurn (take leg.count (all_deeds pages))
      → (done ≡ true) × IsLed e (take leg.count (all_deeds pages)) mid new)
      → (done ≡ true) × HasGone e c end rest deeds old new
  leg_gone {new = new} leg rest is goes =
      let x = last_leg rest leg was.more (subst (λ l. AreLegs c end l was.more) is was.others) in
      let leg_is = x.3 in
      let fact = goes leg_is.pages leg_is.held leg_is.good leg_is.up_to leg_is.enough
      (subst HasNoTurn leg_is.are leg_is.none_turns) in
      let led : IsLed e x.0 mid new = subst (λ l. IsLed e l mid new) (sym leg_is.are) fact.1 in (
        fact.0,
        record {
          done = was.done ++ x.0;
          more = x.1;
          all = was.all ∙ ap (λ l. was.done ++ l) x.2 ∙ sym (joined was.done x.0 x.1);
          others = x.4;
          led = record {
            usable = λ u. led.usable (was.led.usable u);
            still = λ h. led.still (was.led.still h);
            desktop = λ h. led.desktop (was.led.still h) ∙ ap (λ d. after_deeds d x.0) (was.led.desktop h)
                ∙ sym (after_both old.desktop was.done x.0);
          };
        },
      )

no_legs : (legs : List Leg) → length legs ≡ 0 → legs ≡ []
no_legs [] none = refl
no_legs (leg ∷ legs) none = absurd (omega (arith, none))

pub all_gone : {E : Type 0} (e : Ghosts E) {c : Content} {end : ℕ} {legs : List Leg} {deeds : List PastDeed}
    {old new : StoreView E} → HasGone e c end legs deeds old new → length legs ≡ 0 → IsLed e deeds old new
all_gone e {c = c} {end = end} {legs = legs} {old = old} {new = new} was none =
    let empty : was.more ≡ [] = subst (λ l. AreLegs c end l was.more) (no_legs legs none) was.others in
    subst (λ l. IsLed e l old new) (sym (was.all ∙ ap (λ l. was.done ++ l) empty ∙ nil_right was.done)) was.led

-- ---- what becomes of the last leg behind a page that was read

pub passed_turn : (k next left : ℕ) (p : Page) (here : ℕ) (old leg : Leg) (before : Origin) → leg.at ≡ next
    → leg.count ≡ left → IsKindOf (which.Turn k) p → IsPassed p here next left old before leg (AtMoment k)
passed_turn k next left (of_events version events) here old leg before starts counts is = absurd is
passed_turn k next left (of_import version documents) here old leg before starts counts is = absurd is
passed_turn k next left (of_turn version m to) here old leg before starts counts is = (starts, counts, ap AtMoment is)
passed_turn k next left (of_copy version false sectors to) here old leg before starts counts is = absurd is
passed_turn k next left (of_copy version true sectors to) here old leg before starts counts is = absurd is

pub passed_mark : (next left : ℕ) (p : Page) (here : ℕ) (old leg : Leg) (before : Origin) → leg.at ≡ next
    → leg.count ≡ left → IsKindOf which.Mark p → IsPassed p here next left old before leg (AtCopy here)
passed_mark next left (of_events version events) here old leg before starts counts is = absurd is
passed_mark next left (of_import version documents) here old leg before starts counts is = absurd is
passed_mark next left (of_turn version m to) here old leg before starts counts is = absurd is
passed_mark next left (of_copy version false sectors to) here old leg before starts counts is = (starts, counts, refl)
passed_mark next left (of_copy version true sectors to) here old leg before starts counts is = absurd is

pub passed_far : (next left : ℕ) (p : Page) (here : ℕ) (old leg : Leg) (before : Origin) → leg.at ≡ next
    → leg.count ≡ left → IsKindOf which.FarTurn p → IsPassed p here next left old before leg (AtCopy here)
passed_far next left (of_events version events) here old leg before starts counts is = absurd is
passed_far next left (of_import version documents) here old leg before starts counts is = absurd is
passed_far next left (of_turn version m to) here old leg before starts counts is = absurd is
passed_far next left (of_copy version false sectors to) here old leg before starts counts is = absurd is
passed_far next left (of_copy version true sectors to) here old leg before starts counts is = (starts, counts, refl)

pub passed_events : (n next left : ℕ) (p : Page) (here : ℕ) (leg : Leg) (before : Origin) → IsKindOf (which.Events n) p
    → IsPassed p here next left leg before leg before
passed_events n next left (of_events version events) here leg before is = (refl, refl)
passed_events n next left (of_import version documents) here leg before is = absurd is
passed_events n next left (of_turn version m to) here leg before is = absurd is
passed_events n next left (of_copy version false sectors to) here leg before is = absurd is
passed_events n next left (of_copy version true sectors to) here leg before is = absurd is

pub passed_import : (next left : ℕ) (p : Page) (here : ℕ) (leg : Leg) (before : Origin) → IsKindOf which.Import p
    → IsPassed p here next left leg before leg before
passed_import next left (of_events version events) here leg before is = absurd is
passed_import next left (of_import version documents) here leg before is = (refl, refl)
passed_import next left (of_turn version m to) here leg before is = absurd is
passed_import next left (of_copy version false sectors to) here leg before is = absurd is
passed_import next left (of_copy version true sectors to) here leg before is = absurd is
