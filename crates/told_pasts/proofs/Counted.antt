-- Pages that are counted one after another.
use Rattle.std.proofs.Common.{◌≡◌, ◌+◌, ◌<◌, ◌≤◌, ℕ, List, [], ◌∷◌, length, refl, sym, ◌∙◌, ap, subst}
use Rattle.std.proofs.Common.{arith, length-append, true, false}
use Rattle.sector_disk.specs.Trail.{Content}
use Rattle.past_pages.specs.Page.{Page, of_copy, of_events, of_import, of_turn, page_sectors}
use Rattle.past_pages.specs.Reading.{HasPage, IsRead}
use Rattle.past_pages.specs.declared.pages.PageDeeds.{PageDeeds}
use Rattle.past_pages.specs.declared.pages.PageDeeds.TheVariants.{Events, FarTurn, Import, Mark, Turn}
use Rattle.desk_past.specs.Past.{HasPages, deeds_in, end_of_pages, AreGood, all_deeds}
use Rattle.desk_past.specs.Reading.{many_deeds}
use Rattle.desk_past.proofs.Carrying.{end_above}
use Rattle.desk_past.proofs.Moments.{many_posted}

-- These pages are left to be read, from this sector on; those before them have so many deeds.
pub record HasCounted (c : Content) (end : ℕ) (pages : List Page) (at count : ℕ) : Type 0 where
  pub todo : List Page
  pub written : HasPages c at todo
  pub good : AreGood todo
  pub up_to : end_of_pages at todo ≡ end
  pub counted : count + length (all_deeds todo) ≡ length (all_deeds pages)

pub none_counted : (c : Content) (end : ℕ) (pages : List Page) (at : ℕ) → HasPages c at pages → AreGood pages
    → end_of_pages at pages ≡ end → HasCounted c end pages at 0
none_counted c end pages at written good up_to =
    record { todo = pages; written = written; good = good; up_to = up_to; counted = omega arith }

-- what was read of a page is as much as it says
many_read : (deeds : PageDeeds) (p : Page) → IsRead deeds p → many_deeds deeds ≡ length (deeds_in p)
many_read (Events events) (of_events version all) is = ap length is ∙ sym (many_posted all)
many_read (Events events) (of_import version all) is = absurd is
many_read (Events events) (of_turn version k to) is = absurd is
many_read (Events events) (of_copy version false sectors to) is = absurd is
many_read (Events events) (of_copy version true sectors to) is = absurd is
many_read (Import documents) (of_events version all) is = absurd is
many_read (Import documents) (of_import version all) is = refl
many_read (Import documents) (of_turn version k to) is = absurd is
many_read (Import documents) (of_copy version false sectors to) is = absurd is
many_read (Import documents) (of_copy version true sectors to) is = absurd is
many_read (Turn n) (of_events version all) is = absurd is
many_read (Turn n) (of_import version all) is = absurd is
many_read (Turn n) (of_turn version k to) is = refl
many_read (Turn n) (of_copy version false sectors to) is = absurd is
many_read (Turn n) (of_copy version true sectors to) is = absurd is
many_read Mark (of_events version all) is = absurd is
many_read Mark (of_import version all) is = absurd is
many_read Mark (of_turn version k to) is = absurd is
many_read Mark (of_copy version false sectors to) is = refl
many_read Mark (of_copy version true sectors to) is = absurd is
many_read FarTurn (of_events version all) is = absurd is
many_read FarTurn (of_import version all) is = absurd is
many_read FarTurn (of_turn version k to) is = absurd is
many_read FarTurn (of_copy version false sectors to) is = absurd is
many_read FarTurn (of_copy version true sectors to) is = refl

-- before the end one is left
pub some_left : (todo : List Page) (at end : ℕ) → end_of_pages at todo ≡ end → at < end
    → (p : Page) × (more : List Page) × (todo ≡ p ∷ more)
some_left [] at end up_to low = absurd (omega (arith, up_to, low))
some_left (p ∷ more) at end up_to low = (p, more, refl)

-- and behind it none is
pub none_left : (todo : List Page) (at end : ℕ) → end_of_pages at todo ≡ end → end ≤ at → todo ≡ []
none_left [] at end up_to high = refl
none_left (p ∷ more) at end up_to high =
    let far = end_above more (at + page_sectors p) in absurd (omega (arith, up_to, high, far))

-- the first of some pages stands there
pub first_page : (c : Content) (todo : List Page) (at end : ℕ) (p : Page) (more : List Page) → todo ≡ p ∷ more
    → HasPages c at todo → AreGood todo → end_of_pages at todo ≡ end → HasPage c at end p
first_page c todo at end p more is written good up_to =
    let far = end_above more (at + page_sectors p) in
    let ends = sym (ap (end_of_pages at) is) ∙ up_to in record {
      held = (subst (HasPages c at) is written).0;
      good = (subst AreGood is good).0;
      within = omega (arith, far, ends);
    }

module _ {c : Content} {end : ℕ} {pages : List Page} {at count : ℕ} (was : HasCounted c end pages at count) where
  pub count_left : at < end → (p : Page) × (more : List Page) × (was.todo ≡ p ∷ more)
  count_left low = some_left was.todo at end was.up_to low

  pub counted_page : (p : Page) (more : List Page) → was.todo ≡ p ∷ more → HasPage c at end p
  counted_page p more is = first_page c was.todo at end p more is was.written was.good was.up_to

  pub page_counted : (p : Page) (more : List Page) → was.todo ≡ p ∷ more → (deeds : PageDeeds) → IsRead deeds p
      → {next sum : ℕ} → next ≡ at + page_sectors p → sum ≡ count + many_deeds deeds → HasCounted c end pages next sum
  page_counted p more is deeds read {next = next} behind summed = record {
    todo = more;
    written = subst (λ n. HasPages c n more) (sym behind) (subst (HasPages c at) is was.written).1;
    good = (subst AreGood is was.good).1;
    up_to = ap (λ n. end_of_pages n more) behind ∙ sym (ap (end_of_pages at) is) ∙ was.up_to;
    counted = let long = many_read deeds p read in
        let all = ap (λ l. length (all_deeds l)) is in
        omega (arith, summed, was.counted, long, all, length-append (deeds_in p) (all_deeds more));
  }

  -- what was counted so far, and those of the page, are no more than all
  pub few_counted : (p : Page) (more : List Page) → was.todo ≡ p ∷ more → (deeds : PageDeeds) → IsRead deeds p
      → count + many_deeds deeds ≤ length (all_deeds pages)
  few_counted p more is deeds read =
      let long = many_read deeds p read in
      let all = ap (λ l. length (all_deeds l)) is in
      omega (arith, was.counted, long, all, length-append (deeds_in p) (all_deeds more))

  pub all_counted : end ≤ at → count ≡ length (all_deeds pages)
  all_counted high =
      let none = ap (λ l. length (all_deeds l)) (none_left was.todo at end was.up_to high) in
      omega (arith, was.counted, none)
