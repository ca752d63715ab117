-- How many deeds pages have, as their fronts say.
use Rattle.std.proofs.Common.{◌≡◌, ◌+◌, ◌^◌, ◌<◌, ◌≤◌, ℕ, List, [], ◌∷◌, ◌++◌, length, refl, sym, ◌∙◌, ap, subst, arith}
use Rattle.std.proofs.Common.{length-append}
use Rattle.sector_disk.specs.Trail.{Content}
use Rattle.past_pages.specs.Page.{Page, page_sectors}
use Rattle.past_pages.specs.Reading.{HasPage, IsKindOf, kind_count}
use Rattle.past_pages.specs.declared.pages.PageKind.{PageKind}
use Rattle.desk_past.specs.Past.{HasPages, deeds_in, end_of_pages, AreGood, all_deeds}
use Rattle.desk_past.proofs.Carrying.{end_above}
use Rattle.desk_past.proofs.Legs.{kind_many}

-- so many deeds of some pages were counted, up to this sector
pub record HasCounted (c : Content) (end : ℕ) (pages : List Page) (at k : ℕ) : Type 0 where
  pub todo : List Page
  pub written : HasPages c at todo
  pub good : AreGood todo
  pub up_to : end_of_pages at todo ≡ end
  pub counted : k + length (all_deeds todo) ≡ length (all_deeds pages)

pub none_counted : {c : Content} {end : ℕ} (pages : List Page) (at : ℕ) → HasPages c at pages → AreGood pages
    → end_of_pages at pages ≡ end → HasCounted c end pages at 0
none_counted pages at written good up_to = record {
  todo = pages;
  written = written;
  good = good;
  up_to = up_to;
  counted = omega arith;
}

one_left : (c : Content) (todo : List Page) (at end : ℕ) → HasPages c at todo → AreGood todo
    → end_of_pages at todo ≡ end
    → at < end → (p : Page) × (more : List Page) × (todo ≡ p ∷ more) × HasPage c at end p
one_left c [] at end held good up_to low = absurd (omega (arith, up_to, low))
one_left c (p ∷ more) at end held good up_to low =
    let far = end_above more (at + page_sectors p) in
    (p, more, refl, record { held = held.0; good = good.0; within = omega (arith, far, up_to) })

none_left : (todo : List Page) (at end : ℕ) → end_of_pages at todo ≡ end → end ≤ at → todo ≡ []
none_left [] at end up_to high = refl
none_left (p ∷ more) at end up_to high =
    let far = end_above more (at + page_sectors p) in absurd (omega (arith, up_to, high, far))

module _ {c : Content} {end : ℕ} {pages : List Page} {at k : ℕ} (was : HasCounted c end pages at k) where
  -- a page comes next
  pub one_there : at < end → (p : Page) × HasPage c at end p
  one_there low = let x = one_left c was.todo at end was.written was.good was.up_to low in (x.0, x.3)

  -- so many deeds more
  long_on : (p : Page) (more : List Page) → was.todo ≡ p ∷ more
      → length (all_deeds was.todo) ≡ length (deeds_in p) + length (all_deeds more)
  long_on p more is = ap (λ l. length (all_deeds l)) is ∙ length-append (deeds_in p) (all_deeds more)

  -- a page more was counted
  pub front_counted : at < end → (kind : PageKind) (next more : ℕ)
      → ((p : Page) → HasPage c at end p → IsKindOf kind p × (next ≡ at + page_sectors p))
      → more ≡ k + kind_count kind → HasCounted c end pages next more
  front_counted low kind next more read many =
      let x = one_left c was.todo at end was.written was.good was.up_to low in
      let is = read x.0 x.3 in
      let long = long_on x.0 x.1 x.2 in
      let count = kind_many kind x.0 is.0 in
      record {
        todo = x.1;
        written = subst (λ n. HasPages c n x.1) (sym is.1) (subst (HasPages c at) x.2 was.written).1;
        good = (subst AreGood x.2 was.good).1;
        up_to = ap (λ n. end_of_pages n x.1) is.1 ∙ sym (ap (end_of_pages at) x.2) ∙ was.up_to;
        counted = omega (arith, was.counted, long, many, count);
      }

  -- or there are too many
  pub front_many : at < end → (kind : PageKind) (next : ℕ)
      → ((p : Page) → HasPage c at end p → IsKindOf kind p × (next ≡ at + page_sectors p))
      → 2 ^ 64 ≤ k + kind_count kind → 2 ^ 64 ≤ length (all_deeds pages)
  front_many low kind next read many =
      let x = one_left c was.todo at end was.written was.good was.up_to low in
      let is = read x.0 x.3 in
      let long = long_on x.0 x.1 x.2 in
      let count = kind_many kind x.0 is.0 in
      omega (arith, was.counted, long, many, count)

  -- none is left
  pub all_counted : end ≤ at → k ≡ length (all_deeds pages)
  all_counted high =
      let none = ap (λ l. length (all_deeds l)) (none_left was.todo at end was.up_to high) in
      omega (arith, was.counted, none)
