-- Laws of what stays the same of a source over a disk and pages.
use Rattle.std.specs.Prelude.{◌≡◌, ℕ, List, [], ◌++◌}
use Rattle.std.specs.Borrow.{GName}
use Rattle.std.proofs.Common.{refl, sym, ◌∙◌, ap, append_assoc}
use Rattle.std.proofs.lemmas.List.{append-nil}
use Rattle.sector_disk.specs.declared.disk.Disk.{Ghosts}
use Rattle.sector_disk.specs.Trail.{Nowhere}
use Rattle.sector_disk.proofs.Confinement.{stays_put, joined}
use Rattle.char_pages.specs.declared.pages.Pages.{Pages}
use Rattle.char_pages.specs.Ground.{IsLonger, OnSamePages}

-- the laws of lists that are added to: nothing was added, and more was added twice
pub none_more : (old new : List ℕ) → new ≡ old → IsLonger new old
none_more old new is = ([], is ∙ sym (append-nil old))

pub more_again : (old mid new : List ℕ) → IsLonger mid old → IsLonger new mid → IsLonger new old
more_again old mid new first second = (
  first.0 ++ second.0,
  second.1 ∙ ap (λ l. l ++ second.0) first.1
      ∙ append_assoc old first.0 second.0,
)

module _ {D : Type 0} {d : Ghosts D} where
  pub pages_self : {s : D} {p : Pages} {disk pages : GName}
      → OnSamePages d s s p p disk disk pages pages
  pages_self {s = s} = record {
    confined = stays_put d.size d.honest d.trail Nowhere s;
    same_base = refl;
    before = λ not. not;
    same_saved = λ not. refl;
    only_added = λ not. none_more _ _ refl;
    same_disk = refl;
    same_pages = refl;
  }

  pub pages_through : {s s' s'' : D} {p p' p'' : Pages} {i i' i'' j j' j'' : GName}
      → OnSamePages d s s' p p' i i' j j' → OnSamePages d s' s'' p' p'' i' i'' j' j''
      → OnSamePages d s s'' p p'' i i'' j j''
  pages_through x y = record {
    confined = joined d.size d.honest d.trail x.confined y.confined;
    same_base = y.same_base ∙ x.same_base;
    before = λ not. x.before (y.before not);
    same_saved = λ not. y.same_saved not ∙ x.same_saved (y.before not);
    only_added = λ not. more_again _ _ _ (x.only_added (y.before not)) (y.only_added not);
    same_disk = y.same_disk ∙ x.same_disk;
    same_pages = y.same_pages ∙ x.same_pages;
  }
