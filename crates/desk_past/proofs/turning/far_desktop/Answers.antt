use Rattle.std.proofs.Common.{◌≡◌, ◌∙◌, inl, inr, subst, sym, true}
use Rattle.std.proofs.lemmas.Result.{err_from_is_err_and}
use Rattle.store_slots.specs.declared.error.Error.TheVariants.{NoMemory}
use Rattle.past_pages.specs.Marks.{IsCopyPage}
use Rattle.past_pages.proofs.Failing.{none_failed}
use Rattle.desk_past.proofs.InMemory.{error_calm}
use Rattle.desk_past.proofs.turning.far_desktop.Goals as goal

pub returns-clause-was : goal.returns-clause-was
returns-clause-was g c = record {
  in_use = λ past lies there.
      c.in_ok-to.ensures.same.0
      ∙ ((rw c.in-Some.is at c.in_ok-shown.ensures.comes_back) past.honest past.start past.deeds past.desktop past.keeps
      lies).is_one there;
  over_parts = λ past lies spans are was there.
      c.in_ok-to.ensures.same.0
      ∙ (rw c.in-Some.is at c.in_ok-shown.ensures.over_parts) past.honest past.start past.deeds past.desktop was
      past.keeps
      spans are there;
}

pub returns-clause-page : goal.returns-clause-page
returns-clause-page g c = subst (λ x. IsCopyPage true x c.in_ok-page.page.items)
    (c.in_ok-to.ensures.same.1 ∙ sym c.in_ok-to.ensures.same.0) c.in_ok-page.ensures

pub returns-in_default-clause-none : goal.returns-in_default-clause-none
returns-in_default-clause-none g c = λ can.
    let past = can.past in
    elim can.there [
      | inl at ↦ ((rw c.in_default.is at c.in_ok-shown.ensures.comes_back) past.honest past.start past.deeds
          past.desktop
          past.keeps can.lies).is_one at.there
      | inr over ↦ (rw c.in_default.is at c.in_ok-shown.ensures.over_parts) past.honest past.start past.deeds
          past.desktop
          can.to past.keeps over.0 over.1 over.2
    ]

pub returns-in_err-page-clause-faults : goal.returns-in_err-page-clause-faults
returns-in_err-page-clause-faults g c =
    let p = err_from_is_err_and c.from_residual-in_err-page.result c.from_residual-in_err-page.ensures.1 in
    error_calm {P = λ e. e ≡ NoMemory} p.2 (λ e is. inr (inl (inl is)))
    (λ e is fault. let wrong : ⊥ = cc (is, fault) in wrong) (none_failed c.in_ok-shown.ensures.faults) p.1
