use Rattle.std.proofs.Common.{◌≡◌, ◌++◌, inl, inr, length, sym, ◌∙◌, ap, arith, rules}
use Rattle.sector_disk.specs.Trail.{now}
use Rattle.store_layout.proofs.Bits.{true_or_false}
use Rattle.past_pages.specs.Page.{number, page_bytes}
use Rattle.past_pages.specs.declared.page.TheConstants.{EVENTS_PAGE}
use Rattle.past_pages.proofs.PageReads.{page_short}
use Rattle.past_pages.proofs.Told.{ok_of, shown_as}
use Rattle.past_pages.proofs.page.journal_page.Goals as goal

pub returns-clause-page : goal.returns-clause-page
returns-clause-page g c = λ honest s at. elim (true_or_false c.args.store.now.must_reopen) [
  | inl closed ↦ absurd (let wrong : ⊥ = cc (c.info.ensures.reopen closed, c.in_ok-info.was) in wrong)
  | inr usable ↦
      let d = g.D.Disk in
      let is = shown_as (now (d.trail c.args.store.now.disk)) s c.standing_law.ensures
      (c.info.ensures.durable usable honest) at in
      let info_is = ap (ok_of c.in_ok-info.info) (sym c.in_ok-info.was ∙ c.info.ensures.value usable) in
      let spelled = c.as_slice.ensures.value ∙ c.in_ok-events.ensures.bytes honest s at in
      c.in_ok-page_of.ensures.bytes
      ∙ (λ i. number EVENTS_PAGE ++ (number ((ap (λ x. x.layout) info_is ∙ sym is.version_is) i)
      ++ (number ((ap (λ x. x.events) info_is ∙ sym is.events) i)
      ++ (number (length (spelled i)) ++ spelled i))))
]

pub returns-clause-short : goal.returns-clause-short
returns-clause-short g c = page_short (number EVENTS_PAGE) (number _) (number _) (number _) _ _ (search rules)
    (search rules)
    (search rules) (search rules) c.in_ok-page_of.ensures.few c.in_ok-page_of.ensures.bytes
