use Rattle.std.proofs.Common.{◌≡◌, inl, inr, ◌+◌, ◌^◌, ◌≤◌, ◌∙◌, ap, rules, subst, sym}
use Rattle.std.specs.Prelude.{MatchOption}
use Rattle.sector_disk.specs.Trail.{now}
use Rattle.store_layout.proofs.Bits.{true_or_false}
use Rattle.past_pages.proofs.Told.{ok_of, shown_as}
use Rattle.desk_past.proofs.reading.events_before.Goals as goal

pub returns-clause-sum : goal.returns-clause-sum
returns-clause-sum g c = λ honest s at. elim (true_or_false c.past.new.self.must_reopen) [
  | inl closed ↦ absurd (let wrong : ⊥ = cc (c.info.ensures.reopen closed, c.in_ok-info.was) in wrong)
  | inr mid ↦
      let d = g.D.Disk in
      let usable = sym c.past.ensures.looks.usable ∙ mid in
      let is = shown_as (now (d.trail c.args.store.now.disk)) s c.standing_law.ensures
      (c.shows_what_crashes_leave.ensures.durable usable honest) at in
      let info_is = ap (ok_of c.in_ok-info.info) (sym c.in_ok-info.was ∙ c.info.ensures.value mid) in
      subst (λ m. MatchOption c.checked_add.result (2 ^ 64 ≤ m) (λ n. n ≡ m))
      (λ i. (c.in_ok-told.ensures.told honest s at i).before
      + (ap (λ x. x.events) info_is ∙ c.past.ensures.looks.events ∙ sym is.events) i)
      (search rules)
]
