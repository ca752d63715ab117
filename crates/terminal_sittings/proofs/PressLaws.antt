-- What holds of all presses.
use Rattle.std.proofs.Common.{◌≤◌, ◌∙◌, ℕ, List, [], ◌∷◌, arith, refl, sym, ap, inl, inr}
use Rattle.sector_disk.specs.declared.disk.Disk.{Ghosts}
use Rattle.std.proofs.lemmas.Bool.{cases_lt, ltb-true}
use Rattle.event_bytes.specs.declared.event.Event.{Event}
use Rattle.desktop_definitions.specs.Step.{steps}
use Rattle.desk_journal.specs.Undoing.{IsTakenBack}
use Rattle.desk_journal.specs.View.{StoreView}
use Rattle.desk_journal.proofs.Prefixes.{steps_both}
use Rattle.past_steps.specs.Steps.{turned, undone}
use Rattle.desk_sitting.specs.TheDesk.{the_desk}
use Rattle.desk_sitting.specs.Desk.{accepted_events}
use Rattle.desk_sitting.specs.Sittings.{accepted_of, after_press}
use Rattle.desk_sitting.proofs.Accepted.{press_steps}
use Rattle.terminal_sittings.specs.Laws.{LaterStepsAreTurns, PressesAreSteps}

-- ---- presses

pub presses_steps : PressesAreSteps
presses_steps [] d = refl
presses_steps (press ∷ presses) d =
    let first = accepted_of press d in
    let later = accepted_events the_desk presses (after_press press d) in
    presses_steps presses (after_press press d)
    ∙ ap (λ desktop. steps desktop later) (press_steps press d)
    ∙ sym (steps_both d.session.desktop first later)

-- ---- steps back

module _ {D : Type 0} (d : Ghosts D) where
  -- an undo leads to no later epoch
  undone_below : (count : ℕ) (events : List Event) {old new : StoreView D} → IsTakenBack d count events old new
      → new.epoch ≤ old.epoch
  undone_below count events {old = old} taken_back = elim (cases_lt old.events count) [
    | inl other ↦ elim (taken_back.other other) [
      | inl same ↦ omega (arith, same.0)
      | inr before ↦ omega (arith, before.0)
    ]
    | inr own ↦ omega (arith, (taken_back.own own).0)
  ]

  pub later_is_turned : LaterStepsAreTurns d
  later_is_turned count deeds old new stepped later =
      let above = ltb-true old.epoch new.epoch later in
      let same = stepped.read.left.epoch in
      elim stepped.takes [
        | turned made ↦ (stepped.between, stepped.read, made)
        | undone events are taken_back ↦
            let below = undone_below count events taken_back in absurd (omega (arith, above, same, below))
      ]
