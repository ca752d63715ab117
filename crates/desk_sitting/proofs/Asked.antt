-- Questions, and tasks.
use Rattle.std.proofs.Common.{◌≡◌, ◌∙◌, true, false, refl, sym, ap, []}
use Rattle.std.specs.Prelude.{Some, None, Result, Ok}
use Rattle.std.proofs.lemmas.Bool.{cond-true, cond-false}
use Rattle.sector_disk.specs.declared.disk.Disk.{Ghosts}
use Rattle.desk_journal.specs.Errors.{Error}
use Rattle.desk_journal.specs.View.{StoreView}
use Rattle.terminal_presses.specs.declared.action.Action.{Action}
use Rattle.terminal_presses.specs.declared.press.Press.{Press}
use Rattle.desk_sitting.specs.Sittings.{meant_by}
use Rattle.desk_sitting.specs.declared.sitting.Sitting.{Sitting}
use Rattle.press_tasks.specs.declared.task.Task.{Task}
use Rattle.desk_sitting.specs.Sittings.{most_plans}
use Rattle.desk_sitting.specs.Doing.{DoesAction, DoesPress, seat_of}
use Rattle.desk_sitting.specs.Sittings.{Seat, accepted_as, accepted_in, accepted_of, accepted_unasked, acted}
use Rattle.desk_sitting.specs.Sittings.{acted_alone}
use Rattle.desk_sitting.specs.Sittings.{after_press, after_task, with_marks, done_by, done_so, noted_in, task_in, with_hand}
use Rattle.desk_sitting.proofs.Accepted.{none_accepted}
use Rattle.desk_sitting.proofs.Pressed.{alone_press, press_same}
use Rattle.desk_sitting.proofs.Taking.{left_seat, pressed_seat}

module _ {D : Type 0} (d : Ghosts D) where
  -- after the person has left
  pub left_press : (press : Press) (s : Sitting) (store : StoreView D) → store.must_reopen ≡ false → s.leaves ≡ true
      → DoesPress d {T = Unit} (accepted_of press (seat_of s store)) (after_press press (seat_of s store)) (Ok tt) s
      store store
  left_press press s store usable leaves =
      press_same d (Ok tt) (λ honest durable. (sym (cond-true s.leaves [] _ leaves), refl))
      (alone_press d tt (after_press press (seat_of s store)) s store usable
      (left_seat press (seat_of s store) leaves))

  -- before that the hand says what it comes to
  pub hand_press : {T : Type 0} (press : Press) (a : Action) (result : Result T Error) (s mid s' : Sitting)
      (old new : StoreView D) → s.leaves ≡ false → mid ≡ with_hand (meant_by press s) (with_marks press s)
      → a ≡ (meant_by press s).1
      → DoesPress d (accepted_unasked a (seat_of mid old)) (acted a (seat_of mid old)) result s' old new
      → DoesPress d (accepted_of press (seat_of s old)) (after_press press (seat_of s old)) result s' old new
  hand_press press a result s mid s' old new stays is is_a does =
      let made = meant_by press s in
      press_same d result (λ honest durable. (
        ap (λ one. accepted_unasked one (seat_of mid old)) is_a
            ∙ ap (λ t. accepted_unasked made.1 (seat_of t old)) is
            ∙ sym (cond-false s.leaves [] _ stays),
        pressed_seat press (seat_of s old) mid a stays is is_a,
      )) does

  -- ---- a task

  -- what it comes to, where it has a task
  pub task_press : {T : Type 0} (a : Action) (task : Task) (result : Result T Error) (s mid s' : Sitting)
      (old new : StoreView D) → task_in s a ≡ Some task → mid ≡ noted_in a s
      → DoesPress d (accepted_in most_plans (Some task) (seat_of mid old))
      (after_task most_plans (Some task) (seat_of mid old)) result s' old new
      → DoesAction d a result s s' old new
  unfolding done_by accepted_as
  task_press a task result s mid s' old new is noted does = press_same d result (λ honest durable. (
    ap (λ t. accepted_in most_plans (Some task) (seat_of t old)) noted
        ∙ ap (λ left. accepted_in most_plans left (seat_of (noted_in a s) old)) (sym is),
    ap (λ t. after_task most_plans (Some task) (seat_of t old)) noted
        ∙ ap (λ left. done_so left a (seat_of (noted_in a s) old)) (sym is),
  )) does

  -- and where it has none
  pub alone_action : (a alone : Action) (s mid s' : Sitting) (store : StoreView D) → store.must_reopen ≡ false
      → task_in s a ≡ None → mid ≡ noted_in a s → alone ≡ a → s' ≡ acted_alone alone mid
      → DoesAction d {T = Unit} a (Ok tt) s s' store store
  unfolding done_by accepted_as
  alone_action a alone s mid s' store usable none noted is_a is =
      let at : Seat = seat_of (noted_in a s) store in
      press_same d (Ok tt) (λ honest durable. (
        sym (ap (λ left. accepted_in most_plans left at) none ∙ none_accepted most_plans at),
        ap (λ left. done_so left a at) (sym none),
      ))
      (alone_press d tt (done_so None a at) s' store usable
      (ap (λ t. seat_of t store) (is ∙ ap (λ x. acted_alone x mid) is_a ∙ ap (acted_alone a) noted)))
