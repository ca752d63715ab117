-- What is found by looking at a store before a press is done.
use Rattle.std.proofs.Common.{◌≡◌, [], Ok, Err, refl, sym, ◌∙◌, ap}
use Rattle.std.specs.Prelude.{ℕ, List, Bool, true, false, Option, Some, None, Result}
use Rattle.std.proofs.lemmas.Bool.{cond-true, cond-false}
use Rattle.std.proofs.lemmas.Result.{IfOk-weaker}
use Rattle.sector_disk.specs.declared.disk.Disk.{Ghosts}
use Rattle.desktop_definitions.specs.Desktop.{Desktop}
use Rattle.terminal_presses.specs.declared.action.Action.{Action}
use Rattle.desk_journal.specs.Errors.{Error}
use Rattle.desk_journal.specs.Looking.{OnlyLooks}
use Rattle.desk_journal.specs.Session.{Session, session_of}
use Rattle.desk_journal.specs.View.{StoreView, IsDurable}
use Rattle.desk_journal.specs.Views.{place_at}
use Rattle.status_line.specs.declared.question.Question.{Question}
use Rattle.desk_sitting.specs.declared.sitting.Sitting.{Sitting}
use Rattle.desk_sitting.specs.Doing.{DoesAction, DoesPress, Finds, seat_of}
use Rattle.status_line.specs.declared.clicks.MiddleClick.{MiddleClick}
use Rattle.screen_pictures.specs.declared.cell.Cell.{Cell}
use Rattle.desktop_definitions.specs.Shown.{shown_screen}
use Rattle.status_line.specs.Named.{named_question}
use Rattle.status_line.specs.Opened.{menu_reopened}
use Rattle.desk_sitting.specs.Called.{called_cell}
use Rattle.desk_sitting.specs.Questions.{asked_at, click_made, is_leave, click_question, named_at, named_by, named_there}
use Rattle.desk_sitting.specs.Questions.{or_asked}
use Rattle.desk_sitting.specs.Stored.{open_question, reopening}
use Rattle.status_line.specs.Question.{comes_first}
use Rattle.done_presses.specs.declared.again.StorePlace.{StorePlace}
use Rattle.desk_sitting.specs.Questions.{leaving_loses, loss_of, session_place, question_of, questioned, unasked}
use Rattle.desk_sitting.specs.Sittings.{Seat, accepted_as, accepted_unasked, acted, asks_first, done_by, question_at}
use Rattle.desk_sitting.proofs.Pressed.{alone_press, look_press, press_both, press_same, press_short, unseen_press}
use Rattle.desk_sitting.proofs.Taking.{same_session}

module _ {D : Type 0} (d : Ghosts D) where
  -- ---- looking

  -- nothing is looked at
  pub found_alone : {T : Type 0} (said : Desktop → T) (found : T) (s : Sitting) (store : StoreView D)
      → store.must_reopen ≡ false → found ≡ said store.desktop → Finds d (Ok found) said s store store
  found_alone said found s store usable is = record {
    told = λ honest durable. is;
    looks = alone_press d found (seat_of s store) s store usable refl;
  }

  -- one look, and what follows from it
  pub found_look : {A T : Type 0} (said : Desktop → T) (value : A) (found : T) (s : Sitting) (old mid : StoreView D)
      → old.must_reopen ≡ false → OnlyLooks d (Ok value) old mid → (d.honest old.disk → found ≡ said old.desktop)
      → Finds d (Ok found) said s old mid
  found_look said value found s old mid usable looks is = record {
    told = λ honest durable. is honest;
    looks =
        let press = look_press d usable value s looks in
        record {
          done = λ honest durable.
              let before = press.done honest durable in
              record {
                seat = ap (λ (session : Session). let e : Seat = record { sitting = s; session = session } in e)
                    (same_session d looks honest);
                goes = before.goes;
              };
          undone = tt;
          usable = press.usable;
          faults = record {
            rose = λ wrong. absurd (cc wrong);
            calm = λ other. press.faults.calm (λ wrong. absurd (cc wrong));
            errors = tt;
          };
          device = press.device;
        };
  }

  -- that fails
  pub found_unseen : {A T : Type 0} (said : Desktop → T) (error : Error) (s : Sitting) (old mid : StoreView D)
      → old.must_reopen ≡ false → OnlyLooks {T = A} d (Err error) old mid → Finds d {T = T} (Err error) said s old mid
  found_unseen said error s old mid usable looks = record {
    told = tt;
    looks = unseen_press d usable error [] (seat_of s old) s looks;
  }

  -- ---- one look after another

  module _ {A : Type 0} (asked : Desktop → A) (answer : A) (s : Sitting) {old mid new : StoreView D}
      (first : Finds d (Ok answer) asked s old mid) where
    pub then_found : {T : Type 0} (said : Desktop → T) (there : Desktop → T) (result : Result T Error)
        → (answer ≡ asked old.desktop → there old.desktop ≡ said old.desktop)
        → Finds d result there s mid new → Finds d result said s old new
    then_found said there result same second = record {
      told = IfOk-weaker result _ _ (λ found is honest durable.
          let before = first.looks.done honest durable in
          is (first.looks.device.still honest) before.goes.durable ∙ ap there before.goes.shows
          ∙ same (first.told honest durable)) second.told;
      looks = press_same d result (λ honest durable. (refl, (first.looks.done honest durable).seat))
          (press_both d first.looks second.looks);
    }

  -- a look that failed, where more was to be found
  pub found_no_more : {A T : Type 0} (asked : Desktop → A) (said : Desktop → T) (error : Error) (s : Sitting)
      (old mid : StoreView D) → Finds d {T = A} (Err error) asked s old mid → Finds d {T = T} (Err error) said s old mid
  found_no_more asked said error s old mid first = record {
    told = tt;
    looks = record {
      done = tt;
      undone = first.looks.undone;
      usable = tt;
      faults = record {
        rose = λ fault. first.looks.faults.rose (cc fault);
        calm = λ fine. first.looks.faults.calm (λ fault. fine (cc fault));
        errors = first.looks.faults.errors;
      };
      device = first.looks.device;
    };
  }

  -- what was found is all
  pub found_so : {A T : Type 0} (asked : Desktop → A) (said : Desktop → T) (answer : A) (found : T) (s : Sitting)
      (old mid : StoreView D) → (answer ≡ asked old.desktop → found ≡ said old.desktop)
      → Finds d (Ok answer) asked s old mid → Finds d (Ok found) said s old mid
  found_so asked said answer found s old mid same first = record {
    told = λ honest durable. same (first.told honest durable);
    looks = record {
      done = first.looks.done;
      undone = tt;
      usable = first.looks.usable;
      faults = record {
        rose = λ wrong. absurd (cc wrong);
        calm = λ other. first.looks.faults.calm (λ wrong. absurd (cc wrong));
        errors = tt;
      };
      device = first.looks.device;
    };
  }

-- ---- what is asked

-- what is found is also what is said otherwise of that desktop
pub found_here : {D T : Type 0} (d : Ghosts D) (said other : Desktop → T) (result : Result T Error) (s : Sitting)
    (old new : StoreView D) → said old.desktop ≡ other old.desktop → Finds d result said s old new
    → Finds d result other s old new
found_here d said other result s old new same finds = record {
  told = IfOk-weaker result _ _ (λ found is honest durable. is honest durable ∙ same) finds.told;
  looks = finds.looks;
}

-- and of any
pub found_as : {D T : Type 0} (d : Ghosts D) (said other : Desktop → T) (result : Result T Error) (s : Sitting)
    (old new : StoreView D) → ((desktop : Desktop) → said desktop ≡ other desktop) → Finds d result said s old new
    → Finds d result other s old new
found_as d said other result s old new same finds =
    found_here d said other result s old new (same old.desktop) finds

module _ (a : Action) (s : Sitting) (place : StorePlace) (desktop : Desktop) where
  pub asks_nothing : s.questions ≡ false → None ≡ question_of a s place desktop
  asks_nothing silent = sym (cond-false s.questions (loss_of a (leaving_loses place s) desktop) None silent)

  pub asks_leave : (found : Option Question) → s.questions ≡ true → is_leave a ≡ true
      → found ≡ leaving_loses place s → found ≡ question_of a s place desktop
  asks_leave found asks leaves is =
      is ∙ sym (cond-true s.questions (loss_of a (leaving_loses place s) desktop) None asks
      ∙ cond-true (is_leave a) (leaving_loses place s) (click_question (click_made a desktop) desktop) leaves)

  pub asks_click : s.questions ≡ true → is_leave a ≡ false
      → click_question (click_made a desktop) desktop ≡ question_of a s place desktop
  asks_click asks stays =
      sym (cond-true s.questions (loss_of a (leaving_loses place s) desktop) None asks
      ∙ cond-false (is_leave a) (leaving_loses place s) (click_question (click_made a desktop) desktop) stays)

-- what a click would lose, where one was found, or none
module _ (made : Option MiddleClick) (desktop : Desktop) (found : Option MiddleClick) (is : found ≡ made) where
  pub lost_nothing : found ≡ None → None ≡ click_question made desktop
  lost_nothing none = sym (ap (λ o. click_question o desktop) (sym is ∙ none))

  pub lost_so : (click : MiddleClick) → found ≡ Some click
      → asked_at click desktop ≡ click_question made desktop
  lost_so click some = sym (ap (λ o. click_question o desktop) (sym is ∙ some))

-- what is asked about a word, by a screen that shows the desktop
module _ (to : ℕ × ℕ) (d : Desktop) (screen : List (List Cell)) (is : screen ≡ shown_screen d) where
  seen_named : named_question (shown_screen d) to.0 to.1 ≡ named_question screen to.0 to.1
  seen_named = ap (λ (seen : List (List Cell)). named_question seen to.0 to.1) (sym is)

  pub unnamed : named_question screen to.0 to.1 ≡ None → reopening screen to d ≡ named_at to d
  unfolding named_at
  unnamed none = ap (λ (seen : List (List Cell)). reopening seen to d) is
      ∙ sym (ap (λ (o : Option Question). or_asked o (reopening (shown_screen d) to d)) (seen_named ∙ none))

  pub named_so : (question : Question) → named_question screen to.0 to.1 ≡ Some question → Some question ≡ named_at to d
  unfolding named_at
  named_so question some =
      sym (ap (λ (o : Option Question). or_asked o (reopening (shown_screen d) to d)) (seen_named ∙ some))

-- by the cell whose word a click calls, if it calls one
module _ (click : MiddleClick) (d : Desktop) (found : Option (ℕ × ℕ))
    (is : found ≡ called_cell (place_at d click.from) click.from click.to) where
  pub calls_none : found ≡ None → None ≡ named_by click d
  unfolding named_by
  calls_none none = sym (ap (λ (o : Option (ℕ × ℕ)). named_there o d) (sym is ∙ none))

  pub calls_so : (cell : ℕ × ℕ) → found ≡ Some cell → named_at cell d ≡ named_by click d
  unfolding named_by
  calls_so cell some = sym (ap (λ (o : Option (ℕ × ℕ)). named_there o d) (sym is ∙ some))

-- and by the menu of a viewer that is open
module _ (to : ℕ × ℕ) (screen : List (List Cell)) (d : Desktop) (found : Option (ℕ × ℕ))
    (is : found ≡ menu_reopened screen to.0 to.1) where
  pub reopens_none : found ≡ None → None ≡ reopening screen to d
  unfolding reopening
  reopens_none none = sym (ap (λ (o : Option (ℕ × ℕ)). open_question o screen d) (sym is ∙ none))

  pub reopens_so : (at : ℕ × ℕ) → found ≡ Some at → open_question (Some at) screen d ≡ reopening screen to d
  unfolding reopening
  reopens_so at some = sym (ap (λ (o : Option (ℕ × ℕ)). open_question o screen d) (sym is ∙ some))

-- ---- what a press comes to

module _ (a : Action) (d : Seat) (s : Sitting) where
  asking_seat : asks_first a d ≡ true → s ≡ questioned (question_at a d) d.sitting
      → record d { sitting = s } ≡ acted a d
  unfolding acted
  asking_seat asks is = ap (λ (t : Sitting). record d { sitting = t }) is
      ∙ sym (cond-true (asks_first a d) _ _ asks)

  done_seat : asks_first a d ≡ false → s ≡ unasked a d.sitting → done_by a (record d { sitting = s }) ≡ acted a d
  unfolding acted
  done_seat plain is = ap (λ (t : Sitting). done_by a (record d { sitting = t })) is
      ∙ sym (cond-false (asks_first a d) _ _ plain)

module _ {D : Type 0} (d : Ghosts D) (a : Action) (s : Sitting) (old mid : StoreView D) where
  abbrev Seeks : Result (Option Question) Error → Type 0
  Seeks result = Finds d result (question_of a s (session_place (session_of old))) s old mid

  -- a question was looked for, and that fails
  pub unsought_press : (s' : Sitting) (error : Error) → Seeks (Err error)
      → DoesPress d {T = Unit} (accepted_unasked a (seat_of s old)) (acted a (seat_of s old)) (Err error) s' old mid
  unsought_press s' error seeks =
      press_short d {T = Unit} (accepted_unasked a (seat_of s old)) {error = error} {events = []} {seat = seat_of s old}
      (acted a (seat_of s old)) {s' = s'} {old = old} {new = mid} (record {
        done = tt;
        undone = seeks.looks.undone;
        usable = tt;
        faults = record {
          rose = λ fault. seeks.looks.faults.rose (cc fault);
          calm = λ fine. seeks.looks.faults.calm (λ fault. fine (cc fault));
          errors = seeks.looks.faults.errors;
        };
        device = seeks.looks.device;
      })

  module _ (found : Option Question) (seeks : Seeks (Ok found)) where
    -- what was found is what is asked about the press
    asks_so : (b : Bool) → comes_first s.question found ≡ b → d.honest old.disk → IsDurable d old
        → asks_first a (seat_of s old) ≡ b
    asks_so b is honest durable = ap (comes_first s.question) (sym (seeks.told honest durable)) ∙ is

    -- a look leaves another sitting where it was
    other_press : (s' : Sitting) → DoesPress d {T = Unit} [] (seat_of s' old) (Ok tt) s' old mid
    other_press s' = record {
      done = λ honest durable.
          let before = seeks.looks.done honest durable in
          record {
            seat = ap (λ (e : Seat). let f : Seat = record e { sitting = s' } in f) before.seat;
            goes = before.goes;
          };
      undone = tt;
      usable = seeks.looks.usable;
      faults = record {
        rose = λ wrong. absurd (cc wrong);
        calm = λ other. seeks.looks.faults.calm (λ wrong. absurd (cc wrong));
        errors = tt;
      };
      device = seeks.looks.device;
    }

    -- a question posts none
    pub asking_press : (s' : Sitting) → comes_first s.question found ≡ true → s' ≡ questioned found s
        → DoesPress d {T = Unit} (accepted_unasked a (seat_of s old)) (acted a (seat_of s old)) (Ok tt) s' old mid
    asking_press s' asks is =
        press_same d (Ok tt) (λ honest durable.
        let first = asks_so true asks honest durable in (
          sym (cond-true (asks_first a (seat_of s old)) [] _ first),
          asking_seat a (seat_of s old) s' first
              (is ∙ ap (λ (o : Option Question). questioned o s) (seeks.told honest durable)),
        )) (other_press s')

    -- and what asks none is done
    pub plain_press : {T : Type 0} (result : Result T Error) (next s' : Sitting) (new : StoreView D)
        → comes_first s.question found ≡ false → next ≡ unasked a s → DoesAction d a result next s' mid new
        → DoesPress d (accepted_unasked a (seat_of s old)) (acted a (seat_of s old)) result s' old new
    plain_press result next s' new plain is does =
        press_same d result (λ honest durable.
        let first = asks_so false plain honest durable in
        let seat : seat_of s mid ≡ seat_of s old = (seeks.looks.done honest durable).seat in (
          ap (λ (e : Seat). accepted_as a (record e { sitting = next })) seat
              ∙ ap (λ (t : Sitting). accepted_as a (seat_of t old)) is
              ∙ sym (cond-false (asks_first a (seat_of s old)) [] _ first),
          ap (λ (e : Seat). done_by a (record e { sitting = next })) seat
              ∙ done_seat a (seat_of s old) next first is,
        )) (press_both d (other_press next) does)
