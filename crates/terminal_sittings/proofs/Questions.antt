-- A question posts nothing, and is asked once.
use Rattle.std.proofs.Common.{◌≡◌, ◌∙◌, true, false, refl, ap, List, [], Some, None}
use Rattle.std.specs.Prelude.{Bool, Option, ◌&&◌, not, if◌then◌else◌}
use Rattle.std.proofs.lemmas.Bool.{cond-true, cond-false, eq-eqb}
use Rattle.desktop_definitions.specs.Desktop.{Desktop}
use Rattle.event_bytes.specs.declared.event.Event.{Event}
use Rattle.terminal_presses.specs.declared.action.Action.{Action}
use Rattle.terminal_presses.specs.declared.hand.Hand.{Hand}
use Rattle.terminal_presses.specs.declared.press.Press.{Press}
use Rattle.desk_sitting.specs.Sittings.{meant_by}
use Rattle.status_line.specs.declared.question.Question.{Question}
use Rattle.status_line.specs.declared.question.Question.TheVariants.{Leaving, Forgetting, Closing, Taking, Rivalled}
use Rattle.status_line.specs.declared.question.Question.TheVariants.{Deleting, Misnamed, Reopening}
use Rattle.desk_sitting.specs.declared.sitting.Sitting.{Sitting}
use Rattle.done_presses.specs.declared.again.StorePlace.{StorePlace}
use Rattle.desk_sitting.specs.Questions.{session_place, questioned, question_of}
use Rattle.status_line.specs.Question.{comes_first, is_same_question}
use Rattle.desk_sitting.specs.Sittings.{Seat, acted, after_press}
use Rattle.terminal_sittings.specs.Laws.{QuestionsComeOnce, QuestionsPostNothing}
use Rattle.desk_sitting.specs.Sittings.{with_question}
use Rattle.desk_sitting.specs.Sittings.{asks_first, with_marks, question_at, with_hand}
use Rattle.desk_sitting.proofs.Accepted.{hand_asks}

both : (a b : Bool) → not a && b ≡ true → (a ≡ false) × (b ≡ true)
both true b is = absurd cc
both false b is = (refl, is)

none_either : (b : Bool) (events : List Event) → events ≡ [] → (if b then [] else events) ≡ []
none_either true events is = refl
none_either false events is = is

-- what is asked leaves the session, and nobody leaves
asking_keeps : (o : Option Question) (s : Sitting) → (questioned o s).leaves ≡ s.leaves
asking_keeps None s = refl
asking_keeps (Some question) s = refl

asked_is : (a : Action) (press : Press) (d : Seat) (next : Hand × Action) → asks_first a d ≡ true
    → acted a (record d { sitting = with_hand next (with_marks press d.sitting) })
    ≡ with_question a (record d { sitting = with_hand next (with_marks press d.sitting) })
unfolding acted
asked_is a press d next asks =
    let held = record d { sitting = with_hand next (with_marks press d.sitting) } in
    cond-true (asks_first a held) _ _ (hand_asks a press next d ∙ asks)

pub posts_nothing : QuestionsPostNothing
unfolding after_press
posts_nothing press d is =
    let made = meant_by press d.sitting in
    let (here, asks) = both d.sitting.leaves (asks_first made.1 d) is in
    let held = record d { sitting = with_hand made (with_marks press d.sitting) } in
    let next = cond-false d.sitting.leaves d (acted made.1 held) here ∙ asked_is made.1 press d made asks in (
      none_either d.sitting.leaves _ (cond-true (asks_first made.1 held) [] _ (hand_asks made.1 press made d ∙ asks)),
      ap (λ (t : Seat). t.session) next,
      ap (λ (t : Seat). t.sitting.leaves) next
          ∙ asking_keeps (question_at made.1 held) held.sitting ∙ here,
    )

itself : (question : Question) → is_same_question question question ≡ true
itself Leaving = refl
itself Forgetting = refl
itself (Closing x y) = λ k. eq-eqb x x refl k && eq-eqb y y refl k
itself (Taking x y) = λ k. eq-eqb x x refl k && eq-eqb y y refl k
itself (Rivalled x y) = λ k. eq-eqb x x refl k && eq-eqb y y refl k
itself (Deleting x y) = λ k. eq-eqb x x refl k && eq-eqb y y refl k
itself (Misnamed x y) = λ k. eq-eqb x x refl k && eq-eqb y y refl k
itself (Reopening x y) = λ k. eq-eqb x x refl k && eq-eqb y y refl k

once : (s : Sitting) (o : Option Question) → comes_first s.question o ≡ true
    → comes_first (questioned o s).question o ≡ false
once s None is = absurd (cc is)
once s (Some question) is = ap not (itself question)

-- a question that is asked changes nothing of what is asked about
asking_asks : (a : Action) (s : Sitting) (place : StorePlace) (desktop : Desktop) (o : Option Question)
    → question_of a (questioned o s) place desktop ≡ question_of a s place desktop
asking_asks a s place desktop None = refl
asking_asks a s place desktop (Some question) = refl

pub come_once : QuestionsComeOnce
come_once a d is =
    ap (comes_first (questioned (question_at a d) d.sitting).question)
    (asking_asks a d.sitting (session_place d.session) d.session.desktop (question_at a d))
    ∙ once d.sitting (question_at a d) is
