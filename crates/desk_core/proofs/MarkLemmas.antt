-- Effects on marks: what is outside the display, the marker, the caret, and what was drawn.
use Rattle.std.specs.Prelude.{◌≡◌, ◌≤◌, ◌<◌, ◌==◌, ◌&&◌, ℕ, Bool, true, false, if◌then◌else◌}
use Rattle.std.specs.Prelude.{List, [], ◌∷◌, ◌++◌, length}
use Rattle.std.specs.Prelude.{Result, Ok}
use Rattle.std.proofs.Common.{refl, sym, ap, subst, ◌∙◌}
use Rattle.std.proofs.lemmas.Bool.{and_parts, ltb-true}
use Rattle.piece_ring.specs.Flat.{flat}
use Rattle.viewer_tracks.specs.declared.display.TheConstants.{ROWS, COLUMNS}
use Rattle.viewer_tracks.specs.Columns.{IsOnTop}
use Rattle.desktop_definitions.specs.declared.viewer.Selection.{Selection}
use Rattle.desktop_definitions.specs.declared.reply.Reply.TheVariants.{Done, No}
use Rattle.desktop_definitions.specs.Limits.{outside}
use Rattle.desktop_definitions.specs.Needs.{unless}
use Rattle.desktop_definitions.specs.Desktop.{Desktop, KeptDesktop}
use Rattle.desktop_definitions.specs.Viewers.{text_in, viewer_or_none, selections_outside, with_caret}
use Rattle.desktop_definitions.specs.Viewers.{with_selection, unselected}
use Rattle.desktop_definitions.specs.Gesture.{is_on_display, is_some_stretch, drawn_in}
use Rattle.desktop_definitions.specs.Seen.{seen}
use Rattle.desktop_definitions.specs.Step.{marked, outcome_after}
use Rattle.desktop_definitions.specs.Sound.{IsOver}
use Rattle.desktop_definitions.specs.Changed.{IsChanged}
use Rattle.desktop_definitions.specs.Outcome.{IsAnswered}
use Rattle.desktop_definitions.proofs.OutcomeLaws.{refused}
use Rattle.desktop_definitions.proofs.RowLaws.{known_outside, fewer_answered, over_built}
use Rattle.desktop_definitions.proofs.MarkLaws.{marked_changed, with_caret_changed, drawn_in_changed}

pub inside : (x y : ℕ) → is_on_display x y ≡ true → (x < COLUMNS) × (y < ROWS)
inside x y is = let parts = and_parts _ _ is in (ltb-true x COLUMNS parts.0, ltb-true y ROWS parts.1)

pub both_inside : (x0 y0 x1 y1 : ℕ) → (is_on_display x0 y0 && is_on_display x1 y1) ≡ true
    → ((x0 < COLUMNS) × (y0 < ROWS)) × ((x1 < COLUMNS) × (y1 < ROWS))
both_inside x0 y0 x1 y1 is =
    let parts = and_parts (is_on_display x0 y0) (is_on_display x1 y1) is in
    (inside x0 y0 parts.0, inside x1 y1 parts.1)

module _ (H : Type 0) (old : List ℕ) (d : KeptDesktop) (over : IsOver old d) where
  pub outside_answered : (test : Bool) (new : Result Desktop ℕ) → test ≡ false
      → IsAnswered H old old d d (outcome_after (seen old d) (unless test outside new)) (No outside)
  unfolding outcome_after
  outside_answered test new is =
      refused H old d _ outside over known_outside
      (λ h. sym (ap (λ (b : Bool). outcome_after (seen old d) (unless b outside new)) is))

  -- an effect that changes marks alone is done
  changed_done : (after : KeptDesktop) (outcome : Desktop) → IsChanged H old d after outcome 0 0
      → IsAnswered H old old d after (outcome_after (seen old d) (Ok outcome)) Done
  changed_done after outcome changed = fewer_answered H old old d after outcome 0 over refl (λ h. refl) changed

  pub mark_answered : (x y : ℕ) → is_on_display x y ≡ true
      → IsAnswered H old old d (marked d x y)
      (outcome_after (seen old d) (unless (is_on_display x y) outside (Ok (marked (seen old d) x y)))) Done
  mark_answered x y is =
      subst (λ (b : Bool). IsAnswered H old old d (marked d x y)
      (outcome_after (seen old d) (unless b outside (Ok (marked (seen old d) x y)))) Done) (sym is)
      (changed_done (marked d x y) (marked (seen old d) x y)
      (let cell = inside x y is in marked_changed H old d (over_built old d over) x y cell.0 cell.1))

  pub caret_answered : (v p : ℕ) → IsOnTop v d.columns
      → p ≤ length (flat (text_in d.texts (viewer_or_none d.viewers v).main))
      → IsAnswered H old old d (with_caret d v p) (outcome_after (seen old d) (Ok (with_caret (seen old d) v p))) Done
  caret_answered v p placed low =
      changed_done (with_caret d v p) (with_caret (seen old d) v p)
      (with_caret_changed H old d (over_built old d over) v p placed low)

  module _ (s : Selection) (placed : IsOnTop s.viewer d.columns)
      (low : s.end ≤ length (flat (text_in d.texts (viewer_or_none d.viewers s.viewer).main))) (test : Bool)
      (test_is : test ≡ is_some_stretch s) where
    drawn_answered : IsAnswered H old old d (drawn_in d s) (outcome_after (seen old d) (Ok (drawn_in (seen old d) s))) Done
    drawn_answered = changed_done (drawn_in d s) (drawn_in (seen old d) s)
        (drawn_in_changed H old d (over_built old d over) s placed low)

    drawn_as : (b : Bool) → test ≡ b → (if b then with_selection d s else unselected d s.viewer) ≡ drawn_in d s
    unfolding drawn_in
    drawn_as b is =
        ap (λ (t : Bool). if t then with_selection d s else unselected d s.viewer) (sym is ∙ test_is)

    answered_as : (after : KeptDesktop) → after ≡ drawn_in d s
        → IsAnswered H old old d after (outcome_after (seen old d) (Ok (drawn_in (seen old d) s))) Done
    answered_as after is =
        subst (λ (a : KeptDesktop). IsAnswered H old old d a (outcome_after (seen old d) (Ok (drawn_in (seen old d) s))) Done)
        (sym is) drawn_answered

    -- an empty stretch: nothing of its viewer is selected
    pub none_drawn : (selections : List Selection) → test ≡ false
        → selections ≡ selections_outside (λ v. v == s.viewer) d.selections
        → IsAnswered H old old d (record d { selections = selections })
        (outcome_after (seen old d) (Ok (drawn_in (seen old d) s))) Done
    none_drawn selections none is = answered_as (record d { selections = selections })
        ((λ k. record d { selections = is k }) ∙ drawn_as false none)

    -- one with a character: it is the newest
    pub one_drawn : (selections : List Selection) → test ≡ true
        → selections ≡ selections_outside (λ v. v == s.viewer) d.selections ++ s ∷ []
        → IsAnswered H old old d (record d { selections = selections })
        (outcome_after (seen old d) (Ok (drawn_in (seen old d) s))) Done
    one_drawn selections some is = answered_as (record d { selections = selections })
        ((λ k. record d { selections = is k }) ∙ drawn_as true some)
