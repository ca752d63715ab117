use Rattle.std.proofs.Common.{◌∙◌, ap, sym, List, [], ◌∷◌}
use Rattle.std.specs.Prelude.{Ok, None, Result}
use Rattle.event_bytes.specs.declared.event.Event.{Event}
use Rattle.desktop_definitions.specs.Seen.{seen}
use Rattle.desk_core.specs.Kept.{kept_desktop}
use Rattle.caret_moves.specs.declared.wish.WhyNot.{WhyNot}
use Rattle.caret_moves.specs.Calling.{word_cell}
use Rattle.caret_moves.proofs.Told.{call_in_menu, call_nowhere, call_in_text}
use Rattle.caret_moves.proofs.ReadsThen.{over_after}
use Rattle.caret_moves.proofs.leading.lead_call.Goals as goal

pub returns-in-Some-clause-told : goal.returns-in-Some-clause-told
returns-in-Some-clause-told g c = λ h.
    let d = kept_desktop c.args.desk.now in
    let first = c.in_ok-in_menu.ensures in
    ap (λ (events : List Event). let r : Result (List Event) WhyNot = Ok events in r)
    (c.in_ok-events.ensures ∙ ap (λ (e : Event). e ∷ []) c.middle_press.ensures)
    ∙ call_in_menu (seen (g.S.CharSource.characters c.args.source.now) d) c.args.caret.viewer c.args.caret.position
    c.args.command c.in-Some.cell (sym c.in-Some.is ∙ first.exact h)

pub word_cell-requires-2 : goal.word_cell-requires-2
word_cell-requires-2 g c =
    record { over = over_after g.S.CharSource _ _ (kept_desktop c.args.desk.now) c.in_ok-in_menu.ensures.reads c.requires.over }

pub returns-in_default-in_text-clause-told : goal.returns-in_default-in_text-clause-told
returns-in_default-in_text-clause-told g c = λ h.
    let d = kept_desktop c.args.desk.now in
    let first = c.in_ok-in_menu.ensures in
    call_nowhere (seen (g.S.CharSource.characters c.args.source.now) d) c.args.caret.viewer c.args.caret.position
    c.args.command (sym c.in_default.is ∙ first.exact h)
    (sym c.in_default-in_text.is ∙ c.in_ok-in_text.ensures.exact (first.reads.still h)
    ∙ (λ k. word_cell (seen (first.reads.same h k) d) c.args.command None))

pub returns-clause-told : goal.returns-clause-told
unfolding seen
returns-clause-told g c = λ h.
    let d = kept_desktop c.args.desk.now in
    let first = c.in_ok-in_menu.ensures in
    ap (λ (events : List Event). let r : Result (List Event) WhyNot = Ok events in r) c.in_ok-events-2.ensures
    ∙ call_in_text (seen (g.S.CharSource.characters c.args.source.now) d) c.args.caret.viewer c.args.caret.position
    c.args.command (sym c.in_default.is ∙ first.exact h) c.in-Some-in_text.cell
    (sym c.in-Some-in_text.is ∙ c.in_ok-in_text.ensures.exact (first.reads.still h)
    ∙ (λ k. word_cell (seen (first.reads.same h k) d) c.args.command None))
