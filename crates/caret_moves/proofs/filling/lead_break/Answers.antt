use Rattle.std.proofs.Common.{◌∙◌, ◌∷◌, [], ap, refl, sym, arith, length, List}
use Rattle.std.specs.Prelude.{Ok, Result}
use Rattle.std.specs.Result.{result_map_both}
use Rattle.std.proofs.lemmas.Result.{IfOk-weaker}
use Rattle.piece_ring.specs.declared.piece.Piece.{Piece}
use Rattle.piece_ring.specs.Flat.{flat}
use Rattle.event_bytes.specs.declared.event.Event.{Event}
use Rattle.desktop_definitions.specs.Seen.{seen}
use Rattle.desk_core.specs.Kept.{kept_desktop}
use Rattle.desk_core.proofs.PositionLemmas.{offsets_kept}
use Rattle.caret_moves.specs.declared.wish.WhyNot.{WhyNot}
use Rattle.caret_moves.specs.Leading.{ended_led}
use Rattle.caret_moves.proofs.Told.{break_read, break_none, break_here, break_there}
use Rattle.caret_moves.proofs.filling.lead_break.Goals as goal

pub line_break-requires-clause-walk : goal.line_break-requires-clause-walk
line_break-requires-clause-walk g c = record {
  order = omega arith;
  within = omega (
    arith,
    c.requires.at.place,
    ap (λ (t : List Piece). length (flat t)) c.main_text-text.ensures,
  );
  offsets = offsets_kept _ _ _ _ _ c.main_text-text.ensures refl c.requires.over;
}

pub returns-in_default-clause-told : goal.returns-in_default-clause-told
returns-in_default-clause-told g c = λ h.
    let characters = g.S.CharSource.characters c.args.source.now in
    let d = kept_desktop c.args.desk.now in
    break_none (seen characters d) c.args.caret.viewer c.args.caret.position c.args.count
    (sym c.in_default.is ∙ c.in_ok-broken.ensures.place h
    ∙ break_read characters d c.args.caret.viewer c.main_text-text.result.now c.main_text-text.ensures c.text_width-w.result
    c.args.caret.position c.args.count c.text_width-w.ensures.width)

pub returns-then-pos-caret-clause-told : goal.returns-then-pos-caret-clause-told
returns-then-pos-caret-clause-told g c = λ h.
    let characters = g.S.CharSource.characters c.args.source.now in
    let d = kept_desktop c.args.desk.now in
    ap (λ (events : List Event). let r : Result (List Event) WhyNot = Ok events in r)
    (c.in_ok-events.ensures ∙ ap (λ (e : Event). e ∷ []) c.line_end.ensures)
    ∙ break_here (seen characters d) c.args.caret.viewer c.args.caret.position c.args.count c.in-Some.pos
    (sym c.in-Some.is ∙ c.in_ok-broken.ensures.place h
    ∙ break_read characters d c.args.caret.viewer c.main_text-text.result.now c.main_text-text.ensures c.text_width-w.result
    c.args.caret.position c.args.count c.text_width-w.ensures.width) c.if-pos-caret.true

pub returns-clause-told : goal.returns-clause-told
returns-clause-told g c =
    IfOk-weaker c.lead_end.result _ _ (λ told is h.
    let characters = g.S.CharSource.characters c.args.source.now in
    let d = kept_desktop c.args.desk.now in
    let reads = c.in_ok-broken.ensures.source.reads in
    break_there (seen characters d) c.args.caret.viewer c.args.caret.position c.args.count c.in-Some.pos
    (sym c.in-Some.is ∙ c.in_ok-broken.ensures.place h
    ∙ break_read characters d c.args.caret.viewer c.main_text-text.result.now c.main_text-text.ensures c.text_width-w.result
    c.args.caret.position c.args.count c.text_width-w.ensures.width)
    (result_map_both (λ events. events.items) (λ why. why) told) c.if-pos-caret.false
    (is (reads.still h) ∙ (λ k. ended_led (seen (reads.same h k) d) c.args.caret.viewer c.in-Some.pos)))
    c.lead_end.ensures.told
