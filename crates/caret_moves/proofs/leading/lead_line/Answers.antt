use Rattle.std.proofs.Common.{◌∙◌, ap, refl, sym, arith, length, List, [], ◌∷◌}
use Rattle.std.specs.Prelude.{Ok, Result}
use Rattle.piece_ring.specs.declared.piece.Piece.{Piece}
use Rattle.piece_ring.specs.Flat.{flat}
use Rattle.event_bytes.specs.declared.event.Event.{Event}
use Rattle.desktop_definitions.specs.Seen.{seen}
use Rattle.desk_core.specs.Kept.{kept_desktop}
use Rattle.desk_core.proofs.PositionLemmas.{offsets_kept}
use Rattle.caret_moves.specs.declared.wish.WhyNot.{WhyNot}
use Rattle.caret_moves.specs.Leading.{character_cell}
use Rattle.caret_moves.proofs.Told.{line_none, line_hidden, line_pressed, word_read}
use Rattle.caret_moves.proofs.ReadsThen.{over_after}
use Rattle.caret_moves.proofs.leading.lead_line.Goals as goal

pub line_word-requires : goal.line_word-requires
line_word-requires g c = record {
  order = omega arith;
  within = omega (
    arith,
    c.requires.at.place,
    ap (λ (t : List Piece). length (flat t)) c.main_text-text.ensures,
  );
  offsets = offsets_kept _ _ _ _ _ c.main_text-text.ensures refl c.requires.over;
}

pub returns-in_default-clause-told : goal.returns-in_default-clause-told
returns-in_default-clause-told g c = λ h.
    line_none (seen (g.S.CharSource.characters c.args.source.now) (kept_desktop c.args.desk.now)) c.args.caret.viewer
    c.args.caret.position
    (sym c.in_default.is ∙ c.in_ok-word.ensures.word h
    ∙ word_read (g.S.CharSource.characters c.args.source.now) (kept_desktop c.args.desk.now) c.args.caret.viewer
    c.main_text-text.result.now c.main_text-text.ensures c.text_width-w.result c.args.caret.position c.text_width-w.ensures.width)

pub character_cell-requires-clause-over : goal.character_cell-requires-clause-over
character_cell-requires-clause-over g c =
    over_after g.S.CharSource _ _ (kept_desktop c.args.desk.now) c.in_ok-word.ensures.source.reads c.requires.over

pub returns-in_default-found-clause-told : goal.returns-in_default-found-clause-told
returns-in_default-found-clause-told g c = λ h.
    let d = kept_desktop c.args.desk.now in
    let reads = c.in_ok-word.ensures.source.reads in
    line_hidden (seen (g.S.CharSource.characters c.args.source.now) d) c.args.caret.viewer c.args.caret.position
    c.in-Some.pos (sym c.in-Some.is ∙ c.in_ok-word.ensures.word h
    ∙ word_read (g.S.CharSource.characters c.args.source.now) d c.args.caret.viewer
    c.main_text-text.result.now c.main_text-text.ensures c.text_width-w.result c.args.caret.position c.text_width-w.ensures.width)
    (sym c.in_default-found.is ∙ c.in_ok-found.ensures.exact (reads.still h)
    ∙ (λ k. character_cell (seen (reads.same h k) d) c.args.caret.viewer c.in-Some.pos))

pub returns-clause-told : goal.returns-clause-told
returns-clause-told g c = λ h.
    let d = kept_desktop c.args.desk.now in
    let reads = c.in_ok-word.ensures.source.reads in
    ap (λ (events : List Event). let r : Result (List Event) WhyNot = Ok events in r)
    (c.in_ok-events.ensures ∙ ap (λ (e : Event). e ∷ []) c.middle_press.ensures)
    ∙ line_pressed (seen (g.S.CharSource.characters c.args.source.now) d) c.args.caret.viewer c.args.caret.position
    c.in-Some.pos (sym c.in-Some.is ∙ c.in_ok-word.ensures.word h
    ∙ word_read (g.S.CharSource.characters c.args.source.now) d c.args.caret.viewer
    c.main_text-text.result.now c.main_text-text.ensures c.text_width-w.result c.args.caret.position c.text_width-w.ensures.width)
    c.in-Some-found.cell
    (sym c.in-Some-found.is ∙ c.in_ok-found.ensures.exact (reads.still h)
    ∙ (λ k. character_cell (seen (reads.same h k) d) c.args.caret.viewer c.in-Some.pos))
