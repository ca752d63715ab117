use Rattle.std.proofs.Common.{◌+◌, ◌∙◌, ap, sym, arith, length, List}
use Rattle.std.specs.Prelude.{option_map}
use Rattle.piece_ring.specs.declared.piece.Piece.{Piece}
use Rattle.piece_ring.specs.Flat.{flat}
use Rattle.desktop_definitions.specs.Seen.{seen}
use Rattle.desk_core.specs.Kept.{kept_desktop}
use Rattle.desk_core.proofs.PositionLemmas.{main_long}
use Rattle.caret_moves.specs.Leading.{events_to}
use Rattle.caret_moves.proofs.Told.{delete_last, delete_past, delete_far, delete_done}
use Rattle.caret_moves.proofs.leading.lead_delete.Goals as goal

pub returns-then-caret-len-clause-told : goal.returns-then-caret-len-clause-told
returns-then-caret-len-clause-told g c = λ h.
    let characters = g.S.CharSource.characters c.args.source.now in
    let d = kept_desktop c.args.desk.now in
    let none = c.if-caret-len.true in
    let len = c.len.ensures in
    let text = ap (λ (t : List Piece). length (flat t)) c.main_text.ensures in
    let long = main_long characters d c.args.caret.viewer in
    delete_last (seen characters d) c.args.caret.viewer c.args.caret.position (omega (arith, none, len, text, long))

pub returns-then-not-has_column-clause-told : goal.returns-then-not-has_column-clause-told
returns-then-not-has_column-clause-told g c = λ h.
    let characters = g.S.CharSource.characters c.args.source.now in
    let d = kept_desktop c.args.desk.now in
    let some = c.if-caret-len.false in
    let len = c.len.ensures in
    let text = ap (λ (t : List Piece). length (flat t)) c.main_text.ensures in
    let long = main_long characters d c.args.caret.viewer in
    delete_past (seen characters d) c.args.caret.viewer c.args.caret.position (omega (arith, some, len, text, long))
    (sym c.if-not-has_column.true ∙ c.in_ok-has_column.ensures.exact h)

pub returns-in_default-clause-told : goal.returns-in_default-clause-told
returns-in_default-clause-told g c = λ h.
    let characters = g.S.CharSource.characters c.args.source.now in
    let d = kept_desktop c.args.desk.now in
    let v = c.args.caret.viewer in
    let some = c.if-caret-len.false in
    let len = c.len.ensures in
    let text = ap (λ (t : List Piece). length (flat t)) c.main_text.ensures in
    let long = main_long characters d v in
    let first = c.in_ok-has_column.ensures in
    delete_far (seen characters d) v c.args.caret.position (omega (arith, some, len, text, long))
    (sym c.if-not-has_column.false ∙ first.exact h)
    (sym (ap (λ found. option_map (λ events. events.items) found) c.in_default.is)
    ∙ c.in_ok-found.ensures.told (first.reads.still h)
    ∙ (λ k. events_to (seen (first.reads.same h k) d) v (c.args.caret.position + 1)))

pub returns-clause-told : goal.returns-clause-told
returns-clause-told g c = λ h.
    let characters = g.S.CharSource.characters c.args.source.now in
    let d = kept_desktop c.args.desk.now in
    let v = c.args.caret.viewer in
    let some = c.if-caret-len.false in
    let len = c.len.ensures in
    let text = ap (λ (t : List Piece). length (flat t)) c.main_text.ensures in
    let long = main_long characters d v in
    let first = c.in_ok-has_column.ensures in
    delete_done (seen characters d) v c.args.caret.position (omega (arith, some, len, text, long))
    (sym c.if-not-has_column.false ∙ first.exact h) c.in-Some.events.items c.in_ok-all.all.items
    (sym (ap (λ found. option_map (λ events. events.items) found) c.in-Some.is)
    ∙ c.in_ok-found.ensures.told (first.reads.still h)
    ∙ (λ k. events_to (seen (first.reads.same h k) d) v (c.args.caret.position + 1)))
    c.in_ok-all.ensures
