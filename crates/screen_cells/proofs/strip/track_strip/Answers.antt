use Rattle.std.proofs.Common.{ℕ, ap, sym, ◌∙◌, ◌==◌, map}
use Rattle.std.proofs.lemmas.Result.{IfOk-weaker}
use Rattle.screen_pictures.specs.Picture.{Painted, seen_cell, shown_cell, viewer_cell}
use Rattle.screen_cells.specs.Lines.{IsNumbered}
use Rattle.screen_cells.specs.Shown.{as_read}
use Rattle.screen_cells.proofs.Strips.{found_first, found_none, all_got}
use Rattle.screen_cells.proofs.Walking.{there_first}
use Rattle.screen_cells.proofs.strip.track_strip.Goals as goal

pub returns-then-index-shown-clause-strip : goal.returns-then-index-shown-clause-strip
returns-then-index-shown-clause-strip g c = λ h texts numbered line_told caret_told column.
    let columns = c.args.tracks.now in
    let viewers = map (as_read (g.S.CharSource.characters c.args.source.now)) c.args.shown.now in
    let id = c.in-Some.viewer.0 in
    sym (
    ap (seen_cell columns viewers c.args.track column c.args.y) (sym c.in-Some.ensures.seen)
    ∙ ap (shown_cell columns c.args.track id column c.args.y)
    (found_none (λ (v : Painted). v.id == id) (as_read (g.S.CharSource.characters c.args.source.now))
    c.args.shown.now c.index_of-index.result c.index_of-index.ensures c.if-index-shown.true))

pub returns-clause-strip : goal.returns-clause-strip
returns-clause-strip g c =
    let columns = c.args.tracks.now in
    let characters = g.S.CharSource.characters c.args.source.now in
    let viewers = map (as_read characters) c.args.shown.now in
    let id = c.in-Some.viewer.0 in let index : ℕ = c.index_of-index.result in
    let viewer = c.index-shown-index.result in
    let there = there_first c.args.shown.now index viewer c.if-index-shown.false c.index-shown-index.is in
    IfOk-weaker c.viewer_strip.result _ _ (λ strip fact h texts numbered line_told caret_told column.
    fact h texts (all_got (IsNumbered texts characters) _ _ _ there numbered) line_told caret_told column
    ∙ (λ i. viewer_cell (as_read characters viewer) (c.width.ensures.value i)
    (c.place_of-place.ensures.bottom i) (c.place_of-place.ensures.top i) column c.args.y)
    ∙ sym (
    ap (seen_cell columns viewers c.args.track column c.args.y) (sym c.in-Some.ensures.seen)
    ∙ ap (shown_cell columns c.args.track id column c.args.y)
    (found_first (λ (v : Painted). v.id == id) (as_read characters) c.args.shown.now index viewer
    c.index_of-index.ensures there)))
    c.viewer_strip.ensures.strip

pub returns-clause-slot : goal.returns-clause-slot
returns-clause-slot g c = λ h texts numbered told.
    let there = there_first c.args.shown.now c.index_of-index.result c.index-shown-index.result
    c.if-index-shown.false c.index-shown-index.is in
    c.viewer_strip.ensures.slot h texts
    (all_got (IsNumbered texts (g.S.CharSource.characters c.args.source.now)) _ _ _ there numbered) told

pub returns-clause-caret : goal.returns-clause-caret
returns-clause-caret g c = λ h texts numbered told.
    let there = there_first c.args.shown.now c.index_of-index.result c.index-shown-index.result
    c.if-index-shown.false c.index-shown-index.is in
    c.viewer_strip.ensures.caret h texts
    (all_got (IsNumbered texts (g.S.CharSource.characters c.args.source.now)) _ _ _ there numbered) told
