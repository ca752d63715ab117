use Rattle.std.proofs.Common.{ap, ◌∙◌, refl, length, List, ℕ, ◌-◌, ◌+◌, ◌<◌, rules}
use Rattle.std.proofs.lemmas.Result.{IfOk-weaker}
use Rattle.text_frames.specs.Row.{row_cells}
use Rattle.screen_pictures.specs.Picture.{viewer_cell}
use Rattle.screen_cells.specs.Shown.{IsShowable, as_read}
use Rattle.screen_cells.specs.Lines.{kept_cells}
use Rattle.screen_cells.proofs.Strips.{all_got, frame_shown}
use Rattle.byte_streams.proofs.Taking.{on_ok}
use Rattle.screen_cells.proofs.Keeping.{numbered_still}
use Rattle.screen_cells.proofs.Walking.{kept_still}
use Rattle.screen_cells.proofs.strip.viewer_strip.Goals as goal

pub returns-then-at-clause-strip : goal.returns-then-at-clause-strip
returns-then-at-clause-strip g c =
    let at = c.args.at in
    IfOk-weaker c.menu_strip.result _ _ (λ strip fact h texts numbered line_told caret_told column.
    fact h texts numbered line_told at.bottom column at.y
    ∙ ap (λ top. viewer_cell (as_read (g.S.CharSource.characters c.args.source.now) c.args.viewer.now) at.width at.bottom
    top column at.y) c.if-at.true)
    c.menu_strip.ensures.strip

pub returns-then-at-clause-kept : goal.returns-then-at-clause-kept
returns-then-at-clause-kept g c =
    let reads = c.menu_strip.ensures.reads in
    on_ok c.menu_strip.result
    (kept_still _ _ _ _ reads.already reads.same reads.as_long c.args.shown.now _ c.requires.kept)

pub caret_cell-requires-clause-showable : goal.caret_cell-requires-clause-showable
caret_cell-requires-clause-showable g c =
    all_got (IsShowable (length (g.S.CharSource.characters c.args.source.now))) _ _ _ c.requires.at.there
    c.requires.showable

pub keep_row-requires-clause-kept : goal.keep_row-requires-clause-kept
keep_row-requires-clause-kept g c =
    let reads = c.in_ok-cell.ensures.reads in
    kept_still _ _ _ _ reads.already reads.same reads.as_long c.args.shown.now _ c.requires.kept

pub returns-clause-strip : goal.returns-clause-strip
returns-clause-strip g c = λ h texts numbered line_told caret_told column.
    let viewer = c.args.viewer.now in let at = c.args.at in
    let characters = g.S.CharSource.characters c.args.source.now in
    let reads = c.in_ok-cell.ensures.reads in
    let under : at.y + 1 < at.top = search rules in
    frame_shown (as_read characters viewer) at.width at.bottom at.top at.y column (at.top - 2 - at.y)
    (kept_cells c.keep_row.new.slot) c.in_ok-cell.cell viewer.frame.selection under refl c.requires.at.some
    (c.in_ok-keep_row.ensures.cells (reads.still h) texts (numbered_still texts _ _ viewer (reads.same h) numbered)
    line_told
    ∙ ap (λ (read : List ℕ). row_cells at.width (as_read read viewer).main viewer.frame.org (at.top - 2 - at.y))
    (reads.same h))
    (c.in_ok-cell.ensures.cell h texts numbered caret_told)
    refl
