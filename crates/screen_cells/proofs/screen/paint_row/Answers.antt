use Rattle.std.proofs.Common.{◌≡◌, ◌<◌, ◌≤◌, List, ℕ, Option, ap, sym, subst, ◌∙◌, length, map, get_or, arith}
use Rattle.std.specs.Prelude.{All}
use Rattle.std.proofs.lemmas.List.{get_or-set_same}
use Rattle.std.proofs.lemmas.List.Elements.{All-set}
use Rattle.piece_ring.specs.Text.{Text}
use Rattle.viewer_tracks.specs.declared.display.Track.TheVariants.{System}
use Rattle.viewer_tracks.specs.declared.display.TheConstants.{COLUMNS, ROWS}
use Rattle.screen_pictures.specs.Picture.{track_cell}
use Rattle.screen_pictures.specs.Screen.{values}
use Rattle.screen_cells.specs.declared.lines.KeptLine.{KeptLine}
use Rattle.screen_cells.specs.Lines.{IsSlotOf, kept_cells}
use Rattle.screen_cells.specs.Rows.{strips_cell}
use Rattle.screen_cells.specs.Shown.{as_read}
use Rattle.screen_cells.proofs.Painting.{strips_painted}
use Rattle.screen_cells.proofs.Keeping.{all_numbered_still}
use Rattle.screen_cells.proofs.Walking.{kept_still}
use Rattle.screen_cells.proofs.screen.paint_row.Goals as goal

-- the line that is kept of a row of the display is so
row_slot : (texts : ℕ → Text ℕ) (slots : List (Option KeptLine)) (y at : ℕ) (slot : Option KeptLine) → at ≡ y
    → y < ROWS → ROWS ≤ length slots → slot ≡ get_or slots at slot → All (IsSlotOf texts) slots
    → IsSlotOf texts slot
row_slot texts slots y at slot here row ready is told =
    subst (IsSlotOf texts) (sym is) (told at slot (omega (arith, here, row, ready)))

pub track_strip-requires-2-clause-kept : goal.track_strip-requires-2-clause-kept
track_strip-requires-2-clause-kept g c =
    let reads = c.in_ok-user.ensures.source.reads in
    kept_still _ _ _ _ reads.already reads.same reads.as_long c.args.shown.now c.args.walks.now.system
    c.requires.kept.system

pub returns-clause-painted : goal.returns-clause-painted
returns-clause-painted g c = λ h texts numbered told.
    let columns = c.args.tracks.now in
    let shown = c.args.shown.now in
    let lines = c.args.lines.now in
    let reads = c.in_ok-user.ensures.source.reads in
    let at = c.from-at.result in
    let low : at < length lines.user.items = omega (arith, c.from-at.ensures, c.requires.row.0, c.requires.row.1.user) in
    let low2 : at < length lines.system.items =
    omega (arith, c.from-at.ensures, c.requires.row.0, c.requires.row.1.system) in
    let lined : kept_cells c.index-line.result.now ≡ kept_cells c.track_strip.new.slot =
    ap kept_cells (c.index-line.ensures ∙ get_or-set_same lines.user.items at c.track_strip.new.slot _ low) in
    let other : kept_cells c.index-other.result.now ≡ kept_cells c.track_strip-2.new.slot =
    ap kept_cells (c.index-other.ensures ∙ get_or-set_same lines.system.items at c.track_strip-2.new.slot _ low2) in
    c.put_strips.ensures
    ∙ (λ i. values COLUMNS
    (strips_cell c.in_ok-user.user (lined i) c.in_ok-system.system (other i) c.args.marker c.args.y))
    ∙ strips_painted columns (map (as_read (g.S.CharSource.characters c.args.source.now)) shown) c.args.marker
    c.args.y c.in_ok-user.user _ c.in_ok-system.system _
    (c.in_ok-user.ensures.strip h texts numbered
    (row_slot texts lines.user.items c.args.y at _ c.from-at.ensures c.requires.row.0 c.requires.row.1.user
    c.index_mut.ensures.value told.user) told.caret)
    (λ column. c.in_ok-system.ensures.strip (reads.still h) texts
    (all_numbered_still texts _ _ shown (reads.same h) numbered)
    (row_slot texts lines.system.items c.args.y at _ c.from-at.ensures c.requires.row.0 c.requires.row.1.system
    c.index_mut-2.ensures.value told.system)
    (c.in_ok-user.ensures.caret h texts numbered told.caret) column
    ∙ ap (λ (read : List ℕ). track_cell columns (map (as_read read) shown) System column c.args.y) (reads.same h))

pub returns-clause-lines : goal.returns-clause-lines
returns-clause-lines g c = λ h texts numbered told.
    let shown = c.args.shown.now in
    let lines = c.args.lines.now in
    let reads = c.in_ok-user.ensures.source.reads in
    let at = c.from-at.result in
    let later = all_numbered_still texts _ _ shown (reads.same h) numbered in
    record {
      user = All-set (IsSlotOf texts) lines.user.items at c.track_strip.new.slot
          (c.in_ok-user.ensures.slot h texts numbered
          (row_slot texts lines.user.items c.args.y at _ c.from-at.ensures c.requires.row.0 c.requires.row.1.user
          c.index_mut.ensures.value told.user)) told.user;
      system = All-set (IsSlotOf texts) lines.system.items at c.track_strip-2.new.slot
          (c.in_ok-system.ensures.slot (reads.still h) texts later
          (row_slot texts lines.system.items c.args.y at _ c.from-at.ensures c.requires.row.0 c.requires.row.1.system
          c.index_mut-2.ensures.value told.system)) told.system;
      caret = c.in_ok-system.ensures.caret (reads.still h) texts later
          (c.in_ok-user.ensures.caret h texts numbered told.caret);
    }

pub returns-clause-kept : goal.returns-clause-kept
returns-clause-kept g c =
    let reads = c.in_ok-system.ensures.source.reads in record {
      user = kept_still _ _ _ _ reads.already reads.same reads.as_long c.args.shown.now _ c.in_ok-user.ensures.kept;
      system = c.in_ok-system.ensures.kept;
    }
