use Rattle.std.proofs.Common.{Some, ap, sym, ◌∙◌}
use Rattle.piece_ring.specs.Flat.{flat}
use Rattle.readers_scanners.specs.Reading.{contents}
use Rattle.screen_pictures.specs.Picture.{caret_at}
use Rattle.screen_cells.proofs.Keeping.{caret_same}
use Rattle.screen_cells.proofs.lines.caret_cell.Goals as goal

pub returns-in-Some-caret_kept-clause-cell : goal.returns-in-Some-caret_kept-clause-cell
returns-in-Some-caret_kept-clause-cell g c = λ h texts numbered told.
    let s = c.args.shown.now in
    let main = contents (g.S.CharSource.characters c.args.source.now) (flat s.main.now) in
    caret_same texts c.args.caret.now c.in-Some-caret_kept.kept
    (record {
      frame = record { text = s.frame.text; org = s.frame.org; width = c.args.w };
      rows = c.args.h;
      position = c.in-Some.position;
    }) main c.in-Some-caret_kept.ensures.some.0 c.in-Some-caret_kept.ensures.some.1 numbered.main told
    ∙ ap (caret_at c.args.w c.args.h main s.frame.org) (sym c.in-Some.is)

pub returns-clause-caret : goal.returns-clause-caret
returns-clause-caret g c = λ h texts numbered told.
    c.in_ok-cell.ensures.cell h
    ∙ ap (λ text. caret_at c.args.w c.args.h text c.args.shown.now.frame.org (Some c.in-Some.position))
    (sym numbered.main)
