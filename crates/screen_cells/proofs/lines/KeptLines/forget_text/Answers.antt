use Rattle.screen_cells.proofs.Fronts.{rows_stay}
use Rattle.screen_cells.proofs.lines.KeptLines.forget_text.Goals as goal

pub returns : goal.returns
returns c = λ before after same front told.
    let stay = rows_stay (before c.args.number) (after c.args.number) c.args.position _ _ front
    (c.rows_above-org.ensures before told.caret) in
    record {
      user = c.forget_in.ensures before after same stay told.user;
      system = c.forget_in-2.ensures before after same stay told.system;
      caret = c.forget_caret.ensures before after same told.caret;
    }
