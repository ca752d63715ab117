use Rattle.screen_drawing.proofs.Showing.{row_kept, row_shown}
use Rattle.screen_drawing.proofs.laws.rows_are_shown.Goals as goal

pub returns-clause-shown : goal.returns-clause-shown
returns-clause-shown c = row_shown

pub returns-clause-kept : goal.returns-clause-kept
returns-clause-kept c = row_kept
