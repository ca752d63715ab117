use Rattle.desk_tests.proofs.Texts.{run_within}
use Rattle.desk_tests.proofs.cells.text_within.Goals as goal

pub returns : goal.returns
returns g c = run_within _ c.args.first c.args.count _ _ c.requires.inside c.in_ok-text.ensures
