use Rattle.std.proofs.Common.{length, rules}
use Rattle.screen_cells.specs.Shown.{IsShowable}
use Rattle.screen_cells.proofs.Walking.{walk_first, there_first}
use Rattle.screen_cells.proofs.walk.first_walk.Goals as goal

pub returns-clause-walk : goal.returns-clause-walk
returns-clause-walk g c =
    let viewer = c.index-shown-index.result in
    let showable : IsShowable (length (g.S.CharSource.characters c.args.source.now)) viewer = search rules in
    record {
      there = there_first c.args.shown.now c.args.index viewer c.requires.within c.index-shown-index.is;
      walk = walk_first _ _ _ showable c.rows-rows.ensures.rows;
    }
