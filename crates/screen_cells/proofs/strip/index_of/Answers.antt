use Rattle.std.proofs.Common.{◌==◌, rules, tests}
use Rattle.std.proofs.lemmas.Iterator.{YieldsList-from_slice}
use Rattle.std.proofs.lemmas.Iterator.Search.{position_from_yields_List}
use Rattle.viewer_tracks.proofs.Positions.{found_or_length}
use Rattle.screen_cells.specs.declared.shown.Shown.{Shown}
use Rattle.screen_cells.proofs.strip.index_of.Goals as goal

pub returns : goal.returns
returns c =
    let p = λ (s : Shown). s.id.0 == c.args.viewer.0 in
    found_or_length p _ c.unwrap_or.ensures (position_from_yields_List p _ _ c.position.result c.position.ensures.ran
    (YieldsList-from_slice c.args.shown.now cc) (λ x b q k. search (rules, tests)))
