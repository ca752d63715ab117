use Rattle.screen_cells.proofs.Painting.{picture_without_viewers}
use Rattle.screen_cells.proofs.laws.all_filler_without_viewers.Goals as goal

pub returns : goal.returns
returns c = λ viewers marker x y. picture_without_viewers viewers marker x y
