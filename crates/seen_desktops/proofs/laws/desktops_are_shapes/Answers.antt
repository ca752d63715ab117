use Rattle.seen_desktops.proofs.Shapes.{shape_law}
use Rattle.seen_desktops.proofs.laws.desktops_are_shapes.Goals as goal

pub returns : goal.returns
returns c = shape_law
