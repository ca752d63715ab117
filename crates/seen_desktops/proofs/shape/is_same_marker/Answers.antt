use Rattle.std.proofs.Common.{rules}
use Rattle.std.proofs.lemmas.Bool.Decides.{Decides-at}
use Rattle.seen_desktops.proofs.Parts.{option_decides}
use Rattle.seen_desktops.proofs.shape.is_same_marker.Goals as goal

pub returns : goal.returns
returns c = Decides-at c.eq.result _ c.eq.ensures (option_decides (λ a b. search rules) c.args.one c.args.other)
