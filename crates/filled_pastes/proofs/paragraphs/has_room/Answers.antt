use Rattle.std.proofs.Common.{◌∙◌, ap}
use Rattle.std.specs.Prelude.{nat_lt}
use Rattle.filled_pastes.proofs.Downward.{room_is}
use Rattle.filled_pastes.proofs.paragraphs.has_room.Goals as goal

pub returns : goal.returns
returns c = ap (nat_lt c.args.count) c.saturating_sub.ensures ∙ room_is c.args.column c.args.count c.args.width
