use Rattle.std.proofs.Common.{rules}
use Rattle.told_pasts.proofs.back.takes_back.Goals as goal

pub returns : goal.returns
returns g c = (c.in_ok-taken.taken.items, c.in_ok-taken.ensures.ok, search rules)
