use Rattle.press_plans.proofs.Pastes.{come_whole}
use Rattle.press_plans.proofs.laws.pastes_come_whole.Goals as goal

pub returns : goal.returns
returns c = come_whole c.nothing_is_lost.ensures.nothing c.nothing_is_lost.ensures.short
