use Rattle.std.proofs.Common.{sym}
use Rattle.press_plans.proofs.Meant.{unlisted}
use Rattle.press_plans.proofs.listed.uncalled_event.Goals as goal

pub returns-in_default : goal.returns-in_default
returns-in_default g c = sym (unlisted c.args.store.now.desktop c.args.event c.in_default.not-Mark c.requires.uncalled)
