use Rattle.std.proofs.Common.{sym}
use Rattle.event_loop.proofs.StaleLemmas.{bar_none}
use Rattle.event_loop.proofs.stale.stale_by_gesture.Goals as goal

pub returns-in-Bar : goal.returns-in-Bar
returns-in-Bar c = rw c.in-Bar.is (sym (bar_none _ _ _ _ _))
