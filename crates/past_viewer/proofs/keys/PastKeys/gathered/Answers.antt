use Rattle.std.proofs.Common.{sym, subst, false}
use Rattle.terminal_keyboard.specs.Hearings.{IsWithinLine, kept_for_later}
use Rattle.past_viewer.proofs.Lines.{heard_none}
use Rattle.past_viewer.proofs.keys.PastKeys.gathered.Goals as goal

pub invariant_of-self : goal.invariant_of-self
invariant_of-self g c = record {
  line = subst (λ later. IsWithinLine (kept_for_later later)) (sym c.take.ensures.after) (heard_none false);
}
