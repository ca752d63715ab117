use Rattle.std.proofs.Common.{false}
use Rattle.past_viewer.proofs.Lines.{heard_none}
use Rattle.past_viewer.proofs.keys.PastKeys.new.Goals as goal

pub invariant_of-result : goal.invariant_of-result
invariant_of-result g c = record { line = heard_none false }
