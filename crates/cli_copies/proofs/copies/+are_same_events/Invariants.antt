use Rattle.std.proofs.Common.{length}
use Rattle.cli_copies.proofs.copies.+are_same_events.Given as goal

abbrev pub decreases-are_same_events : goal.decreases-are_same_events
decreases-are_same_events l = length l.events.now
