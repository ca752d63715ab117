use Rattle.std.proofs.Common.{◌≡◌}
use Rattle.desk_core.proofs.ViewerLemmas.{IsBefore}
use Rattle.desk_core.proofs.viewers.set_org.Given as goal

-- none of the viewers so far has that id, and nothing was changed
abbrev pub invariant-loop-at : goal.invariant-loop-at
invariant-loop-at l = record {
  same : l.viewers.items ≡ l.fn.viewers.items;
  before : IsBefore l.fn.viewers.items l.at l.id;
}
