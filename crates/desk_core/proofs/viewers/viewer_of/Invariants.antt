use Rattle.desk_core.proofs.ViewerLemmas.{IsBefore}
use Rattle.desk_core.proofs.viewers.viewer_of.Given as goal

-- none of the viewers so far has that id
abbrev pub invariant-loop-number : goal.invariant-loop-number
invariant-loop-number l = IsBefore l.viewers.items l.number-index l.id
