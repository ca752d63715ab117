use Rattle.std.proofs.Common.{◌≡◌, ◌+◌, ◌==◌, drop}
use Rattle.std.specs.List.{find, position_or_len}
use Rattle.desk_views.proofs.views.selection_in.Given as goal

-- no selection before the one at hand is of that viewer
abbrev pub invariant-loop-at : goal.invariant-loop-at
invariant-loop-at l = record {
  place : position_or_len (λ s. s.viewer == l.id) l.selections
      ≡ l.at + position_or_len (λ s. s.viewer == l.id) (drop l.at l.selections);
  found : find (λ s. s.viewer == l.id) l.selections ≡ find (λ s. s.viewer == l.id) (drop l.at l.selections);
}
