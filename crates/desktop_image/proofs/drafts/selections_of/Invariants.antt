use Rattle.std.proofs.Common.{◌≡◌, ◌≤◌, length}
use Rattle.std.specs.List.{filter_map, range_with_len}
use Rattle.desktop_image.specs.Images.{selected_as}
use Rattle.desktop_image.proofs.drafts.selections_of.Given as goal

-- the selections of the ranks so far
abbrev pub invariant-loop-at : goal.invariant-loop-at
invariant-loop-at l = record {
  items : l.selections.items ≡ filter_map (selected_as l.pictures) (range_with_len 1 l.at);
  few : length l.selections.items ≤ l.at;
}
