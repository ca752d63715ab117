use Rattle.std.proofs.Common.{◌≡◌, ◌≤◌, take, count_by}
use Rattle.char_pages.specs.Occurrences.{is_between}
use Rattle.char_pages.proofs.occurrences.count_between.Given as goal

abbrev pub invariant-loop-index : goal.invariant-loop-index
invariant-loop-index l = record {
  so_far : l.found ≡ count_by (is_between l.fn.from l.fn.to) (take l.index-index l.fn.indices);
  few : l.found ≤ l.index-index;
}
