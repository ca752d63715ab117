use Rattle.std.proofs.Common.{◌≡◌, ◌≤◌, length, vec_len}
use Rattle.std.specs.Prelude.{vec_capacity, zip}
use Rattle.store_runs.specs.Deeds.{IsRun, deeds_of}
use Rattle.store_runs.proofs.run.serve_all.Given as goal

-- the calls so far were made, each with what it returned, and there is room for the others
abbrev pub invariant-loop-call : goal.invariant-loop-call
invariant-loop-call g l = record {
  count : vec_len l.answers ≡ l.call-index;
  room : length l.calls ≤ vec_capacity l.answers;
  run : IsRun g.D.Disk (deeds_of (zip l.calls l.answers.items)) l.fn.store l.store;
}
