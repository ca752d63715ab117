use Rattle.std.proofs.Common.{◌≡◌, false}
use Rattle.desk.proofs.sitting.serve_through.Given as goal

-- the store can be used so far
abbrev pub invariant-loop-count : goal.invariant-loop-count
invariant-loop-count g l = l.store.must_reopen ≡ false
