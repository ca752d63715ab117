use Rattle.std.proofs.Common.{◌≡◌, ◌+◌, sum_by}
use Rattle.std.specs.Map.{values_of}
use Rattle.document_filing.proofs.sizes.sizes_fit.Given as goal

-- what is left of the room, beside what is to come
abbrev pub invariant-loop-size : goal.invariant-loop-size
invariant-loop-size l =
    l.left + sum_by (λ n. n) (values_of l.sizes.entries) ≡ l.fn.room + sum_by (λ n. n) l.size-iterator
