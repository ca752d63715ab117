use Rattle.std.proofs.Common.{◌≡◌, ◌+◌, sum_by, length}
use Rattle.piece_ring.specs.Flat.{flat}
use Rattle.desktop_definitions.proofs.TableLaws.{kept_lengths}
use Rattle.desk_core.proofs.held.lengths.Given as goal

-- what was counted and what is to come
abbrev pub invariant-loop-text : goal.invariant-loop-text
invariant-loop-text g l = l.sum + sum_by (λ text. length (flat text)) l.text-iterator ≡ kept_lengths l.table.entries
