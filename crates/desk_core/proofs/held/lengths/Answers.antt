use Rattle.std.proofs.Common.{◌≡◌, ◌+◌, List, arith, [], length, sum_by, subst}
use Rattle.piece_ring.specs.declared.piece.Piece.{Piece}
use Rattle.piece_ring.specs.Flat.{flat}
use Rattle.desktop_definitions.proofs.TableLaws.{lengths_seen, kept_lengths}
use Rattle.desk_core.proofs.held.lengths.Goals as goal

pub overflow_add-sum : goal.overflow_add-sum
overflow_add-sum g c = omega (arith, lengths_seen [] c.args.table.now.entries, c.loop-text.invariant, c.requires)

pub returns : goal.returns
returns g c = λ characters.
    let all : c.loop-text.sum + 0 ≡ kept_lengths c.args.table.now.entries =
    subst (λ (rest : List (List Piece)). c.loop-text.sum + sum_by (λ text. length (flat text)) rest
    ≡ kept_lengths c.args.table.now.entries) c.in-None.ensures.steps.0 c.loop-text.invariant in
    omega (arith, lengths_seen characters c.args.table.now.entries, all)
