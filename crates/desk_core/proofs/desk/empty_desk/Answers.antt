use Rattle.std.proofs.Common.{◌∙◌, ℕ, List, ap}
use Rattle.std.specs.Ordering.{nat_cmp}
use Rattle.std.specs.BTreeMap.{insert_entry}
use Rattle.piece_ring.specs.declared.piece.Piece.{Piece}
use Rattle.piece_ring.specs.Flat.{flat}
use Rattle.desk_core.proofs.EmptyLemmas.{are_empty}
use Rattle.desk_core.proofs.desk.empty_desk.Goals as goal

pub returns : goal.returns
returns c =
    let empty = are_empty c.insert.new.self.entries c.new-4.result.items c.new-5.result c.new-6.result.items
    c.new-7.result.entries c.in_ok-copied.copied c.in_ok-deleted.deleted c.new-8.result.items c.in_ok-new.field-0
    (c.in_ok-insert.ensures.entries
    ∙ ap (λ (es : List (ℕ × List Piece)). insert_entry nat_cmp es 0 c.in_ok-new.field-0) c.new-texts.ensures.empty)
    (ap flat c.in_ok-new.ensures) c.new-4.ensures.items c.new-5.ensures.empty c.new-6.ensures.items
    c.new-7.ensures.empty (ap flat c.in_ok-copied.ensures) (ap flat c.in_ok-deleted.ensures) c.new-8.ensures in
    record { seen = empty.0; over = empty.1 }
