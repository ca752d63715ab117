use Rattle.std.proofs.Common.{◌∙◌, ◌+◌, List, ℕ, fold, drop, sym, ap}
use Rattle.std.proofs.Math.ListN.{drop_of_length-le}
use Rattle.piece_ring.specs.declared.piece.Piece.{Piece}
use Rattle.desktop_definitions.specs.Tables.{Files}
use Rattle.desktop_definitions.specs.Effects.{without_file}
use Rattle.desktop_definitions.proofs.StoreLaws.{next_at}
use Rattle.desk_commands.proofs.stores.remove.Goals as goal

pub loop-name-preserved : goal.loop-name-preserved
loop-name-preserved c =
    let names = c.args.names.now in
    let at = c.loop-name.name-index in
    ap (λ (files : Files (List Piece)). fold without_file files (drop (at + 1) names)) c.remove.ensures.entries
    ∙ sym (ap (λ (rest : List (List ℕ)). fold without_file c.loop-name.files.entries rest)
    (next_at names at c.name-item.result c.loop-name-test.true c.name-item.is))
    ∙ c.loop-name.invariant

pub returns : goal.returns
returns c =
    sym (ap (λ (rest : List (List ℕ)). fold without_file c.loop-name.files.entries rest)
    (drop_of_length-le c.args.names.now c.loop-name-test.false))
    ∙ c.loop-name.invariant
