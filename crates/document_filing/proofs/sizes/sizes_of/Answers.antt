use Rattle.std.proofs.Common.{◌≡◌, ◌++◌, ◌∙◌, sym, subst, append-nil, List}
use Rattle.piece_ring.specs.declared.piece.Piece.{Piece}
use Rattle.desktop_definitions.specs.Tables.{Files}
use Rattle.document_filing.proofs.Sums.{kept_sizes, sizes_seen, size_more}
use Rattle.document_filing.proofs.sizes.sizes_of.Goals as goal

pub loop-name-preserved : goal.loop-name-preserved
loop-name-preserved c =
    size_more c.loop-name.sizes.entries c.put_size.new.sizes.entries c.args.files.now.entries
    c.loop-name.name-iterator c.next.new.self c.in-Some.name.now c.in-Some.text.now c.len.result c.requires
    c.in-Some.ensures.steps c.len.ensures c.in_ok-put_size.ensures.put c.loop-name.invariant

pub returns-clause-sizes : goal.returns-clause-sizes
returns-clause-sizes c = λ characters.
    sym (append-nil c.loop-name.sizes.entries)
    ∙ subst (λ (rest : Files (List Piece)). c.loop-name.sizes.entries ++ kept_sizes rest
    ≡ kept_sizes c.args.files.now.entries) c.in-None.ensures.steps.0 c.loop-name.invariant
    ∙ sizes_seen characters c.args.files.now.entries
