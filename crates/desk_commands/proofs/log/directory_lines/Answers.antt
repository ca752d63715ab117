use Rattle.std.proofs.Common.{◌≡◌, ◌∙◌, sym, subst, append-nil, List, ◌++◌, map}
use Rattle.piece_ring.specs.declared.piece.Piece.{Piece}
use Rattle.desktop_definitions.specs.Tables.{Files}
use Rattle.desk_commands.specs.Lines.{bytes_of_lines}
use Rattle.desk_commands.proofs.LogLemmas.{kept_line, lines_seen}
use Rattle.desk_commands.proofs.log.directory_lines.Goals as goal

pub returns : goal.returns
returns c = λ characters.
    sym (append-nil (bytes_of_lines c.loop-name.lines.items))
    ∙ subst (λ (rest : Files (List Piece)). bytes_of_lines c.loop-name.lines.items ++ map kept_line rest
    ≡ map kept_line c.args.files.now.entries) c.in-None.ensures.steps.0 c.loop-name.invariant
    ∙ sym (lines_seen characters c.args.files.now.entries)
