use Rattle.std.proofs.Common.{◌∙◌, ap, List, length, sym, subst, ℕ}
use Rattle.std.specs.Prelude.{Option}
use Rattle.piece_ring.specs.declared.piece.Piece.{Piece}
use Rattle.piece_ring.specs.Flat.{flat}
use Rattle.readers_scanners.specs.Reading.{bytes_of_text}
use Rattle.command_table.specs.declared.command.Command.{Command}
use Rattle.command_table.specs.Call.{called_at}
use Rattle.command_table.specs.Parameters.{IsTextPlace}
use Rattle.command_table.specs.Versions.{newest_version}
use Rattle.desktop_definitions.proofs.CallLaws.{called_place, called_read}
use Rattle.desk_core.specs.Kept.{kept_desktop}
use Rattle.caret_moves.specs.Calling.{calls, is_word_found}
use Rattle.caret_moves.proofs.calling.calls.Goals as goal

pub called-requires : goal.called-requires
called-requires g c =
    let old = g.S.CharSource.characters c.args.source.now in
    let d = kept_desktop c.args.desk.now in
    subst (λ (t : List Piece). IsTextPlace (length old) (flat t, c.args.pos)) (sym c.text_called.ensures)
    (called_place old d c.args.id c.args.in_menu c.args.pos c.requires.over c.requires.place)

pub returns : goal.returns
unfolding calls
returns g c =
    let old = g.S.CharSource.characters c.args.source.now in
    let d = kept_desktop c.args.desk.now in
    record {
      exact = λ h. c.is_word_found.ensures
          ∙ ap (λ (f : Option (Command × ℕ)). is_word_found c.args.command f) (c.in_ok-found.ensures.call h
          ∙ ap (λ (t : List Piece). called_at newest_version (bytes_of_text old (flat t)) c.args.pos) c.text_called.ensures
          ∙ called_read newest_version old d c.args.id c.args.in_menu c.args.pos);
      reads = c.in_ok-found.ensures.reads;
      cause = c.in_ok-found.ensures.cause;
    }
