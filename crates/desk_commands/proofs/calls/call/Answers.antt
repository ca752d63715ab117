use Rattle.std.proofs.Common.{rules, ◌∙◌, List, length, sym, ap, subst}
use Rattle.std.specs.Prelude.{Some}
use Rattle.piece_ring.specs.declared.piece.Piece.{Piece}
use Rattle.piece_ring.specs.Flat.{flat}
use Rattle.readers_scanners.specs.Reading.{bytes_of_text}
use Rattle.command_table.specs.Call.{called_at}
use Rattle.command_table.specs.Parameters.{IsTextPlace}
use Rattle.command_table.specs.Versions.{version_number}
use Rattle.desktop_definitions.specs.Limits.{no_command}
use Rattle.desktop_definitions.specs.Desktop.{Desktop}
use Rattle.desktop_definitions.specs.Change.{bytes_of}
use Rattle.desktop_definitions.specs.Call.{text_called}
use Rattle.desktop_definitions.specs.Commands.{command_at, after_call}
use Rattle.desktop_definitions.specs.Seen.{seen}
use Rattle.desktop_definitions.proofs.RowLaws.{known_no_command}
use Rattle.desktop_definitions.proofs.CallLaws.{called_place, called_read}
use Rattle.desk_core.specs.Kept.{kept_desktop}
use Rattle.desk_commands.proofs.ReadFirst.{does_after, refused_after}
use Rattle.desk_commands.proofs.CallLemmas.{called_by, called_none}
use Rattle.desk_commands.proofs.calls.call.Goals as goal

pub called-requires : goal.called-requires
called-requires g c =
    let s = g.S.CharSource in
    let old = s.characters c.args.source.now in
    let d = kept_desktop c.args.desk.now in
    subst (λ (t : List Piece). IsTextPlace (length old) (flat t, c.args.pos)) (sym c.text_called.ensures)
    (called_place old d c.args.id c.args.in_menu c.args.pos c.requires.over c.requires.place)

pub returns-in_default : goal.returns-in_default
returns-in_default g c = record {
  answered =
      let s = g.S.CharSource in
      let old = s.characters c.args.source.now in
      let d = kept_desktop c.args.desk.now in
      refused_after s (λ (x : Desktop). after_call (version_number c.args.version) x c.args.id c.args.in_menu c.args.pos)
      no_command _ _ d
      c.in_ok-found.ensures.reads c.requires.over known_no_command
      (λ h. called_none (version_number c.args.version) (seen old d) c.args.id c.args.in_menu c.args.pos
      c.in_ok-found.found
      c.in_default.is
      (c.in_ok-found.ensures.call h
      ∙ ap (λ (t : List Piece). called_at (version_number c.args.version) (bytes_of_text old (flat t)) c.args.pos)
      c.text_called.ensures
      ∙ called_read (version_number c.args.version) old d c.args.id c.args.in_menu c.args.pos));
  uses = search (rules, g.met.S.CharSource.ground_self, g.met.S.CharSource.ground_through);
}

pub returns : goal.returns
unfolding after_call
returns g c =
    let s = g.S.CharSource in
    let old = s.characters c.args.source.now in
    let d = kept_desktop c.args.desk.now in
    does_after s g.met.S.CharSource.ground_through (called_by c.args.id c.args.in_menu)
    (λ (x : Desktop). command_at (version_number c.args.version) (bytes_of (text_called x c.args.id c.args.in_menu))
    c.args.pos)
    (Some (c.in-Some.command, c.in-Some.after)) _ _ c.obey.new.source d (kept_desktop c.obey.new.desk)
    c.obey.result c.in_ok-found.ensures.reads c.in_ok-found.ensures.cause
    (λ h. sym c.in-Some.is ∙ c.in_ok-found.ensures.call h
    ∙ ap (λ (t : List Piece). called_at (version_number c.args.version) (bytes_of_text old (flat t)) c.args.pos)
    c.text_called.ensures
    ∙ called_read (version_number c.args.version) old d c.args.id c.args.in_menu c.args.pos)
    c.obey.ensures
