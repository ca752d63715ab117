use Rattle.std.proofs.Common.{◌∙◌, List, length, sym, subst}
use Rattle.std.specs.Prelude.{Some, None}
use Rattle.piece_ring.specs.declared.piece.Piece.{Piece}
use Rattle.piece_ring.specs.Flat.{flat}
use Rattle.command_table.specs.Parameters.{IsTextPlace}
use Rattle.command_table.specs.Versions.{newest_version}
use Rattle.desktop_definitions.specs.Desktop.{Desktop}
use Rattle.desktop_definitions.specs.Change.{bytes_of}
use Rattle.desktop_definitions.specs.Call.{text_called}
use Rattle.desktop_definitions.specs.Commands.{command_at}
use Rattle.desktop_definitions.proofs.CallLaws.{called_place}
use Rattle.desk_core.specs.Kept.{kept_desktop}
use Rattle.desk_commands.proofs.ReadFirst.{over_after}
use Rattle.desk_views.specs.Losses.{lost_by}
use Rattle.desk_views.proofs.LosingLemmas.{tells_then}
use Rattle.event_loop.proofs.LossLemmas.{found_read, lost_by_none, lost_by_one}
use Rattle.event_loop.proofs.losses.lost_by_call.Goals as goal

pub called-requires : goal.called-requires
called-requires g c =
    let old = g.S.CharSource.characters c.args.source.now in
    let d = kept_desktop c.args.desk.now in
    subst (λ (t : List Piece). IsTextPlace (length old) (flat t, c.args.pos)) (sym c.text_called.ensures)
    (called_place old d c.args.id c.args.in_menu c.args.pos c.requires.over c.requires.place)

pub returns-in_default : goal.returns-in_default
returns-in_default g c = record {
  exact =
      let old = g.S.CharSource.characters c.args.source.now in
      let d = kept_desktop c.args.desk.now in
      λ h. lost_by_none old d c.args.id c.args.in_menu c.args.pos c.in_ok-found.found c.in_default.is
      (found_read old d c.args.id c.args.in_menu c.args.pos c.text_called.result.now _ c.text_called.ensures
      (c.in_ok-found.ensures.call h));
  reads = c.in_ok-found.ensures.reads;
  cause = c.in_ok-found.ensures.cause;
}

pub lost_by-requires-clause-over : goal.lost_by-requires-clause-over
lost_by-requires-clause-over g c =
    over_after g.S.CharSource _ _ (kept_desktop c.args.desk.now) c.in_ok-found.ensures.reads c.requires.over

pub returns : goal.returns
returns g c =
    let old = g.S.CharSource.characters c.args.source.now in
    let d = kept_desktop c.args.desk.now in
    tells_then g.S.CharSource g.met.S.CharSource.ground_through _ _ _ d
    (λ (x : Desktop). command_at newest_version (bytes_of (text_called x c.args.id c.args.in_menu)) c.args.pos)
    (λ (x : Desktop). lost_by x c.in-Some.command c.meant.result) _ (Some (c.in-Some.command, c.in-Some.after))
    c.lost_by.result
    (lost_by_one old d c.args.id c.args.in_menu c.args.pos c.in-Some.command c.in-Some.after c.meant.result
    c.meant.ensures.viewer)
    (record {
      exact = λ h. sym c.in-Some.is ∙ found_read old d c.args.id c.args.in_menu c.args.pos c.text_called.result.now _
          c.text_called.ensures (c.in_ok-found.ensures.call h);
      reads = c.in_ok-found.ensures.reads;
      cause = c.in_ok-found.ensures.cause;
    })
    c.lost_by.ensures
