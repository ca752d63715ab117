use Rattle.std.proofs.Common.{◌∙◌, sym, subst}
use Rattle.std.specs.Prelude.{IsSome}
use Rattle.desktop_definitions.specs.declared.viewer.Viewer.{Viewer}
use Rattle.desktop_definitions.specs.Tables.{text_numbered}
use Rattle.desktop_definitions.proofs.RowPartLaws.{kept_newest}
use Rattle.desktop_definitions.proofs.PlaceLaws.{on_top_placed}
use Rattle.desk_core.specs.Kept.{kept_desktop}
use Rattle.desk_core.proofs.ViewLemmas.{main_there}
use Rattle.desk_commands.proofs.calls.selection_place.Goals as goal

pub text_there-requires : goal.text_there-requires
text_there-requires c =
    let d = kept_desktop c.args.desk.now in
    let stands = kept_newest d.written d c.in_ok-selection.selection
    (record { within = c.requires.within; shaped = λ all. (c.requires.sound all).shaped })
    (sym c.newest.ensures ∙ c.in_ok-selection.was) in
    subst (λ (v : Viewer). IsSome (text_numbered c.args.desk.now.texts.entries v.main)) (sym c.viewer_or_none-viewer.ensures)
    (main_there d c.requires c.in_ok-selection.selection.viewer
    (on_top_placed d.columns c.in_ok-selection.selection.viewer stands.0))
