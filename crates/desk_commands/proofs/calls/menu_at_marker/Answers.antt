use Rattle.std.proofs.Common.{sym, subst}
use Rattle.std.specs.Prelude.{IsSome}
use Rattle.desktop_definitions.specs.declared.viewer.Viewer.{Viewer}
use Rattle.desktop_definitions.specs.Tables.{text_numbered}
use Rattle.desktop_definitions.proofs.PlaceLaws.{on_top_placed}
use Rattle.desk_core.specs.Kept.{kept_desktop}
use Rattle.desk_core.proofs.ViewLemmas.{menu_there}
use Rattle.desk_commands.proofs.calls.menu_at_marker.Goals as goal

pub text_there-requires : goal.text_there-requires
text_there-requires c =
    subst (λ (v : Viewer). IsSome (text_numbered c.args.desk.now.texts.entries v.menu)) (sym c.viewer_or_none-viewer.ensures)
    (menu_there (kept_desktop c.args.desk.now) c.requires c.in_ok-id.id
    (on_top_placed c.args.desk.now.tracks c.in_ok-id.id c.in_ok-id.ensures.placed))
