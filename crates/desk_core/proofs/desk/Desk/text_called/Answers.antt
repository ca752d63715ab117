use Rattle.std.proofs.Common.{◌∙◌, sym, ap, subst, Bool}
use Rattle.std.specs.Prelude.{IsSome}
use Rattle.desktop_definitions.specs.declared.viewer.Viewer.{Viewer}
use Rattle.desktop_definitions.specs.Tables.{text_numbered}
use Rattle.desktop_definitions.specs.Viewers.{text_in}
use Rattle.desktop_definitions.specs.Call.{text_called}
use Rattle.desk_core.specs.Kept.{kept_desktop}
use Rattle.desktop_definitions.proofs.PlaceLaws.{on_top_placed}
use Rattle.desk_core.proofs.ViewLemmas.{menu_there, main_there}
use Rattle.desk_core.proofs.desk.Desk.text_called.Goals as goal

pub text_there-requires : goal.text_there-requires
text_there-requires c =
    subst (λ (v : Viewer). IsSome (text_numbered c.args.self.now.texts.entries v.menu)) (sym c.viewer_or_none-viewer.ensures)
    (menu_there (kept_desktop c.args.self.now) c.requires.whole c.args.id
    (on_top_placed c.args.self.now.tracks c.args.id c.requires.placed))

pub text_there-requires-else-in_menu : goal.text_there-requires-else-in_menu
text_there-requires-else-in_menu c =
    subst (λ (v : Viewer). IsSome (text_numbered c.args.self.now.texts.entries v.main)) (sym c.viewer_or_none-viewer.ensures)
    (main_there (kept_desktop c.args.self.now) c.requires.whole c.args.id
    (on_top_placed c.args.self.now.tracks c.args.id c.requires.placed))

pub returns-then-in_menu : goal.returns-then-in_menu
returns-then-in_menu c =
    let d = kept_desktop c.args.self.now in
    c.text_there.ensures ∙ ap (λ (v : Viewer). text_in d.texts v.menu) c.viewer_or_none-viewer.ensures
    ∙ ap (λ (b : Bool). text_called d c.args.id b) (sym c.if-in_menu.true)

pub returns-else-in_menu : goal.returns-else-in_menu
returns-else-in_menu c =
    let d = kept_desktop c.args.self.now in
    c.text_there-else-in_menu.ensures ∙ ap (λ (v : Viewer). text_in d.texts v.main) c.viewer_or_none-viewer.ensures
    ∙ ap (λ (b : Bool). text_called d c.args.id b) (sym c.if-in_menu.false)
