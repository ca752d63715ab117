use Rattle.std.proofs.Common.{◌∙◌, sym, ap, subst}
use Rattle.std.specs.Prelude.{IsSome}
use Rattle.desktop_definitions.specs.declared.viewer.Viewer.{Viewer}
use Rattle.desktop_definitions.specs.Tables.{text_numbered}
use Rattle.desktop_definitions.specs.Viewers.{text_in}
use Rattle.desk_core.specs.Kept.{kept_desktop}
use Rattle.desktop_definitions.proofs.PlaceLaws.{on_top_placed}
use Rattle.desk_core.proofs.ViewLemmas.{main_there}
use Rattle.desk_core.proofs.desk.Desk.main_text.Goals as goal

pub text_there-requires : goal.text_there-requires
text_there-requires c =
    subst (λ (v : Viewer). IsSome (text_numbered c.args.self.now.texts.entries v.main)) (sym c.viewer_or_none-viewer.ensures)
    (main_there (kept_desktop c.args.self.now) c.requires.whole c.args.id
    (on_top_placed c.args.self.now.tracks c.args.id c.requires.placed))

pub returns : goal.returns
returns c =
    let d = kept_desktop c.args.self.now in
    c.text_there.ensures ∙ ap (λ (v : Viewer). text_in d.texts v.main) c.viewer_or_none-viewer.ensures
