use Rattle.std.proofs.Common.{ap, ◌∙◌}
use Rattle.desktop_definitions.specs.Opening.{without_unshown}
use Rattle.desktop_definitions.specs.Viewers.{without_viewer, opened_at}
use Rattle.desktop_definitions.proofs.PlacedLaws.{at_columns}
use Rattle.desk_core.specs.Kept.{kept_desktop}
use Rattle.desk_core.proofs.desk.Desk.open_at.Goals as goal

pub returns : goal.returns
unfolding opened_at
returns c =
    let d = kept_desktop c.args.self.now in
    c.let_go.ensures
    ∙ (λ k. without_unshown (without_viewer (record d { columns = c.open-gone.ensures.opened k })
    (c.open-gone.ensures.replaced k)))
    ∙ ap without_unshown (at_columns d _ _)
