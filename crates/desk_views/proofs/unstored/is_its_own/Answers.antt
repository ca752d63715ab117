use Rattle.std.proofs.Common.{◌∙◌, ap}
use Rattle.desktop_definitions.specs.declared.viewer.Viewer.{Viewer}
use Rattle.desk_core.specs.Kept.{kept_desktop}
use Rattle.desk_views.proofs.LosingLemmas.{own_as}
use Rattle.desk_views.proofs.unstored.is_its_own.Goals as goal

pub returns : goal.returns
returns c = λ characters. c.is_single.ensures
    ∙ own_as characters (kept_desktop c.args.desk.now) c.args.id _ _ _ _
    (ap (λ (viewer : Viewer). viewer.main) c.viewer_or_none-number.ensures) c.main_text.ensures
    c.len-len.ensures c.is_shown_too.ensures
