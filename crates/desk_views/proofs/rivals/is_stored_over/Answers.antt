use Rattle.std.proofs.Common.{ap}
use Rattle.std.specs.List.{list_any}
use Rattle.desktop_definitions.specs.declared.viewer.Viewer.{Viewer}
use Rattle.desktop_definitions.specs.Desktop.{Desktop, file_of}
use Rattle.desktop_definitions.specs.Viewers.{main_of}
use Rattle.desk_core.specs.Kept.{kept_desktop}
use Rattle.desk_views.specs.Unstored.{is_in_file}
use Rattle.desk_views.specs.Losses.{is_rival}
use Rattle.desk_views.proofs.LosingLemmas.{tells_then}
use Rattle.desk_views.proofs.RivalLemmas.{over_by}
use Rattle.desk_views.proofs.rivals.is_stored_over.Goals as goal

pub returns : goal.returns
returns g c =
    let number = c.viewer_or_none-number.result.main in
    tells_then g.S.CharSource g.met.S.CharSource.ground_through _ _ _ (kept_desktop c.args.desk.now)
    (λ (x : Desktop). is_in_file (main_of x c.args.id) (file_of x c.args.name.now))
    (λ (x : Desktop). list_any (is_rival x number c.args.name.now) x.viewers) _ c.in_ok-stored.stored c.has_rival.result
    (λ is. over_by _ (kept_desktop c.args.desk.now) c.args.id number c.args.name.now c.in_ok-stored.stored
    (ap (λ (viewer : Viewer). viewer.main) c.viewer_or_none-number.ensures) is c.if-stored.false)
    c.in_ok-stored.ensures c.has_rival.ensures
