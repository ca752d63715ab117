use Rattle.std.proofs.Common.{◌∙◌, ap, sym}
use Rattle.desktop_definitions.specs.Effects.{menu_name}
use Rattle.desk_core.specs.Kept.{kept_desktop}
use Rattle.desk_views.specs.Unstored.{is_stored_as}
use Rattle.desk_views.proofs.LosingLemmas.{tells_then}
use Rattle.desk_views.proofs.unstored.is_stored.Goals as goal

pub returns-in-Some : goal.returns-in-Some
returns-in-Some g c =
    tells_then g.S.CharSource g.met.S.CharSource.ground_through _ _ _ (kept_desktop c.args.desk.now)
    (λ d. menu_name d c.args.id) _ _ c.in_ok-document_of.field-0 c.is_in_file.result
    (λ is. ap (is_stored_as _ c.args.id) (sym c.in-Some.is ∙ is)) c.in_ok-document_of.ensures c.is_in_file.ensures
