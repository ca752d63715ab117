use Rattle.std.proofs.Common.{◌∙◌, sym, false}
use Rattle.desktop_definitions.specs.Desktop.{Desktop}
use Rattle.desktop_definitions.specs.Effects.{menu_name}
use Rattle.desk_core.specs.Kept.{kept_desktop}
use Rattle.desk_views.proofs.LosingLemmas.{tells_as, tells_then}
use Rattle.desk_views.proofs.RivalLemmas.{rivalled_by}
use Rattle.desk_views.proofs.rivals.is_rivalled.Goals as goal

pub returns-in-None : goal.returns-in-None
returns-in-None g c = tells_as g.S.CharSource _ _ (kept_desktop c.args.desk.now) (λ (d : Desktop). menu_name d c.args.id) _
    c.in_ok-document_of.field-0 false (λ is. rivalled_by _ c.args.id _ (sym c.in-None.is ∙ is)) c.in_ok-document_of.ensures

pub returns-in-Some : goal.returns-in-Some
returns-in-Some g c =
    tells_then g.S.CharSource g.met.S.CharSource.ground_through _ _ _ (kept_desktop c.args.desk.now)
    (λ (d : Desktop). menu_name d c.args.id) _ _ c.in_ok-document_of.field-0 c.is_stored_over.result
    (λ is. rivalled_by _ c.args.id _ (sym c.in-Some.is ∙ is)) c.in_ok-document_of.ensures c.is_stored_over.ensures
