use Rattle.std.proofs.Common.{◌≡◌, ◌∙◌, sym, ap, true, false}
use Rattle.std.specs.Prelude.{◌==◌}
use Rattle.desktop_definitions.specs.declared.viewer.Viewer.{Viewer}
use Rattle.desk_core.specs.Kept.{kept_desktop}
use Rattle.desk_views.proofs.InfoLemmas.{not_shown, shown_at}
use Rattle.desk_views.proofs.info.shown_viewer.Goals as goal

pub returns-then-not-is_on_top : goal.returns-then-not-is_on_top
returns-then-not-is_on_top c = not_shown (kept_desktop c.args.desk.now) c.args.id
    (λ top. let no : false ≡ true = sym c.if-not-is_on_top.true ∙ c.is_on_top.ensures.shown.1 top in cc no)

pub returns : goal.returns
returns c = shown_at (kept_desktop c.args.desk.now) c.args.id _
    (c.is_on_top.ensures.shown.0 c.if-not-is_on_top.false)
    (λ k. record {
      place = record {
        x = c.place_of-place.ensures.x k;
        bottom = c.place_of-place.ensures.bottom k;
        top = c.place_of-place.ensures.top k;
      };
      is_log = ap (λ (viewer : Viewer). viewer.main == 0) c.viewer_or_none-viewer.ensures k;
    })
