use Rattle.std.proofs.Common.{◌∙◌, sym, ap}
use Rattle.viewer_tracks.specs.Viewers.{id_number}
use Rattle.desk_core.specs.Kept.{kept_desktop}
use Rattle.desk_views.proofs.InfoLemmas.{none_seen, one_seen}
use Rattle.desk_views.proofs.info.seen_place.Goals as goal

pub returns-in-None : goal.returns-in-None
returns-in-None c = none_seen (kept_desktop c.args.desk.now) c.args.x c.args.y
    (sym (ap id_number c.in-None.is) ∙ c.at.ensures.seen)

pub returns-in-Some : goal.returns-in-Some
returns-in-Some c = one_seen (kept_desktop c.args.desk.now) c.args.x c.args.y c.in-Some.id.0 c.place_of.result
    (sym (ap id_number c.in-Some.is) ∙ c.at.ensures.seen)
    (λ k. record { x = c.place_of.ensures.x k; bottom = c.place_of.ensures.bottom k; top = c.place_of.ensures.top k })
