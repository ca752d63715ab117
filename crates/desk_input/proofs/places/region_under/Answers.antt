use Rattle.std.proofs.Common.{◌∙◌, ◌+◌, ap, if◌then◌else◌}
use Rattle.std.specs.Prelude.{◌==◌}
use Rattle.desktop_definitions.specs.declared.region.Region.TheVariants.{Menu, Bar, Body}
use Rattle.desktop_definitions.specs.Gesture.{region_at, part_of}
use Rattle.desk_core.specs.Kept.{kept_desktop}
use Rattle.desk_input.proofs.places.region_under.Goals as goal

pub returns-in-None-clause-region : goal.returns-in-None-clause-region
unfolding region_at
returns-in-None-clause-region c =
    ap (part_of (kept_desktop c.args.desk.now) c.args.x c.args.y) c.in-None.ensures.seen

pub returns-in-Some-clause-region : goal.returns-in-Some-clause-region
unfolding region_at
returns-in-Some-clause-region c =
    let place = c.place_of-place.ensures in
    let v = c.in-Some.viewer.0 in
    c.part_of.ensures
    ∙ (λ k. if c.args.y + 1 == place.top k then Menu v else (if c.args.x == place.x k then Bar v else Body v))
    ∙ ap (part_of (kept_desktop c.args.desk.now) c.args.x c.args.y) c.in-Some.ensures.seen
