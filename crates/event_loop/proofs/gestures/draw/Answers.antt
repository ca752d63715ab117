use Rattle.desktop_definitions.specs.declared.viewer.Selection.{Selection}
use Rattle.desktop_definitions.specs.Desktop.{Desktop}
use Rattle.desktop_definitions.specs.Gesture.{stretch_drawn, done_with}
use Rattle.desk_core.specs.Kept.{kept_desktop}
use Rattle.desk_commands.proofs.ReadFirst.{over_after, does_after}
use Rattle.event_loop.proofs.gestures.draw.Goals as goal

pub point_stretch-requires : goal.point_stretch-requires
point_stretch-requires g c = record {
  over = over_after g.S.CharSource _ _ (kept_desktop c.args.desk.now) c.in_ok-drawn.ensures.told.reads c.requires.at.over;
  at = c.in_ok-drawn.ensures.within;
}

pub returns : goal.returns
returns g c =
    let told = c.in_ok-drawn.ensures.told in
    does_after g.S.CharSource g.met.S.CharSource.ground_through
    (λ (x : Desktop) (s : Selection). done_with x c.args.gesture.keys s)
    (λ x. stretch_drawn x c.args.id c.args.gesture.from.0 c.args.gesture.from.1 c.args.gesture.to.0 c.args.gesture.to.1)
    c.in_ok-drawn.drawn _ _ _ _ _ _ told.reads told.cause told.exact c.point_stretch.ensures
