use Rattle.std.proofs.Common.{ap, true}
use Rattle.desktop_definitions.specs.Desktop.{Desktop}
use Rattle.desktop_definitions.specs.Gesture.{menu_position}
use Rattle.desk_core.specs.Kept.{kept_desktop}
use Rattle.desk_commands.proofs.ReadFirst.{over_after}
use Rattle.desk_views.specs.Losses.{lost_by_call}
use Rattle.desk_views.proofs.LosingLemmas.{tells_then}
use Rattle.event_loop.proofs.losses.lost_in_menu.Goals as goal

pub lost_by_call-requires-clause-over : goal.lost_by_call-requires-clause-over
lost_by_call-requires-clause-over g c =
    over_after g.S.CharSource _ _ (kept_desktop c.args.desk.now) c.in_ok-pos.ensures.told.reads c.requires.over

pub returns : goal.returns
returns g c = tells_then g.S.CharSource g.met.S.CharSource.ground_through _ _ _ (kept_desktop c.args.desk.now)
    (λ (x : Desktop). menu_position x c.args.id c.args.to.0)
    (λ (x : Desktop). lost_by_call x c.args.id true c.in_ok-pos.pos) _ c.in_ok-pos.pos c.lost_by_call.result
    (λ is. ap (lost_by_call _ c.args.id true) is) c.in_ok-pos.ensures.told c.lost_by_call.ensures
