use Rattle.std.proofs.Common.{ℕ, true}
use Rattle.command_table.specs.Versions.{version_number}
use Rattle.desktop_definitions.specs.Desktop.{Desktop}
use Rattle.desktop_definitions.specs.Gesture.{menu_position}
use Rattle.desktop_definitions.specs.Commands.{after_call}
use Rattle.desk_core.specs.Kept.{kept_desktop}
use Rattle.desk_commands.proofs.ReadFirst.{over_after, does_after}
use Rattle.event_loop.proofs.gestures.call_in_menu.Goals as goal

pub call-requires-clause-over : goal.call-requires-clause-over
call-requires-clause-over g c =
    over_after g.S.CharSource _ _ (kept_desktop c.args.desk.now) c.in_ok-pos.ensures.told.reads c.requires.over

pub returns : goal.returns
returns g c =
    let told = c.in_ok-pos.ensures.told in
    does_after g.S.CharSource g.met.S.CharSource.ground_through
    (λ (x : Desktop) (p : ℕ). after_call (version_number c.args.version) x c.args.id true p)
    (λ x. menu_position x c.args.id c.args.x) c.in_ok-pos.pos _ _ _ _ _ _ told.reads told.cause told.exact c.call.ensures
