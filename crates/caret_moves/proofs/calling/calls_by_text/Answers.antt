use Rattle.std.proofs.Common.{ap, false}
use Rattle.desktop_definitions.specs.Desktop.{Desktop}
use Rattle.desktop_definitions.specs.Gesture.{text_position}
use Rattle.desk_core.specs.Kept.{kept_desktop}
use Rattle.caret_moves.specs.Calling.{calls}
use Rattle.caret_moves.proofs.ReadsThen.{over_after, tells_then}
use Rattle.caret_moves.proofs.calling.calls_by_text.Goals as goal

pub calls-requires-clause-over : goal.calls-requires-clause-over
calls-requires-clause-over g c =
    over_after g.S.CharSource _ _ (kept_desktop c.args.desk.now) c.in_ok-pos.ensures.told.reads c.requires.at.over

pub returns : goal.returns
returns g c = tells_then g.S.CharSource g.met.S.CharSource.ground_through _ _ _ (kept_desktop c.args.desk.now)
    (λ (x : Desktop). text_position x c.args.id c.args.cell.0 c.args.cell.1)
    (λ (x : Desktop). calls x c.args.id false c.args.command c.in_ok-pos.pos) _ c.in_ok-pos.pos c.calls.result
    (λ is. ap (calls _ c.args.id false c.args.command) is) c.in_ok-pos.ensures.told c.calls.ensures
