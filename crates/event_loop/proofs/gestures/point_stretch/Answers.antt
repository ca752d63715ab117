use Rattle.desk_core.specs.Kept.{kept_desktop}
use Rattle.desk_core.proofs.ArmLemmas.{rest_done}
use Rattle.desk_input.proofs.StillLemmas.{does_still}
use Rattle.event_loop.proofs.GestureLemmas.{with_rest}
use Rattle.event_loop.proofs.gestures.point_stretch.Goals as goal

pub returns-in_default : goal.returns-in_default
returns-in_default g c =
    let other = c.in_default in
    does_still g.S.CharSource g.met.S.CharSource.ground_self _ _ (kept_desktop c.args.desk.now) _ _ c.requires.over
    (λ H all over. rest_done over (with_rest _ _ _ other.not-Right other.not-RightLeft other.not-RightMiddle))
