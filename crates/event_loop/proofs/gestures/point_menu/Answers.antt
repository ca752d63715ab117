use Rattle.desk_core.specs.Kept.{kept_desktop}
use Rattle.desk_core.proofs.ArmLemmas.{rest_done}
use Rattle.desk_input.proofs.StillLemmas.{does_unread}
use Rattle.event_loop.proofs.GestureLemmas.{menu_rest}
use Rattle.event_loop.proofs.gestures.point_menu.Goals as goal

pub returns-in_default : goal.returns-in_default
returns-in_default g c =
    let other = c.in_default in
    does_unread g.S.CharSource g.met.S.CharSource.ground_self _ _ (kept_desktop c.args.desk.now) _ _ c.requires.over
    (λ H all over. rest_done over (menu_rest _ _ _ _ _ _ other.not-Left other.not-LeftMiddle other.not-Middle))
