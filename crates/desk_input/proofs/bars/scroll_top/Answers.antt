use Rattle.std.proofs.Common.{refl, arith}
use Rattle.desk_core.specs.Kept.{kept_desktop}
use Rattle.desk_core.proofs.ReadLemmas.{org_answered}
use Rattle.desk_input.proofs.StillLemmas.{does_unread}
use Rattle.desk_input.proofs.bars.scroll_top.Goals as goal

pub returns : goal.returns
returns g c =
    does_unread g.S.CharSource g.met.S.CharSource.ground_self _ _ (kept_desktop c.args.desk.now) (kept_desktop c.begin_at.new.desk) _
    c.requires.over (λ H all over. org_answered H all all (kept_desktop c.args.desk.now) (kept_desktop c.begin_at.new.desk) c.args.id 0 _
    over (omega arith) refl (λ h. refl) c.begin_at.ensures (λ h. refl))
