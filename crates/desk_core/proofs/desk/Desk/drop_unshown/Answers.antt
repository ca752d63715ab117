use Rattle.std.proofs.Common.{rules}
use Rattle.std.proofs.lemmas.Map.Made.{filter_same_pairs}
use Rattle.desktop_definitions.specs.Opening.{is_shown, without_unshown}
use Rattle.desk_core.specs.Kept.{kept_desktop}
use Rattle.desk_core.proofs.desk.Desk.drop_unshown.Goals as goal

pub returns : goal.returns
unfolding without_unshown
returns c =
    let d = kept_desktop c.args.self.now in
    let left = filter_same_pairs _ (λ e. is_shown d.viewers e.0) _ (λ n text b after f run. search rules) _ _
    c.retain.ensures.filtered in
    λ k. record d { texts = left k }
