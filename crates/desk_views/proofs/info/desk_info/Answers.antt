use Rattle.std.proofs.Common.{◌∙◌, ℕ, List, length, ap, arith}
use Rattle.std.specs.Map.{keys_of}
use Rattle.desktop_definitions.specs.declared.viewer.Viewer.{Viewer}
use Rattle.desktop_definitions.specs.Opening.{least_unused}
use Rattle.desktop_definitions.proofs.OpeningDone.{can_open}
use Rattle.desk_core.specs.Kept.{kept_desktop}
use Rattle.desk_views.proofs.InfoLemmas.{log_there, info_told}
use Rattle.desk_views.proofs.info.desk_info.Goals as goal

pub unused_id-requires : goal.unused_id-requires
unused_id-requires c =
    let long = ap length c.as_slice.ensures.value in
    let few = (can_open (kept_desktop c.args.desk.now) c.requires).viewers in
    omega (arith, few, long)

pub text_there-requires : goal.text_there-requires
text_there-requires c = log_there (kept_desktop c.args.desk.now) c.requires

pub returns : goal.returns
returns c = λ characters. info_told characters (kept_desktop c.args.desk.now) _ _ _ _ _ _ _
    (c.unused_id.ensures ∙ ap (λ (l : List (ℕ × Viewer)). least_unused (keys_of l)) c.as_slice.ensures.value)
    c.closed_id.ensures c.caret_id.ensures c.caret_position.ensures c.is_some.ensures c.text_there.ensures c.len.ensures
