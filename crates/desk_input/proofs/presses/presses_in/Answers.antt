use Rattle.std.proofs.Common.{◌∙◌}
use Rattle.std.proofs.lemmas.Result.{IfOk-weaker}
use Rattle.desktop_definitions.specs.Seen.{seen}
use Rattle.desk_core.specs.Kept.{kept_desktop}
use Rattle.desk_input.specs.Scrolling.{line_presses}
use Rattle.desk_input.proofs.presses.presses_in.Goals as goal

pub returns-clause-told : goal.returns-clause-told
returns-clause-told g c =
    let first = c.in_ok-target.ensures.told in
    IfOk-weaker c.line_presses.result _ _ (λ presses told h.
    told (first.reads.still h)
    ∙ (λ k. line_presses (seen (first.reads.same h k) (kept_desktop c.args.desk.now)) c.args.id (first.exact h k)))
    c.line_presses.ensures.told
