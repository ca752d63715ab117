use Rattle.std.proofs.Common.{◌∙◌, ap, List}
use Rattle.std.specs.Prelude.{Option, ok_or}
use Rattle.std.specs.Result.{result_map_both}
use Rattle.event_bytes.specs.declared.event.Event.{Event}
use Rattle.desktop_definitions.specs.Seen.{seen}
use Rattle.desk_core.specs.Kept.{kept_desktop}
use Rattle.caret_moves.specs.declared.wish.WhyNot.TheVariants.{TooFar}
use Rattle.caret_moves.specs.Leading.{events_to, led_from}
use Rattle.caret_moves.proofs.Told.{mapped_ok}
use Rattle.caret_moves.proofs.leading.lead_step.Goals as goal

pub returns-clause-told : goal.returns-clause-told
unfolding led_from
returns-clause-told g c = λ h.
    let first = c.in_ok-pos.ensures.told in
    let reads = first.reads in
    ap (λ r. result_map_both (λ events. events.items) (λ why. why) r) c.ok_or.ensures.value
    ∙ mapped_ok (λ events. events.items) c.in_ok-events.events TooFar
    ∙ ap (λ (o : Option (List Event)). ok_or o TooFar) (c.in_ok-events.ensures.told (reads.still h)
    ∙ (λ k. events_to (seen (reads.same h k) (kept_desktop c.args.desk.now)) c.args.caret.viewer (first.exact h k)))
