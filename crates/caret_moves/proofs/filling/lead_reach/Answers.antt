use Rattle.std.proofs.Common.{◌∙◌, ◌≡◌, ap, sym, length, arith, List}
use Rattle.std.specs.Prelude.{Option, min, ok_or}
use Rattle.std.specs.Result.{result_map_both}
use Rattle.piece_ring.specs.declared.piece.Piece.{Piece}
use Rattle.piece_ring.specs.Flat.{flat}
use Rattle.event_bytes.specs.declared.event.Event.{Event}
use Rattle.desktop_definitions.specs.Seen.{seen}
use Rattle.desk_core.specs.Kept.{kept_desktop}
use Rattle.desk_core.proofs.PositionLemmas.{main_long}
use Rattle.caret_moves.specs.declared.wish.WhyNot.TheVariants.{TooFar}
use Rattle.caret_moves.specs.Leading.{events_to, led_from}
use Rattle.caret_moves.proofs.Told.{mapped_ok, reach_told}
use Rattle.caret_moves.proofs.filling.lead_reach.Goals as goal

pub returns-clause-told : goal.returns-clause-told
unfolding led_from
returns-clause-told g c = λ h.
    let characters = g.S.CharSource.characters c.args.source.now in
    let d = kept_desktop c.args.desk.now in
    ap (λ r. result_map_both (λ events. events.items) (λ why. why) r) c.ok_or.ensures.value
    ∙ mapped_ok (λ events. events.items) c.in_ok-events.events TooFar
    ∙ ap (λ (o : Option (List Event)). ok_or o TooFar) (c.in_ok-events.ensures.told h)
    ∙ reach_told (seen characters d) c.args.caret.viewer c.args.place c.min-goal.result c.len.result c.min-goal.ensures
    (c.len.ensures ∙ ap (λ (t : List Piece). length (flat t)) c.main_text.ensures
    ∙ sym (main_long characters d c.args.caret.viewer))
