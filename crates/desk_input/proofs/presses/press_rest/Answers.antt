use Rattle.std.specs.Prelude.{true, false}
use Rattle.std.proofs.Common.{◌∙◌, ◌++◌, ◌∷◌, [], ap}
use Rattle.std.proofs.lemmas.Bool.{eq-eqb, ne_eqb}
use Rattle.event_bytes.specs.declared.event.Event.{Event}
use Rattle.desk_core.specs.Kept.{kept_desktop}
use Rattle.desk_input.proofs.PressLemmas.{nothing_more, rest_by}
use Rattle.desk_input.proofs.presses.press_rest.Goals as goal

pub returns-then-rest-eq0 : goal.returns-then-rest-eq0
returns-then-rest-eq0 c = rest_by (kept_desktop c.args.desk.now) c.args.id c.args.rest true c.args.events.now.items _
    (eq-eqb c.args.rest 0 c.if-rest-eq0.true) (nothing_more c.args.events.now.items)

pub returns : goal.returns
returns c = rest_by (kept_desktop c.args.desk.now) c.args.id c.args.rest false c.args.events.now.items _
    (ne_eqb c.args.rest 0 c.if-rest-eq0.false)
    (c.in_ok-push.ensures.items ∙ ap (λ (x : Event). c.args.events.now.items ++ x ∷ []) c.bar_press.ensures)
