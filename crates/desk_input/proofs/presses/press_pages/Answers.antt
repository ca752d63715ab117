use Rattle.std.proofs.Common.{◌∙◌, ◌++◌, ◌∷◌, [], ap}
use Rattle.event_bytes.specs.declared.event.Event.{Event}
use Rattle.desk_input.proofs.PressLemmas.{nothing_more, one_again}
use Rattle.desk_input.proofs.presses.press_pages.Goals as goal

pub loop-page-init : goal.loop-page-init
loop-page-init c = nothing_more c.args.events.now.items

pub loop-page-preserved : goal.loop-page-preserved
loop-page-preserved c = one_again c.loop-page.page _ c.args.events.now.items c.loop-page.events.items _
    c.loop-page.invariant
    (c.in_ok-push.ensures.items ∙ ap (λ (x : Event). c.loop-page.events.items ++ x ∷ []) c.bar_press.ensures)
