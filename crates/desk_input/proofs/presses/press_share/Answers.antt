use Rattle.std.proofs.Common.{ℕ, Option, ◌∙◌, ◌++◌, ap, sym}
use Rattle.desk_core.specs.Kept.{kept_desktop}
use Rattle.desk_input.specs.Scrolling.{share_presses}
use Rattle.desk_input.proofs.PressLemmas.{nothing_more}
use Rattle.desk_input.proofs.presses.press_share.Goals as goal

pub returns-in-None : goal.returns-in-None
returns-in-None c = nothing_more c.args.events.now.items
    ∙ ap (λ (s : Option ℕ). c.args.events.now.items ++ share_presses (kept_desktop c.args.desk.now) c.args.id s)
    (sym c.in-None.is)
