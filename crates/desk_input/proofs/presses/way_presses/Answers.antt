use Rattle.std.proofs.Common.{ℕ, ◌-◌, refl, ap}
use Rattle.desk_core.specs.Kept.{kept_desktop}
use Rattle.desk_input.proofs.PressLemmas.{way_whole}
use Rattle.desk_input.proofs.presses.way_presses.Goals as goal

pub returns : goal.returns
returns c = way_whole (kept_desktop c.args.desk.now) c.args.id _ _ _ c.args.way _ _ _ _
    (ap (λ (n : ℕ). n - 1) c.rows_of-page.ensures.rows) refl c.lines_left-rest.ensures c.new-events.ensures.items
    c.in_ok-press_share.ensures
    c.in_ok-press_pages.ensures c.in_ok-press_rest.ensures
