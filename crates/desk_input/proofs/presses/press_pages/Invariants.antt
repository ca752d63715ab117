use Rattle.std.proofs.Common.{◌≡◌, ◌++◌}
use Rattle.std.specs.Prelude.{replicate}
use Rattle.event_bytes.specs.declared.keys.Keys.TheVariants.{Left}
use Rattle.desk_core.specs.Kept.{kept_desktop}
use Rattle.desk_input.specs.Scrolling.{bar_press}
use Rattle.desk_input.proofs.presses.press_pages.Given as goal

abbrev pub invariant-loop-page : goal.invariant-loop-page
invariant-loop-page l =
    l.events.items ≡ l.fn.events.items ++ replicate l.page (bar_press (kept_desktop l.desk) l.id Left l.row)
