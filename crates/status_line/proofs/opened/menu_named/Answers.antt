use Rattle.std.proofs.Common.{ap, Some, ◌∙◌}
use Rattle.std.specs.Prelude.{option_map}
use Rattle.status_line.specs.Opened.{menu_spot, menu_named}
use Rattle.status_line.proofs.opened.menu_named.Goals as goal

pub returns-in-None : goal.returns-in-None
unfolding menu_named
returns-in-None c = ap (option_map menu_spot) c.in-None.ensures.value

pub returns-in-Some : goal.returns-in-Some
unfolding menu_named
returns-in-Some c = ap Some c.menu_spot.ensures ∙ ap (option_map menu_spot) c.in-Some.ensures.value
