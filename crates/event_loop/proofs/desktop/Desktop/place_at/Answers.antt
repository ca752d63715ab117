use Rattle.std.proofs.Common.{◌∙◌, ap}
use Rattle.desktop_definitions.specs.Desktop.{KeptDesktop}
use Rattle.desktop_definitions.specs.Seen.{seen}
use Rattle.desk_views.specs.Info.{place_at}
use Rattle.event_loop.proofs.desktop.Desktop.place_at.Goals as goal

pub returns : goal.returns
unfolding place_at seen
returns c = λ characters. c.place_at.ensures ∙ ap (λ (d : KeptDesktop). place_at d c.args.cell) c.self.view_is
