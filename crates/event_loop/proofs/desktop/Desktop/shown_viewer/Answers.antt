use Rattle.std.proofs.Common.{◌∙◌, ap}
use Rattle.desktop_definitions.specs.Desktop.{KeptDesktop}
use Rattle.desktop_definitions.specs.Seen.{seen}
use Rattle.desk_views.specs.Info.{shown_viewer}
use Rattle.event_loop.proofs.desktop.Desktop.shown_viewer.Goals as goal

pub returns : goal.returns
unfolding shown_viewer seen
returns c = λ characters. c.shown_viewer.ensures ∙ ap (λ (d : KeptDesktop). shown_viewer d c.args.id) c.self.view_is
