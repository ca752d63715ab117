use Rattle.std.proofs.Common.{◌∙◌, ap}
use Rattle.desktop_definitions.specs.Desktop.{KeptDesktop}
use Rattle.desktop_definitions.specs.Seen.{seen}
use Rattle.desk_views.specs.Info.{desk_info}
use Rattle.event_loop.proofs.desktop.Desktop.info.Goals as goal

pub returns : goal.returns
returns c = λ characters. c.desk_info.ensures characters
    ∙ ap (λ (d : KeptDesktop). desk_info (seen characters d)) c.self.view_is
