use Rattle.std.proofs.Common.{◌∙◌, ap}
use Rattle.desktop_definitions.specs.Desktop.{KeptDesktop}
use Rattle.desktop_definitions.specs.Seen.{seen}
use Rattle.event_loop.proofs.desktop.Desktop.pattern.Goals as goal

pub returns : goal.returns
unfolding seen
returns c = λ characters. c.as_slice.ensures.value ∙ ap (λ (d : KeptDesktop). d.pattern) c.self.view_is
