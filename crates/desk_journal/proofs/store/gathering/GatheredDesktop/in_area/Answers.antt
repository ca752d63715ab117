use Rattle.std.proofs.Common.{◌∙◌, ap}
use Rattle.desk_journal.specs.Gathering.{GatheredView}
use Rattle.desk_journal.proofs.Turning.{shown_gathered}
use Rattle.desk_journal.proofs.store.gathering.GatheredDesktop.in_area.Goals as goal

pub returns-clause-shown : goal.returns-clause-shown
returns-clause-shown c = λ content.
    c.in_area.ensures.shown content ∙ shown_gathered content c.self.inside.live c.self.invariant
    ∙ ap (λ (v : GatheredView). v.desktop) c.self.view_is
