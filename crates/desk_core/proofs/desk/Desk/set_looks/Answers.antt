use Rattle.std.proofs.Common.{ap, ◌∙◌}
use Rattle.desktop_definitions.specs.Desktop.{KeptDesktop}
use Rattle.desktop_definitions.specs.Viewers.{with_selection}
use Rattle.desk_core.specs.Kept.{kept_desktop}
use Rattle.desk_core.proofs.TextLemmas.{relooked_by}
use Rattle.desk_core.proofs.desk.Desk.set_looks.Goals as goal

pub returns-clause-changed : goal.returns-clause-changed
returns-clause-changed c = λ characters built.
    relooked_by characters (kept_desktop c.args.self.now) c.relook.new.texts.entries c.args.selection c.args.selector
    c.args.look c.requires.placed c.requires.there c.requires.some c.requires.within c.viewer_or_none-number.result
    c.viewer_or_none-number.ensures c.in_ok-relook.ensures c.requires.look
    (record (kept_desktop c.unmark.new.self) { selections = c.select.new.selections.items })
    ((λ k. record (kept_desktop c.unmark.new.self) { selections = c.in_ok-select.ensures k })
    ∙ ap (λ (d : KeptDesktop). with_selection d c.args.selection) c.unmark.ensures)
    built
