use Rattle.std.proofs.Common.{◌∙◌, ap}
use Rattle.std.specs.Prelude.{option_map}
use Rattle.std.proofs.lemmas.Result.{IfOk-weaker}
use Rattle.desktop_definitions.specs.Desktop.{KeptDesktop}
use Rattle.desktop_definitions.specs.Viewers.{newest}
use Rattle.event_loop.proofs.CopyLemmas.{stretch_of, selected_seen, selected_within}
use Rattle.event_loop.proofs.desktop.Desktop.selected.Goals as goal

pub returns-clause-seen : goal.returns-clause-seen
returns-clause-seen c = IfOk-weaker c.selected_text.result _ _
    (λ text is. λ characters. selected_seen characters c.args.self.now text
    (is ∙ ap (λ (d : KeptDesktop). option_map (stretch_of d) (newest d)) c.self.view_is))
    c.selected_text.ensures

pub returns-clause-within : goal.returns-clause-within
returns-clause-within c = IfOk-weaker c.selected_text.result _ _
    (λ text is. λ characters over. selected_within characters c.args.self.now text
    (is ∙ ap (λ (d : KeptDesktop). option_map (stretch_of d) (newest d)) c.self.view_is) over)
    c.selected_text.ensures
