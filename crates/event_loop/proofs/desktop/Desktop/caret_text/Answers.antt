use Rattle.std.proofs.Common.{◌∙◌, ap}
use Rattle.std.specs.Prelude.{option_map}
use Rattle.desktop_definitions.specs.declared.viewer.Caret.{Caret}
use Rattle.desktop_definitions.specs.Desktop.{KeptDesktop}
use Rattle.desktop_definitions.specs.Viewers.{kept_main}
use Rattle.event_loop.proofs.CopyLemmas.{caret_text_seen, caret_text_within}
use Rattle.event_loop.proofs.desktop.Desktop.caret_text.Goals as goal

pub returns-clause-seen : goal.returns-clause-seen
returns-clause-seen c = λ characters. caret_text_seen (λ text. text.now) characters c.args.self.now c.text_with_caret.result
    (c.text_with_caret.ensures
    ∙ ap (λ (d : KeptDesktop). option_map (λ (c : Caret). kept_main d c.viewer) d.caret) c.self.view_is)

pub returns-clause-within : goal.returns-clause-within
returns-clause-within c = λ characters over. caret_text_within (λ text. text.now) characters c.args.self.now
    c.text_with_caret.result (c.text_with_caret.ensures
    ∙ ap (λ (d : KeptDesktop). option_map (λ (c : Caret). kept_main d c.viewer) d.caret) c.self.view_is) over
