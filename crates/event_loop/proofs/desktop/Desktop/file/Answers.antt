use Rattle.std.proofs.Common.{◌∙◌, ap}
use Rattle.desktop_definitions.specs.Desktop.{KeptDesktop, file_of}
use Rattle.desktop_definitions.proofs.SeenLaws.{found_among, found_over}
use Rattle.event_loop.proofs.desktop.Desktop.file.Goals as goal

pub returns-clause-kept : goal.returns-clause-kept
unfolding file_of
returns-clause-kept c = c.file_of.ensures ∙ ap (λ (d : KeptDesktop). file_of d c.args.name.now) c.self.view_is

pub returns-clause-seen : goal.returns-clause-seen
unfolding file_of
returns-clause-seen c = λ characters.
    found_among (λ text. text.now) c.file_of.result c.args.self.now characters c.args.name.now
    (c.file_of.ensures ∙ ap (λ (d : KeptDesktop). file_of d c.args.name.now) c.self.view_is)

pub returns-clause-within : goal.returns-clause-within
unfolding file_of
returns-clause-within c = λ characters over.
    found_over (λ text. text.now) c.file_of.result c.args.self.now characters c.args.name.now
    (c.file_of.ensures ∙ ap (λ (d : KeptDesktop). file_of d c.args.name.now) c.self.view_is) over
