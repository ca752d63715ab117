use Rattle.std.proofs.Common.{◌∙◌, ap}
use Rattle.std.proofs.lemmas.Result.{IfOk-weaker}
use Rattle.piece_ring.specs.Flat.{flat}
use Rattle.readers_scanners.specs.Reading.{contents}
use Rattle.desktop_definitions.specs.Desktop.{KeptDesktop}
use Rattle.desktop_definitions.specs.Seen.{seen}
use Rattle.event_loop.proofs.CopyLemmas.{copied_within}
use Rattle.event_loop.proofs.desktop.Desktop.copied.Goals as goal

pub returns-clause-seen : goal.returns-clause-seen
unfolding seen
returns-clause-seen c = IfOk-weaker c.copied_text.result _ _
    (λ text is. λ characters. ap (λ t. contents characters t)
    (is ∙ ap (λ (d : KeptDesktop). flat d.copied) c.self.view_is)) c.copied_text.ensures

pub returns-clause-within : goal.returns-clause-within
returns-clause-within c = IfOk-weaker c.copied_text.result _ _
    (λ text is. λ characters over. copied_within characters c.args.self.now text
    (is ∙ ap (λ (d : KeptDesktop). flat d.copied) c.self.view_is) over) c.copied_text.ensures
