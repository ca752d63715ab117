use Rattle.std.proofs.Common.{◌∙◌, sym}
use Rattle.desk_core.specs.Kept.{kept_desktop}
use Rattle.desk_input.proofs.PressLemmas.{meant_kept, scrolls_none, scrolls_some}
use Rattle.desk_input.proofs.presses.presses_to.Goals as goal

pub presses_in-requires-clause-placed : goal.presses_in-requires-clause-placed
presses_in-requires-clause-placed g c =
    meant_kept (kept_desktop c.args.desk.now) c.args.at c.in-Some.id c.requires.whole
    (sym c.in-Some.is ∙ c.viewer_meant.ensures)

pub returns-in_default-clause-scrolls : goal.returns-in_default-clause-scrolls
returns-in_default-clause-scrolls g c = λ h.
    scrolls_none (g.S.CharSource.characters c.args.source.now) (kept_desktop c.args.desk.now) c.args.at c.args.wish
    c.requires (sym c.in_default.is ∙ c.viewer_meant.ensures)

pub returns-clause-scrolls : goal.returns-clause-scrolls
returns-clause-scrolls g c = λ h.
    scrolls_some (g.S.CharSource.characters c.args.source.now) (kept_desktop c.args.desk.now) c.args.at c.args.wish
    c.requires c.in-Some.id _ (sym c.in-Some.is ∙ c.viewer_meant.ensures) (c.in_ok-presses.ensures.told h)
