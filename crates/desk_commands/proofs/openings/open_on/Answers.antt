use Rattle.std.proofs.Common.{◌∙◌}
use Rattle.desktop_definitions.specs.Opening.{opening_on, without_unshown}
use Rattle.desktop_definitions.specs.Viewers.{opened_at}
use Rattle.desk_core.specs.Kept.{kept_desktop}
use Rattle.desk_commands.proofs.OpeningLemmas.{stands_nowhere}
use Rattle.desk_commands.proofs.openings.open_on.Goals as goal

pub open_at-requires-clause-fresh : goal.open_at-requires-clause-fresh
open_at-requires-clause-fresh c =
    stands_nowhere (kept_desktop c.args.desk.now) (kept_desktop c.join.new.desk) c.args.menu c.args.main c.args.org c.in_ok-id.id
    c.requires.can c.in_ok-id.ensures.desk c.in_ok-id.ensures.id

pub returns : goal.returns
unfolding opening_on
returns c =
    c.open_at.ensures
    ∙ (λ k. without_unshown (opened_at (c.in_ok-id.ensures.desk k) (c.in_ok-id.ensures.id k) (c.args.x, c.args.y)))
