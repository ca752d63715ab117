use Rattle.std.proofs.Common.{◌<◌, length, sym, subst, ◌∙◌}
use Rattle.viewer_tracks.specs.declared.display.TheConstants.{DEPTH}
use Rattle.viewer_tracks.specs.Columns.{stack_of}
use Rattle.desktop_definitions.specs.Desktop.{KeptDesktop}
use Rattle.desktop_definitions.specs.Opening.{opening_over}
use Rattle.desktop_definitions.specs.Viewers.{covered_by}
use Rattle.desk_core.specs.Kept.{kept_desktop}
use Rattle.desk_commands.proofs.OpeningLemmas.{stands_nowhere}
use Rattle.desk_commands.proofs.openings.open_over.Goals as goal

pub cover-requires-clause-fresh : goal.cover-requires-clause-fresh
cover-requires-clause-fresh c =
    stands_nowhere (kept_desktop c.args.desk.now) (kept_desktop c.join.new.desk) c.args.menu c.args.main c.args.org c.in_ok-id.id
    c.requires.0 c.in_ok-id.ensures.desk c.in_ok-id.ensures.id

pub cover-requires-clause-room : goal.cover-requires-clause-room
cover-requires-clause-room c =
    subst (λ (d : KeptDesktop). length (stack_of d.columns c.args.track) < DEPTH) (sym c.in_ok-id.ensures.desk)
    c.requires.1

pub returns : goal.returns
unfolding opening_over
returns c = c.cover.ensures ∙ (λ k. covered_by (c.in_ok-id.ensures.desk k) (c.in_ok-id.ensures.id k) c.args.track)
