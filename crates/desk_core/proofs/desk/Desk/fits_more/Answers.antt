use Rattle.std.proofs.Common.{◌+◌, ◌&&◌, ◌∙◌, nat_le}
use Rattle.desktop_definitions.specs.Limits.{most_written, most_held}
use Rattle.desktop_definitions.specs.Seen.{seen}
use Rattle.desktop_definitions.specs.DeskWords.{has_space}
use Rattle.desk_core.proofs.desk.Desk.fits_more.Goals as goal

pub returns : goal.returns
unfolding has_space seen
returns c = λ characters.
    c.is_space.ensures
    ∙ (λ k. nat_le (c.args.self.now.written + c.args.made) most_written
    && nat_le (c.held-held.ensures.held characters k + c.args.more) (most_held + c.args.fewer))
