use Rattle.past_pages.proofs.StillReads.{still_left, still_none}
use Rattle.past_moments.specs.Moments.{IsDesktopAt, IsExtentOf}
use Rattle.past_moments.proofs.Kept.{missing_then, moment_found}
use Rattle.past_moments.proofs.moments.moment_of.Goals as goal

pub returns-clause-is : goal.returns-clause-is
returns-clause-is g c = rw c.none_where_missing.ensures (missing_then c.moment.result
    (λ shown. IsExtentOf g.D.Disk c.args.extent.now c.args.store.now
    → IsDesktopAt g.D.Disk c.args.k shown.desktop c.args.store.now)
    (moment_found g.D.Disk c.args.store.now c.args.extent.now c.args.k c.moment.result c.moment.ensures.comes_back c.moment.ensures.there))

pub returns-clause-still : goal.returns-clause-still
returns-clause-still g c =
    still_left g.D.Disk (still_none g.D.Disk c.args.store.now c.requires) c.moment.ensures.left c.moment.ensures.usable
