use Rattle.std.proofs.Common.{refl}
use Rattle.past_pages.proofs.StillReads.{still_none}
use Rattle.past_looks.proofs.Carrying.{looker_moved, looker_same}
use Rattle.past_looks.proofs.looker.Looker.seek_on.Goals as goal

pub returns-in_default-clause-still : goal.returns-in_default-clause-still
returns-in_default-clause-still g c = still_none g.D.Disk _ c.requires

pub returns-clause-looker : goal.returns-clause-looker
returns-clause-looker g c = λ is. looker_same g.D.Disk c.note.ensures.same
    (looker_moved g.D.Disk c.seek_page.ensures.still c.requires (c.shows_what_crashes_leave.ensures.quiet c.requires)
    c.args.self.now _ c.in_ok-sought.ensures.are refl refl refl is)
