use Rattle.past_pages.proofs.StillReads.{still_looked, still_none}
use Rattle.past_moments.proofs.Carried.{mark_on}
use Rattle.past_moments.proofs.Ways.{moment_copy}
use Rattle.past_moments.proofs.moments.Moments.behind_copy.Goals as goal

pub returns-in_err-copy_in-clause-still : goal.returns-in_err-copy_in-clause-still
returns-in_err-copy_in-clause-still g c =
    still_looked g.D.Disk c.copy_in.result (still_none g.D.Disk c.args.store.now c.requires) c.copy_in.ensures.looks

pub returns-in-None-clause-still : goal.returns-in-None-clause-still
returns-in-None-clause-still g c =
    still_looked g.D.Disk c.copy_in.result (still_none g.D.Disk c.args.store.now c.requires) c.copy_in.ensures.looks

pub returns-in-Some-clause-still : goal.returns-in-Some-clause-still
returns-in-Some-clause-still g c =
    still_looked g.D.Disk c.copy_in.result (still_none g.D.Disk c.args.store.now c.requires) c.copy_in.ensures.looks

pub returns-in-Some-clause-mark : goal.returns-in-Some-clause-mark
returns-in-Some-clause-mark g c = λ are is goes.
    let d = g.D.Disk in
    let still = still_looked d c.copy_in.result (still_none d c.args.store.now c.requires) c.copy_in.ensures.looks in
    mark_on d still c.requires (c.shows_what_crashes_leave.ensures.quiet c.requires)
    (record { place = c.args.place; shown = c.in-Some.shown }) (record {
      place = is;
      shown = moment_copy d c.args.self.now.extent c.args.place c.args.at c.in-Some.shown.desktop are.extent is goes
          (rw c.in-Some.is at c.in_ok-copy_in.ensures.found);
    })
