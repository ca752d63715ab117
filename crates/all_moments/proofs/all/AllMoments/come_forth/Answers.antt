use Rattle.past_pages.proofs.StillReads.{still_both, still_none}
use Rattle.all_moments.proofs.all.AllMoments.come_forth.Goals as goal

pub loop-part-init : goal.loop-part-init
loop-part-init g c = record { still = still_none g.D.Disk c.args.store.now c.requires; are = λ is. is }

pub loop-part-preserved : goal.loop-part-preserved
loop-part-preserved g c = record {
  still = still_both g.D.Disk c.loop-part.invariant.still c.go_forth.ensures.still;
  are = λ is. c.in_ok-go_forth.ensures.are (c.loop-part.invariant.are is);
}

pub returns-in_err-go_forth-clause-still : goal.returns-in_err-go_forth-clause-still
returns-in_err-go_forth-clause-still g c = still_both g.D.Disk c.loop-part.invariant.still c.go_forth.ensures.still
