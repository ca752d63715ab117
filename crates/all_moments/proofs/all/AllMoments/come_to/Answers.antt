use Rattle.std.proofs.lemmas.Result.{on_ok_weaker}
use Rattle.std.proofs.Common.{ap, arith}
use Rattle.past_pages.proofs.StillReads.{still_both, still_none}
use Rattle.past_moments.specs.declared.moments.Moments.{Moments}
use Rattle.all_moments.proofs.AtHand.{come_in_use}
use Rattle.all_moments.proofs.all.AllMoments.come_to.Goals as goal

pub returns-then-k-self-clause-are : goal.returns-then-k-self-clause-are
returns-then-k-self-clause-are g c = on_ok_weaker c.come_before.result (λ are is. are (c.in_ok-come_forth.ensures.are is))
    c.come_before.ensures.are

pub returns-then-k-self-clause-still : goal.returns-then-k-self-clause-still
returns-then-k-self-clause-still g c = still_both g.D.Disk c.come_forth.ensures.still c.come_before.ensures.still

pub returns-clause-come : goal.returns-clause-come
returns-clause-come g c = come_in_use c.come_back.new.self c.args.k c.come_back.ensures.none
    (omega (arith, c.if-k-self.false, ap (λ (m : Moments). m.extent.first) c.come_back.ensures.in_use))

pub returns-clause-are : goal.returns-clause-are
returns-clause-are g c = λ is. c.come_back.ensures.are is.known.in_use

pub returns-clause-still : goal.returns-clause-still
returns-clause-still g c = still_none g.D.Disk c.args.store.now c.requires
