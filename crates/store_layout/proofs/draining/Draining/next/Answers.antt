use Rattle.sector_disk.proofs.Touching.{still_all}
use Rattle.store_layout.proofs.Drained.{byte_passed, all_passed}
use Rattle.store_layout.proofs.draining.Draining.next.Goals as goal

pub returns-then-self-clause-next : goal.returns-then-self-clause-next
returns-then-self-clause-next g c = λ h loaded.
    (all_passed _ _ _ _ c.if-self.true, all_passed _ _ _ _ c.if-self.true)

pub returns-clause-next : goal.returns-clause-next
returns-clause-next g c = λ h loaded.
    let r = c.refill.ensures in
    byte_passed _ _ _ _ _ _ _ _ _ (still_all _ _ (r.kept.moments h)) r.from r.extent r.at c.if-self.false
    (c.in_ok-refill.ensures.buffer h loaded)
