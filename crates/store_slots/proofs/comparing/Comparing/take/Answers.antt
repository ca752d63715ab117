use Rattle.std.proofs.Common.{◌≡◌, ◌∙◌, sym, ap}
use Rattle.std.specs.Prelude.{◌&&◌}
use Rattle.sector_disk.specs.Trail.{now}
use Rattle.sector_disk.proofs.Touching.{still_all}
use Rattle.store_slots.proofs.SlotStarts.{byte_agrees}
use Rattle.store_slots.proofs.comparing.Comparing.take.Goals as goal
use Rattle.store_slots.proofs.comparing.Comparing.take.Goals.{then-self, else-self}

pub returns-clause-agreed : goal.returns-clause-agreed
returns-clause-agreed g c = λ honest bytes was.
    let x = c.args.self.now in
    let here = c.is_byte-here.result in
    let same : c.if-self.self ≡ (x.same && here) = elim c.if-self.branch [
      | then-self w ↦ w.self-is ∙ ap (λ b. b && here) (sym w.if-self.true)
      | else-self w ↦ w.self-is ∙ w.if-self.false ∙ ap (λ b. b && here) (sym w.if-self.false)
    ] in
    byte_agrees (now (g.D.Disk.trail c.args.disk.now)).reads (now (g.D.Disk.trail c.next_of.new.disk)).reads x
    (record { draining = c.next_of.new.draining; same = c.if-self.self }) c.args.byte c.in_ok-found.found here bytes
    (still_all _ _ (c.next_of.ensures.kept.moments honest)) c.next_of.ensures.from c.next_of.ensures.extent same
    c.is_byte-here.ensures (c.next_of.ensures.loaded honest) (c.in_ok-found.ensures.next honest) was
