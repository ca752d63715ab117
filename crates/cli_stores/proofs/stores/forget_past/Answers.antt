use Rattle.std.proofs.lemmas.Result.{on_ok_weaker}
use Rattle.cli_stores.proofs.NoPast.{no_past}
use Rattle.cli_stores.proofs.stores.forget_past.Goals as goal

pub returns-clause-first : goal.returns-clause-first
returns-clause-first g c = on_ok_weaker c.checkpoint-2.result (λ next honest.
    no_past g.D.Disk c.checkpoint.new.self c.checkpoint-2.new.self (c.checkpoint.ensures.behaves.device.still honest)
    c.in_ok-checkpoint.ensures.ok.durable c.in_ok-checkpoint.ensures.ok.events next) c.checkpoint-2.ensures.next
