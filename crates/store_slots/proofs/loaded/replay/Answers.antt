use Rattle.std.proofs.lemmas.Result.{IfOk-weaker}
use Rattle.store_slots.proofs.Loading.{all_read}
use Rattle.store_slots.proofs.loaded.replay.Goals as goal

pub returns-clause-whole : goal.returns-clause-whole
returns-clause-whole g c =
    IfOk-weaker c.replay_to.result _ _ (λ count up honest. all_read _ _ _ _ _ _ (up honest).read (up honest).ended)
    c.replay_to.ensures.read
