use Rattle.std.proofs.lemmas.Result.{IfOk-weaker}
use Rattle.store_slots.proofs.Spelled.{events_up_to}
use Rattle.store_slots.proofs.Formers.{only_stops}
use Rattle.store_slots.proofs.bodies.read_journal.Goals as goal

pub returns-clause-bytes : goal.returns-clause-bytes
returns-clause-bytes g c = IfOk-weaker c.read_bodies.result _ _ (λ bytes are honest s at.
    are honest s.events (events_up_to at)) c.read_bodies.ensures.bytes

pub returns-clause-stops : goal.returns-clause-stops
returns-clause-stops g c = λ honest s at.
    only_stops c.read_bodies.result c.read_bodies.ensures.faults.errors (λ n bad.
    c.read_bodies.ensures.damaged n bad honest s.events (events_up_to at))
