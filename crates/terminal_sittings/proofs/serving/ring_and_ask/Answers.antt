use Rattle.byte_streams.proofs.Taking.{first_front, front_sent, second_front}
use Rattle.terminal_sittings.specs.Scenes.{bell_bytes, request}
use Rattle.terminal_sittings.proofs.serving.ring_and_ask.Goals as goal

pub returns-in_err-ring_if-clause-sent : goal.returns-in_err-ring_if-clause-sent
returns-in_err-ring_if-clause-sent g c = front_sent c.from_residual.result _ _ _ _ c.from_residual.ensures.1
    (first_front _ _ (bell_bytes c.args.rings) (request c.args.asks) c.in_err-ring_if.ensures.sent.front)

pub returns-in_err-ask_if-clause-sent : goal.returns-in_err-ask_if-clause-sent
returns-in_err-ask_if-clause-sent g c =
    front_sent c.from_residual-in_err-ask_if.result _ _ _ _ c.from_residual-in_err-ask_if.ensures.1
    (second_front _ _ _ (bell_bytes c.args.rings) (request c.args.asks) c.in_ok-ring_if.ensures.sent.sent
    c.in_err-ask_if.ensures.sent.front)
