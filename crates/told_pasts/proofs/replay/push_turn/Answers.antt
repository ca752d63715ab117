use Rattle.std.proofs.Common.{◌∙◌, ◌++◌, ◌∷◌, [], ap}
use Rattle.std.proofs.lemmas.Result.{on_ok_weaker}
use Rattle.told_pasts.proofs.replay.push_turn.Goals as goal

pub returns : goal.returns
returns c = on_ok_weaker c.push_line.result
    (λ added. added ∙ ap (λ l. c.args.lines.now.items ++ l ∷ []) c.in_ok-line.ensures.items) c.push_line.ensures
