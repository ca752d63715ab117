use Rattle.std.proofs.Common.{◌∙◌, sym}
use Rattle.std.proofs.lemmas.Result.{on_ok_weaker}
use Rattle.terminal_sittings.proofs.Due.{due, not_due}
use Rattle.desk_sitting.proofs.Marks.{looks_none}
use Rattle.terminal_sittings.proofs.telling.mark_if_due.Goals as goal

pub returns-then-not-is_scene_due-clause-marked : goal.returns-then-not-is_scene_due-clause-marked
returns-then-not-is_scene_due-clause-marked g c = λ honest. not_due c.args.store.now.desktop c.args.sitting.now
    (sym c.is_scene_due.ensures ∙ c.if-not-is_scene_due.true)

pub returns-then-not-is_scene_due-clause-looks : goal.returns-then-not-is_scene_due-clause-looks
returns-then-not-is_scene_due-clause-looks g c = looks_none g.D.Disk tt c.args.store.now c.requires

pub returns-clause-marked : goal.returns-clause-marked
returns-clause-marked g c = on_ok_weaker c.mark.result (λ marked honest. marked honest
    ∙ due c.args.store.now.desktop c.args.sitting.now (sym c.is_scene_due.ensures ∙ c.if-not-is_scene_due.false))
    c.mark.ensures.marked
