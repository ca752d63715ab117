use Rattle.std.proofs.Common.{◌∙◌, refl, sym}
use Rattle.std.proofs.lemmas.Result.{IfErr-weaker, on_ok_weaker}
use Rattle.terminal_sittings.specs.Serving.{anew, still}
use Rattle.terminal_sittings.proofs.Seen.{looks_same}
use Rattle.desk_sitting.proofs.Looked.{unlooked}
use Rattle.terminal_sittings.proofs.Turning.{unused}
use Rattle.terminal_sittings.proofs.serving.show_if_due.Goals as goal

pub returns-then-is_scene_due-clause-shown : goal.returns-then-is_scene_due-clause-shown
returns-then-is_scene_due-clause-shown g c = on_ok_weaker c.show.result (λ both honest.
    ((both honest).0, anew (sym c.is_scene_due.ensures ∙ c.if-is_scene_due.true) (both honest).1)) c.show.ensures.shown

pub returns-then-is_scene_due-clause-unshown : goal.returns-then-is_scene_due-clause-unshown
returns-then-is_scene_due-clause-unshown g c = IfErr-weaker c.show.result _ _ (λ end why.
    (sym c.is_scene_due.ensures ∙ c.if-is_scene_due.true, why)) c.show.ensures.unshown

pub returns-else-is_scene_due-clause-looks : goal.returns-else-is_scene_due-clause-looks
returns-else-is_scene_due-clause-looks g c = λ honest durable. unlooked g.D.Disk c.args.store.now c.requires durable

pub returns-else-is_scene_due-clause-shown : goal.returns-else-is_scene_due-clause-shown
returns-else-is_scene_due-clause-shown g c = λ honest.
    let none = sym c.is_scene_due.ensures ∙ c.if-is_scene_due.false in
    (sym (looks_same _ c.args.sitting.now none), still none refl refl refl refl)

pub returns-else-is_scene_due-clause-store : goal.returns-else-is_scene_due-clause-store
returns-else-is_scene_due-clause-store g c = unused g.D.Disk c.args.store.now c.requires
