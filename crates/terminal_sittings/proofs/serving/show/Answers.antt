use Rattle.std.proofs.Common.{◌∙◌, ap}
use Rattle.desktop_definitions.specs.Shown.{shown_screen}
use Rattle.desk_sitting.specs.Doing.{IsLookedAt}
use Rattle.desk_sitting.proofs.Looked.{looked_at, looked_on}
use Rattle.terminal_sittings.proofs.Turning.{told_shown, told_unshown}
use Rattle.terminal_sittings.proofs.serving.show.Goals as goal

pub returns-in_err-clip-clause-looks : goal.returns-in_err-clip-clause-looks
returns-in_err-clip-clause-looks g c = looked_at g.D.Disk c.tell.result _ _ c.requires c.tell.ensures.looks

pub returns-clause-looks : goal.returns-clause-looks
returns-clause-looks g c = λ honest durable.
    let first : IsLookedAt g.D.Disk c.args.store.now c.tell.new.store =
    looked_at g.D.Disk c.tell.result _ _ c.requires c.tell.ensures.looks honest durable in
    looked_on g.D.Disk _ _ _ first (c.show_with.ensures.looks (first.read.left.disk.device.still honest) first.durable)

pub returns-clause-shown : goal.returns-clause-shown
returns-clause-shown g c =
    let first = c.in_ok-clip.ensures in
    told_shown c.show_with.result first.looks.disk.device.still (λ honest. (first.sent honest).1)
    (λ honest. ap shown_screen (first.looks.desktop honest)) (λ honest. c.as_slice.ensures.value ∙ (first.sent honest).0)
    _ _ _ _ _ _ c.show_with.ensures.shown

pub returns-clause-unshown : goal.returns-clause-unshown
returns-clause-unshown g c =
    let first = c.in_ok-clip.ensures in
    told_unshown c.show_with.result first.looks.disk.device.still (λ honest. (first.sent honest).1)
    (λ honest. ap shown_screen (first.looks.desktop honest)) (λ honest. c.as_slice.ensures.value ∙ (first.sent honest).0)
    _ _ _ c.show_with.ensures.unshown
