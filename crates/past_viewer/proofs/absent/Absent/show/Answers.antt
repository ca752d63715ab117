use Rattle.std.proofs.Common.{◌∙◌, ap, refl, sym}
use Rattle.std.proofs.lemmas.Result.{err_from_is_err_and}
use Rattle.desktop_definitions.specs.Shown.{shown_screen}
use Rattle.desk_past.proofs.Looks.{only_read}
use Rattle.past_viewer.proofs.Ending.{of_store, output_calm, output_rose}
use Rattle.past_viewer.proofs.Showing.{none_shown}
use Rattle.past_viewer.proofs.absent.Absent.show.Goals as goal

pub returns-in_err-screen-clause-still : goal.returns-in_err-screen-clause-still
returns-in_err-screen-clause-still g c =
    only_read g.D.Disk c.screen.result c.args.store.now c.screen.new.self c.requires c.screen.ensures.looks

pub returns-in_err-screen-clause-output : goal.returns-in_err-screen-clause-output
returns-in_err-screen-clause-output g c =
    let p = err_from_is_err_and c.from_residual.result c.from_residual.ensures.1 in
    rw (p.1, p.2) (output_calm _ _ _ (of_store c.in_err-screen.field-0.0).1 refl)

pub returns-in_err-screen-clause-cause : goal.returns-in_err-screen-clause-cause
returns-in_err-screen-clause-cause g c =
    let p = err_from_is_err_and c.from_residual.result c.from_residual.ensures.1 in
    rw (p.1, p.2) (of_store c.in_err-screen.field-0.0).0

pub returns-in_err-show-clause-still : goal.returns-in_err-show-clause-still
returns-in_err-show-clause-still g c =
    only_read g.D.Disk c.screen.result c.args.store.now c.screen.new.self c.requires c.screen.ensures.looks

pub returns-in_err-show-clause-output : goal.returns-in_err-show-clause-output
returns-in_err-show-clause-output g c =
    let p = err_from_is_err_and c.from_residual-in_err-show.result c.from_residual-in_err-show.ensures.1 in
    rw (p.1, p.2) (output_rose _ _ _ refl c.in_err-show.ensures.cause)

pub returns-in_err-show-clause-cause : goal.returns-in_err-show-clause-cause
returns-in_err-show-clause-cause g c =
    let p = err_from_is_err_and c.from_residual-in_err-show.result c.from_residual-in_err-show.ensures.1 in
    rw (p.1, p.2) tt

pub returns-clause-still : goal.returns-clause-still
returns-clause-still g c =
    only_read g.D.Disk c.screen.result c.args.store.now c.screen.new.self c.requires c.screen.ensures.looks

pub returns-clause-scenes : goal.returns-clause-scenes
returns-clause-scenes g c = none_shown g.D.Disk _ _ _ _ _ _ (λ honest.
    let before = c.screen.ensures.looks.disk.device.already honest in
    c.in_ok-screen.ensures.shown before ∙ ap shown_screen (sym (c.screen.ensures.looks.desktop before)))
    refl c.in_ok-show.ensures.shown
