use Rattle.std.proofs.Common.{◌∙◌, Err, ap, refl}
use Rattle.std.proofs.lemmas.Result.{err_from_is_err_and}
use Rattle.terminal_sittings.proofs.Turning.{unshown_ends, deaf_ends, turned, broken_ends, left_stops}
use Rattle.desk_sitting.proofs.Looked.{same_device}
use Rattle.terminal_sittings.proofs.Turning.{asked_so, calm_presses, heard_so, not_of_keyboard, of_keyboard, store_no_keyboard}
use Rattle.terminal_sittings.proofs.Turning.{keyboard_no_output, left_no_output, output_calm, store_no_output}
use Rattle.terminal_sittings.proofs.serving.turn.Goals as goal

pub returns-in_err-show_if_due-clause-turns : goal.returns-in_err-show_if_due-clause-turns
returns-in_err-show_if_due-clause-turns g c =
    let p = err_from_is_err_and c.from_residual.result c.from_residual.ensures.1 in
    let scene = c.in_err-show_if_due.ensures in
    unshown_ends g.D.Disk c.from_residual.result c.in_err-show_if_due.field-0.0 (p.1 ∙ ap (λ e. Err e) p.2) scene.looks
    scene.unshown refl refl scene.store.usable scene.counts scene.store.device

pub returns-in_err-hearing-clause-turns : goal.returns-in_err-hearing-clause-turns
returns-in_err-hearing-clause-turns g c =
    let p = err_from_is_err_and c.from_residual-in_err-hearing.result c.from_residual-in_err-hearing.ensures.1 in
    let scene = c.in_ok-show_if_due.ensures in
    deaf_ends g.D.Disk c.from_residual-in_err-hearing.result c.in_err-hearing.field-0.0 (p.1 ∙ ap (λ e. Err e) p.2)
    scene.looks (λ h. (scene.shown h).1) c.in_err-hearing.ensures.silent c.in_err-hearing.ensures.unasked
    scene.store.usable scene.counts scene.store.device

pub returns-in_err-do_presses-clause-turns : goal.returns-in_err-do_presses-clause-turns
returns-in_err-do_presses-clause-turns g c =
    let p = err_from_is_err_and c.from_residual-in_err-do_presses.result c.from_residual-in_err-do_presses.ensures.1 in
    let scene = c.in_ok-show_if_due.ensures in
    let fails = c.in_err-do_presses.ensures in
    broken_ends g.D.Disk c.show_if_due.new.store c.show_if_due.new.sitting c.as_slice.result.now scene.looks
    (λ h. (scene.shown h).0) (λ h. (scene.shown h).1)
    (heard_so (g.K.Keyboard.heard c.args.keyboard.now) c.in_ok-hearing.ensures.told c.as_slice.ensures.heard)
    c.as_slice.ensures.least
    c.from_residual-in_err-do_presses.result c.in_err-do_presses.field-0.0 (p.1 ∙ ap (λ e. Err e) p.2)
    c.in_ok-hearing.ensures.unasked fails.broke
    scene.counts fails.faults (same_device g.D.Disk _ _ _ scene.store.device c.do_presses.ensures.device)

pub returns-then-sitting-clause-turns : goal.returns-then-sitting-clause-turns
returns-then-sitting-clause-turns g c =
    let scene = c.in_ok-show_if_due.ensures in
    let done = c.in_ok-do_presses.ensures in
    record {
      goes_on = tt;
      stays = tt;
      stops = λ honest durable seen. left_stops g.D.Disk
          (turned g.D.Disk c.show_if_due.new.store c.show_if_due.new.sitting c.as_slice.result.now scene.looks
          (λ h. (scene.shown h).0) (λ h. (scene.shown h).1) (c.fetch.ensures.silent
          ∙ heard_so (g.K.Keyboard.heard c.args.keyboard.now) c.in_ok-hearing.ensures.told c.as_slice.ensures.heard)
          c.as_slice.ensures.least c.do_presses.new.sitting done.parser done.done
          (asked_so c.in_ok-hearing.ensures.unasked c.fetch.ensures.brought) honest durable seen) c.if-sitting.true;
      usable = tt;
      still_usable = λ _ _. done.usable;
      counts = calm_presses tt _ _ _ scene.counts done.faults;
      device = same_device g.D.Disk _ _ _ scene.store.device c.do_presses.ensures.device;
    }

pub returns-else-sitting-clause-turns : goal.returns-else-sitting-clause-turns
returns-else-sitting-clause-turns g c =
    let scene = c.in_ok-show_if_due.ensures in
    let done = c.in_ok-do_presses.ensures in
    record {
      goes_on = turned g.D.Disk c.show_if_due.new.store c.show_if_due.new.sitting c.as_slice.result.now scene.looks
          (λ h. (scene.shown h).0) (λ h. (scene.shown h).1) (c.fetch.ensures.silent
          ∙ heard_so (g.K.Keyboard.heard c.args.keyboard.now) c.in_ok-hearing.ensures.told c.as_slice.ensures.heard)
          c.as_slice.ensures.least c.do_presses.new.sitting done.parser done.done
          (asked_so c.in_ok-hearing.ensures.unasked c.fetch.ensures.brought);
      stays = c.if-sitting.false;
      stops = tt;
      usable = done.usable;
      still_usable = tt;
      counts = calm_presses tt _ _ _ scene.counts done.faults;
      device = same_device g.D.Disk _ _ _ scene.store.device c.do_presses.ensures.device;
    }

pub returns-in_err-show_if_due-clause-ended : goal.returns-in_err-show_if_due-clause-ended
returns-in_err-show_if_due-clause-ended g c =
    let p = err_from_is_err_and c.from_residual.result c.from_residual.ensures.1 in
    let ended = g.K.Keyboard.ended c.args.keyboard.now in
    rw (p.1, p.2) (not_of_keyboard ended c.in_err-show_if_due.field-0.0 c.in_err-show_if_due.ensures.cause)

pub returns-in_err-hearing-clause-ended : goal.returns-in_err-hearing-clause-ended
returns-in_err-hearing-clause-ended g c =
    let p = err_from_is_err_and c.from_residual-in_err-hearing.result c.from_residual-in_err-hearing.ensures.1 in
    let ended = g.K.Keyboard.ended c.hear.new.self in
    rw (p.1, p.2) (of_keyboard ended c.in_err-hearing.field-0.0 c.in_err-hearing.ensures.cause)

pub returns-in_err-do_presses-clause-ended : goal.returns-in_err-do_presses-clause-ended
returns-in_err-do_presses-clause-ended g c =
    let p = err_from_is_err_and c.from_residual-in_err-do_presses.result c.from_residual-in_err-do_presses.ensures.1 in
    let ended = g.K.Keyboard.ended c.hear.new.self in
    rw (p.1, p.2) (not_of_keyboard ended _ (store_no_keyboard c.in_err-do_presses.field-0.0))

pub returns-in_err-show_if_due-clause-output : goal.returns-in_err-show_if_due-clause-output
returns-in_err-show_if_due-clause-output g c =
    let p = err_from_is_err_and c.from_residual.result c.from_residual.ensures.1 in
    rw (p.1, p.2) c.in_err-show_if_due.ensures.output

pub returns-in_err-hearing-clause-output : goal.returns-in_err-hearing-clause-output
returns-in_err-hearing-clause-output g c =
    let p = err_from_is_err_and c.from_residual-in_err-hearing.result c.from_residual-in_err-hearing.ensures.1 in
    rw (p.1, p.2) (output_calm _ _ _ (keyboard_no_output c.in_err-hearing.field-0.0) c.in_ok-show_if_due.ensures.output)

pub returns-in_err-do_presses-clause-output : goal.returns-in_err-do_presses-clause-output
returns-in_err-do_presses-clause-output g c =
    let p = err_from_is_err_and c.from_residual-in_err-do_presses.result c.from_residual-in_err-do_presses.ensures.1 in
    rw (p.1, p.2) (output_calm _ _ _ (store_no_output c.in_err-do_presses.field-0.0) c.in_ok-show_if_due.ensures.output)

pub returns-then-sitting-clause-output : goal.returns-then-sitting-clause-output
returns-then-sitting-clause-output g c = output_calm _ _ _ left_no_output c.in_ok-show_if_due.ensures.output
