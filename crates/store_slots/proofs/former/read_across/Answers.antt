use Rattle.std.proofs.Common.{◌++◌, ◌∙◌, ap, subst, sym}
use Rattle.std.proofs.lemmas.Result.{err_from_is_err_and}
use Rattle.sector_disk.proofs.Touching.{still_all}
use Rattle.store_slots.specs.Beside.{HasEvents}
use Rattle.store_slots.proofs.former.read_across.Goals as goal

pub returns-in_err-later-clause-damaged : goal.returns-in_err-later-clause-damaged
returns-in_err-later-clause-damaged g c =
    let p = err_from_is_err_and c.from_residual-in_err-later.result c.from_residual-in_err-later.ensures.1 in
    λ n bad honest first later has more.
    let run = c.read_events.ensures.kept in
    c.in_err-later.ensures.damaged n (cc (p.1, p.2, bad)) (run.still honest) later
    (subst (λ r. HasEvents r c.args.slot c.args.end later) (sym (still_all _ _ (run.moments honest))) more)

pub returns-clause-others : goal.returns-clause-others
returns-clause-others g c = λ honest first later has more.
    let run = c.read_events.ensures.kept in
    let one = c.in_ok-first.ensures.others honest first has in
    let two = c.in_ok-later.ensures.others (run.still honest) later
    (subst (λ r. HasEvents r c.args.slot c.args.end later) (sym (still_all _ _ (run.moments honest))) more) in
    ap (λ l. l ++ later) one ∙ ap (λ l. c.in_ok-first.first.items ++ l) two ∙ sym c.in_ok-joined.ensures
