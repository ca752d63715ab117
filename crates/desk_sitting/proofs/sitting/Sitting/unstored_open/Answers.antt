use Rattle.std.proofs.Common.{◌∙◌, ap, Bool, Some, None}
use Rattle.std.specs.Prelude.{if◌then◌else◌}
use Rattle.std.proofs.lemmas.Result.{err_from_is_err_and}
use Rattle.status_line.specs.declared.question.Question.TheVariants.{Reopening}
use Rattle.desk_sitting.proofs.Found.{found_look, found_unseen}
use Rattle.desk_sitting.proofs.sitting.Sitting.unstored_open.Goals as goal

pub returns-in_err-found : goal.returns-in_err-found
returns-in_err-found g c =
    let p = err_from_is_err_and c.from_residual.result c.from_residual.ensures.1 in
    rw (p.1, p.2) (found_unseen g.D.Disk _ c.in_err-found.field-0.0 c.args.self.now c.args.store.now c.names_unstored.new.store
    c.requires c.in_err-found.ensures.looks)

pub returns : goal.returns
returns g c = found_look g.D.Disk _ c.in_ok-found.found c.reopening_if.result c.args.self.now c.args.store.now
    c.names_unstored.new.store c.requires c.in_ok-found.ensures.looks
    (λ honest. c.reopening_if.ensures
    ∙ ap (λ (b : Bool). if b then Some (Reopening c.args.at.0 c.args.at.1) else None) (c.in_ok-found.ensures.told honest))
