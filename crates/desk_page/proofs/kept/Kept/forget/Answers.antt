use Rattle.std.proofs.Common.{◌≡◌, ◌∙◌, None, refl, subst, sym}
use Rattle.desk_page.specs.Calls.{none_kept}
use Rattle.desk_page.specs.Forgetting.{ForgetsOrNot}
use Rattle.desk_page.specs.Turns.{IsStopped}
use Rattle.page_disks.specs.contracts.disk.RecordedDiskDisk.TheImpl.{ghosts}
use Rattle.desk_page.proofs.Keeping.{is_forgotten, not_forgotten, tells_none}
use Rattle.desk_page.proofs.kept.Kept.forget.Goals as goal

pub returns-in_default-clause-answers : goal.returns-in_default-clause-answers
returns-in_default-clause-answers c =
    let gone : c.args.self.now.desk ≡ None = sym c.take.ensures.value ∙ c.in_default.is in
    none_kept gone (record {
      desk = c.take.ensures.after ∙ sym gone;
      text = refl;
      untold = record { calls = c.clear.ensures.items; drawing = refl; line = refl; rings = refl };
    })

pub returns-in-Ok-clause-answers : goal.returns-in-Ok-clause-answers
returns-in-Ok-clause-answers c =
    is_forgotten ghosts c.in-Some.desk c.in-Ok.page c.in-Ok.scene c.args.self.now c.keep_or_leave.new.self
    c.keep_or_leave.result (sym c.take.ensures.value ∙ c.in-Some.is)
    (subst (λ p. ForgetsOrNot ghosts p c.in-Ok.page c.in-Ok.scene) c.page.ensures c.in-Ok.ensures.done)
    c.keep_or_leave.ensures.desk c.keep_or_leave.ensures.text c.keep_or_leave.ensures.handed
    (λ is. (
      tells_none c.args.self.now c.keep_or_leave.new.self _ (c.keep_or_leave.ensures.left is).0
          c.clear.ensures.items refl refl refl,
      (c.keep_or_leave.ensures.left is).1,
    ))

pub returns-in-Err-clause-answers : goal.returns-in-Err-clause-answers
returns-in-Err-clause-answers c =
    not_forgotten ghosts c.in-Some.desk c.args.self.now _ c.in-Err.error c.status_of.result
    (sym c.take.ensures.value ∙ c.in-Some.is)
    (subst (λ p. IsStopped p c.in-Err.error) c.page.ensures c.in-Err.ensures.failed)
    (record {
      desk = c.take.ensures.after;
      text = refl;
      untold = record { calls = c.clear.ensures.items; drawing = refl; line = refl; rings = refl };
    })
    c.status_of.ensures.status
