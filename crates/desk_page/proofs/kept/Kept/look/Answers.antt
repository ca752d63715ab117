use Rattle.std.proofs.Common.{◌≡◌, ◌∙◌, None, refl, subst, sym}
use Rattle.desk_page.specs.Calls.{no_desk}
use Rattle.desk_page.specs.Looks.{LooksAtPast}
use Rattle.desk_page.specs.Turns.{IsWithheld}
use Rattle.desk_page.specs.declared.kept.Kept.{Kept}
use Rattle.page_disks.specs.contracts.disk.RecordedDiskDisk.TheImpl.{ghosts}
use Rattle.desk_page.proofs.Keeping.{is_looked, look_tells_none, not_looked, tells_none}
use Rattle.desk_page.proofs.kept.Kept.look.Goals as goal

pub returns-in_default-clause-answers : goal.returns-in_default-clause-answers
returns-in_default-clause-answers c =
    let gone : c.args.self.now.desk ≡ None = sym c.take.ensures.value ∙ c.in_default.is in
    no_desk gone (record {
      desk = c.take.ensures.after ∙ sym gone;
      text = refl;
      untold = record { calls = c.clear.ensures.items; drawing = refl; line = refl; rings = refl };
    })

pub returns-in-Ok-clause-answers : goal.returns-in-Ok-clause-answers
returns-in-Ok-clause-answers c =
    is_looked ghosts c.in-Some.desk c.in-Ok.desk c.in-Ok.scene c.args.self.now c.keep_or_leave.new.self
    c.keep_or_leave.result (sym c.take.ensures.value ∙ c.in-Some.is)
    (subst (λ p. LooksAtPast ghosts p c.in-Ok.desk c.in-Ok.scene) c.page.ensures c.in-Ok.ensures.looks)
    c.keep_or_leave.ensures.desk c.keep_or_leave.ensures.text c.keep_or_leave.ensures.handed
    (λ is. (
      tells_none c.args.self.now c.keep_or_leave.new.self _ (c.keep_or_leave.ensures.left is).0
          c.clear.ensures.items refl refl refl,
      (c.keep_or_leave.ensures.left is).1,
    ))

pub returns-in-Err-clause-answers : goal.returns-in-Err-clause-answers
returns-in-Err-clause-answers c =
    not_looked ghosts c.in-Some.desk c.args.self.now _ c.in-Err.error c.status_of.result
    (sym c.take.ensures.value ∙ c.in-Some.is)
    (subst (λ p. IsWithheld p c.in-Err.error) c.page.ensures c.in-Err.ensures.withheld)
    (record {
      desk = c.take.ensures.after;
      text = refl;
      untold = record { calls = c.clear.ensures.items; drawing = refl; line = refl; rings = refl };
    })
    c.status_of.ensures.status

pub returns-in-Ok-clause-untold : goal.returns-in-Ok-clause-untold
returns-in-Ok-clause-untold c =
    let cleared : Kept = record c.args.self.now { scene = record c.args.self.now.scene { calls = c.clear.new.self } } in
    look_tells_none ghosts c.page.result c.in-Ok.desk c.in-Ok.scene cleared c.keep_or_leave.new.self
    c.keep_or_leave.result c.in-Ok.ensures.looks c.clear.ensures.items c.keep_or_leave.ensures.handed
    c.keep_or_leave.ensures.left
