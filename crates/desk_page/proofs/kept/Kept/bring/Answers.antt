use Rattle.std.proofs.Common.{◌≡◌, ◌∙◌, ◌++◌, [], ◌∷◌, None, Some, ap, refl, sym}
use Rattle.desk_page.specs.Calls.{declined, no_desktop}
use Rattle.page_disks.specs.contracts.disk.RecordedDiskDisk.TheImpl.{ghosts}
use Rattle.desk_page.proofs.Keeping.{are_answered, not_brought, tells_none}
use Rattle.desk_page.proofs.kept.Kept.bring.Goals as goal

pub returns-in-Err-clause-answers : goal.returns-in-Err-clause-answers
returns-in-Err-clause-answers c = declined c.in-Err.status c.in-Err.ensures.refused (record {
  desk = refl;
  text = refl;
  untold = record { calls = c.clear.ensures.items; drawing = refl; line = refl; rings = refl };
})

pub returns-in_default-clause-answers : goal.returns-in_default-clause-answers
returns-in_default-clause-answers c =
    let gone : c.args.self.now.desk ≡ None = sym c.take.ensures.value ∙ c.in_default.is in
    no_desktop gone (record {
      desk = c.take.ensures.after ∙ sym gone;
      text = refl;
      untold = record { calls = c.clear.ensures.items; drawing = refl; line = refl; rings = refl };
    })

pub returns-in-Ok-brought-clause-answers : goal.returns-in-Ok-brought-clause-answers
returns-in-Ok-brought-clause-answers c =
    let all = c.in-Ok.ensures.all in
    are_answered ghosts c.args.name.now c.args.file.now c.as_slice.result.now c.in-Ok-brought.scene c.in-Some.desk
    c.in-Ok-brought.page c.args.self.now c.keep_or_leave.new.self c.keep_or_leave.result (
      all.0,
      all.1,
      c.as_slice.ensures.value ∙ all.2
          ∙ ap (λ v. v.items ++ (c.args.name.now, all.0) ∷ []) c.replace-coming.ensures.value,
    )
    (sym c.take.ensures.value ∙ c.in-Some.is) (rw c.page.ensures at c.in-Ok-brought.ensures.done) c.keep_or_leave.ensures.desk
    c.keep_or_leave.ensures.text c.keep_or_leave.ensures.handed
    (λ is. (
      tells_none c.args.self.now c.keep_or_leave.new.self _ (c.keep_or_leave.ensures.left is).0
          c.clear.ensures.items refl refl refl,
      (c.keep_or_leave.ensures.left is).1,
    ))

pub returns-clause-answers : goal.returns-clause-answers
returns-clause-answers c =
    not_brought ghosts c.args.name.now c.args.file.now c.in-Some.desk c.args.self.now _ c.in-Err-brought.error
    c.status_of.result (sym c.take.ensures.value ∙ c.in-Some.is) (rw c.page.ensures at c.in-Err-brought.ensures.failed)
    (record {
      desk = c.take.ensures.after;
      text = refl;
      untold = record { calls = c.clear.ensures.items; drawing = refl; line = refl; rings = refl };
    })
    c.status_of.ensures.status
