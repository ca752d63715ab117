use Rattle.std.proofs.Common.{◌≡◌, ◌∙◌, None, refl, sym}
use Rattle.desk_page.specs.Calls.{no_page}
use Rattle.page_disks.specs.contracts.disk.RecordedDiskDisk.TheImpl.{ghosts}
use Rattle.desk_page.proofs.Keeping.{is_pressed, not_pressed}
use Rattle.desk_page.proofs.kept.Kept.press.Goals as goal

pub returns-in_default-clause-answers : goal.returns-in_default-clause-answers
returns-in_default-clause-answers c =
    let gone : c.args.self.now.desk ≡ None = sym c.take.ensures.value ∙ c.in_default.is in
    no_page gone (record {
      desk = c.take.ensures.after ∙ sym gone;
      text = refl;
      untold = record { calls = c.clear.ensures.items; drawing = refl; line = refl; rings = refl };
    })

pub returns-in-Ok-clause-answers : goal.returns-in-Ok-clause-answers
returns-in-Ok-clause-answers c =
    is_pressed ghosts c.args.bytes.now c.in-Some.desk c.in-Ok.desk c.in-Ok.scene c.args.self.now c.keep.new.self
    c.keep.result (sym c.take.ensures.value ∙ c.in-Some.is) c.in-Ok.ensures.done c.keep.ensures.desk c.keep.ensures.scene
    c.keep.ensures.text c.keep.ensures.done

pub returns-in-Err-clause-answers : goal.returns-in-Err-clause-answers
returns-in-Err-clause-answers c =
    not_pressed ghosts c.args.bytes.now c.in-Some.desk c.args.self.now _ c.in-Err.error c.status_of.result
    (sym c.take.ensures.value ∙ c.in-Some.is) c.in-Err.ensures.failed
    (record {
      desk = c.take.ensures.after;
      text = refl;
      untold = record { calls = c.clear.ensures.items; drawing = refl; line = refl; rings = refl };
    })
    c.status_of.ensures.status
