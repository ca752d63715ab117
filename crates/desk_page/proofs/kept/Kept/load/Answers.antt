use Rattle.std.proofs.Common.{refl, subst}
use Rattle.desk_page.specs.Calls.{loads, starves}
use Rattle.page_disks.specs.Loading.{HasLoaded, disk_to_load}
use Rattle.desk_page.proofs.kept.Kept.load.Goals as goal

pub returns-in-Ok-clause-answers : goal.returns-in-Ok-clause-answers
returns-in-Ok-clause-answers c =
    loads c.in-Ok.disk
    (subst (λ l. HasLoaded c.args.bytes.now c.args.first (disk_to_load l) c.in-Ok.disk) c.take.ensures.value c.in-Ok.ensures)
    refl
    (record {
      desk = refl;
      text = refl;
      untold = record { calls = c.clear.ensures.items; drawing = refl; line = refl; rings = refl };
    })

pub returns-in-Err-clause-answers : goal.returns-in-Err-clause-answers
returns-in-Err-clause-answers c = starves c.take.ensures.after (record {
  desk = refl;
  text = refl;
  untold = record { calls = c.clear.ensures.items; drawing = refl; line = refl; rings = refl };
})
