use Rattle.std.proofs.Common.{◌∙◌, refl, subst}
use Rattle.page_disks.specs.contracts.disk.RecordedDiskDisk.TheImpl.{ghosts}
use Rattle.desk_page.specs.Turns.{Begins, IsNotBegun}
use Rattle.desk_page.proofs.Begun.{begun_usable}
use Rattle.desk_page.proofs.Keeping.{is_begun, not_begun, not_handed}
use Rattle.desk_page.proofs.kept.Kept.begin.Goals as goal

pub returns-in-Err-clause-answers : goal.returns-in-Err-clause-answers
returns-in-Err-clause-answers c =
    not_begun ghosts c.args.past c.args.self.now _ c.in-Err.error c.status_of.result
    (subst (λ l. IsNotBegun ghosts l c.in-Err.error) c.take.ensures.value c.in-Err.ensures.refused) c.take.ensures.after
    (record {
      desk = refl;
      text = refl;
      untold = record { calls = c.clear.ensures.items; drawing = refl; line = refl; rings = refl };
    })
    c.status_of.ensures.status

pub returns-in-Ok-settled-clause-answers : goal.returns-in-Ok-settled-clause-answers
returns-in-Ok-settled-clause-answers c =
    is_begun ghosts c.args.past c.in-Ok.page c.in-Ok-settled.page c.in-Ok-settled.scene c.args.self.now
    c.keep.new.self c.keep.result
    (subst (λ l. Begins ghosts c.args.past l c.in-Ok.page) c.take.ensures.value c.in-Ok.ensures.begun)
    c.in-Ok-settled.ensures.handed c.keep.ensures.desk (c.keep.ensures.loaded ∙ c.take.ensures.after)
    c.keep.ensures.scene c.keep.ensures.text c.keep.ensures.done

pub returns-in-Err-settled-clause-answers : goal.returns-in-Err-settled-clause-answers
returns-in-Err-settled-clause-answers c =
    not_begun ghosts c.args.past c.args.self.now _ c.in-Err-settled.error c.status_of-in-Err-settled.result
    (not_handed ghosts c.args.self.now.loaded c.in-Ok.page c.in-Err-settled.error
    (begun_usable ghosts c.args.past c.take.result c.in-Ok.page c.in-Ok.ensures.begun) c.in-Err-settled.ensures.withheld)
    c.take.ensures.after
    (record {
      desk = refl;
      text = refl;
      untold = record { calls = c.clear.ensures.items; drawing = refl; line = refl; rings = refl };
    })
    c.status_of-in-Err-settled.ensures.status
