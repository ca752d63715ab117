use Rattle.std.proofs.Common.{refl}
use Rattle.desk_page.specs.Calls.{nothing_kept}
use Rattle.desk_page.specs.Giving.{selected_text}
use Rattle.page_disks.specs.contracts.disk.RecordedDiskDisk.TheImpl.{ghosts}
use Rattle.desk_page.proofs.Keeping.{is_asked, tells_none}
use Rattle.desk_page.proofs.kept.Kept.copied.Goals as goal

pub returns-in_default-clause-answers : goal.returns-in_default-clause-answers
returns-in_default-clause-answers c = nothing_kept c.in_default.is (record {
  desk = refl;
  text = refl;
  untold = record { calls = c.clear.ensures.items; drawing = refl; line = refl; rings = refl };
})

pub returns-clause-answers : goal.returns-clause-answers
returns-clause-answers c =
    is_asked ghosts c.selected-found.result c.tell.new.self.text (λ bytes. bytes.items) selected_text c.args.self.now
    c.tell.new.self c.tell.result
    (record {
      before = c.in-Some.desk;
      was = c.in-Some.is;
      after = c.selected-found.new.self;
      looks = c.selected-found.ensures.looked;
      kept = c.tell.ensures.desk;
      untold = tells_none c.args.self.now c.tell.new.self _ c.tell.ensures.scene c.clear.ensures.items refl refl refl;
    })
    refl c.selected-found.ensures.given
    c.selected-found.ensures.errors c.tell.ensures.given c.tell.ensures.missing c.tell.ensures.failed
