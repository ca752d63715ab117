use Rattle.std.proofs.Common.{refl}
use Rattle.past_pages.proofs.StillReads.{still_none}
use Rattle.page_disks.specs.contracts.disk.RecordedDiskDisk.TheImpl.{ghosts}
use Rattle.past_looks.specs.declared.looker.Doing.TheVariants.{Stays}
use Rattle.desk_page.specs.declared.looks.Looking.{Looking}
use Rattle.desk_page.proofs.Looked.{comes_behind}
use Rattle.desk_page.proofs.looks.Looking.take.Goals as goal

pub loop-one-init : goal.loop-one-init
loop-one-init c = record {
  looks = (record { read = still_none ghosts _ c.requires; sitting = refl; parser = refl }, refl, λ is. is);
  usable = c.requires;
}

pub loop-one-preserved : goal.loop-one-preserved
loop-one-preserved c =
    let mid : Looking = record c.loop-one.self { parser = c.take-presses.new.self } in record {
      looks = comes_behind ghosts Stays c.args.self.now mid c.press_each.new.self c.loop-one.invariant.looks
          (rw c.in-Stays.is at c.in_ok-doing.ensures.does);
      usable = c.in_ok-doing.ensures.usable;
    }

pub returns-in_default-clause-does : goal.returns-in_default-clause-does
returns-in_default-clause-does c =
    let mid : Looking = record c.loop-one.self { parser = c.take-presses.new.self } in
    comes_behind ghosts c.in_ok-doing.doing c.args.self.now mid c.press_each.new.self c.loop-one.invariant.looks
    c.in_ok-doing.ensures.does
