use Rattle.std.proofs.Common.{◌≡◌, false}
use Rattle.desk_page.specs.Looks.{ComesOfPresses}
use Rattle.page_disks.specs.contracts.disk.RecordedDiskDisk.TheImpl.{ghosts}
use Rattle.past_looks.specs.declared.looker.Doing.TheVariants.{Stays}
use Rattle.desk_page.proofs.looks.Looking.take.Given as goal

-- the person looks on so far
abbrev pub invariant-loop-one : goal.invariant-loop-one
invariant-loop-one l = record {
  looks : ComesOfPresses ghosts Stays l.fn.self l.self;
  usable : l.self.page.store.must_reopen ≡ false;
}
