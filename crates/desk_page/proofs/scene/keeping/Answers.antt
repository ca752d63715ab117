use Rattle.std.proofs.Common.{inl, refl}
use Rattle.std.proofs.lemmas.Result.{err_from_is_err_and}
use Rattle.page_disks.specs.contracts.disk.RecordedDiskDisk.TheImpl.{ghosts}
use Rattle.desk_page.proofs.Begun.{of_memory_alone}
use Rattle.desk_page.proofs.scene.keeping.Goals as goal

pub returns-clause-kept : goal.returns-clause-kept
returns-clause-kept c = inl (record {
  any_moment = c.go_on.ensures.any_moment;
  none_forgotten = c.go_on.ensures.none_forgotten;
  came_of = c.in_ok-_outset._outset;
  due = c.in_ok-_outset.ensures.due tt;
  comes = c.in_ok-_outset.ensures.comes;
  others = c.go_on.ensures.others;
  sitting = refl;
  parser = refl;
  usable = c.in_ok-_outset.ensures.usable;
})
