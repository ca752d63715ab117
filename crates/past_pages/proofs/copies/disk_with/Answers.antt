use Rattle.std.proofs.Common.{◌≡◌, ◌∙◌, subst, sym}
use Rattle.sector_disk.specs.Trail.{now}
use Rattle.sector_disk.specs.Memory.{trail_of}
use Rattle.sector_disk.specs.contracts.memory.MemoryDiskDisk.TheImpl as impl
use Rattle.sector_disk.proofs.Touching.{read_is_an_image}
use Rattle.past_pages.specs.Marks.{IsShownOn}
use Rattle.past_pages.proofs.copies.disk_with.Goals as goal

pub returns-in-Ok : goal.returns-in-Ok
returns-in-Ok c =
    let ok = c.in-Ok.ensures.ok in
    let m = now (trail_of c.turn_behind.new.self.disk.calls) in
    let found = ok.durable tt m.reads (read_is_an_image m) in
    subst (IsShownOn impl.ghosts c.args.to.desktop) (sym c.close.ensures) (record {
      honest = tt;
      large = found.stands.large;
      means = (found.standing, found.stands, found.is ∙ ok.desktop tt);
    })
