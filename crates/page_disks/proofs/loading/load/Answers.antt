use Rattle.std.proofs.Common.{◌∙◌, ◌+◌, ap, ℕ, List}
use Rattle.sector_disk.specs.Trail.{now, written}
use Rattle.page_disks.specs.Recording.{trail_since}
use Rattle.page_disks.proofs.Loaded.{is_written, sector_is}
use Rattle.page_disks.proofs.loading.load.Goals as goal

pub returns-in-Ok-clause-written : goal.returns-in-Ok-clause-written
returns-in-Ok-clause-written c =
    is_written (c.args.first + c.args.n) _ c.args.disk.now c.write-result.new.self c.forget.new.self
    c.in-Ok.ensures.recorded c.forget.ensures
    ∙ ap (λ (s : List ℕ). written (now (trail_since c.args.disk.now)) (c.args.first + c.args.n) s)
    (sector_is c.args.bytes.now _ c.args.n c.copy_from_slice.ensures.after)
