use Rattle.std.proofs.Common.{ap, sym, ◌∙◌}
use Rattle.sector_disk.specs.Trail.{Moment, now}
use Rattle.page_disks.specs.Recording.{Recording, trail_since}
use Rattle.page_disks.proofs.Recorded.{reads_all}
use Rattle.page_disks.proofs.disk.RecordedDiskDisk.read.Goals as goal

pub returns-clause-bytes : goal.returns-clause-bytes
returns-clause-bytes c =
    c.read.ensures.bytes
    ∙ ap (λ (m : Moment). m.reads c.args.n)
    (sym (reads_all c.self.inside.disk.calls c.self.inside.since.items c.self.invariant.0))
    ∙ ap (λ (v : Recording). (now (trail_since v)).reads c.args.n) c.self.view_is
