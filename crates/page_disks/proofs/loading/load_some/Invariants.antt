use Rattle.std.proofs.Common.{◌≡◌}
use Rattle.sector_disk.specs.Trail.{now}
use Rattle.page_disks.specs.Loading.{ReadsWith}
use Rattle.page_disks.specs.Recording.{trail_since}
use Rattle.page_disks.proofs.loading.load_some.Given as goal

abbrev pub invariant-loop-n : goal.invariant-loop-n
invariant-loop-n l = (l.disk.size ≡ l.fn.disk.size)
    × ReadsWith l.bytes l.first l.n (now (trail_since l.fn.disk)).reads (now (trail_since l.disk)).reads
