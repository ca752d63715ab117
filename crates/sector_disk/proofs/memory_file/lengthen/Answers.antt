use Rattle.std.proofs.Common.{ℕ, List, ◌∙◌, ap, get_or}
use Rattle.sector_disk.proofs.FileReplay.{zero_more}
use Rattle.sector_disk.proofs.memory_file.lengthen.Goals as goal

pub loop-bytes-preserved : goal.loop-bytes-preserved
loop-bytes-preserved c = λ i. ap (λ (l : List ℕ). get_or l i 0) c.in_ok-push.ensures.items
    ∙ zero_more c.loop-bytes.bytes.items i
    ∙ c.loop-bytes.invariant i
