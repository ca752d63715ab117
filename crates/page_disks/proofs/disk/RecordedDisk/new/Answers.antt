use Rattle.std.proofs.Common.{sym, ap, ◌∙◌}
use Rattle.sector_disk.specs.Memory.{Recorded}
use Rattle.page_disks.specs.Spelling.{spelling_of_calls}
use Rattle.page_disks.proofs.Spellings.{none, ends_at}
use Rattle.page_disks.proofs.disk.RecordedDisk.new.Goals as goal

pub invariant_of-result : goal.invariant_of-result
invariant_of-result c = (
  ends_at c.in_ok-disk.disk.calls c.new-2.result.items c.new-2.ensures,
  c.new-3.ensures.items ∙ sym none ∙ sym (ap spelling_of_calls c.new-2.ensures),
  λ _. ap (λ (m : Recorded). m.calls) c.in_ok-disk.ensures ∙ sym c.new-2.ensures,
)
