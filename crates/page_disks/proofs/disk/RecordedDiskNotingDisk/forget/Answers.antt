use Rattle.std.proofs.Common.{sym, ap, ◌∙◌}
use Rattle.std.proofs.lemmas.Bool.{true≢false}
use Rattle.page_disks.specs.Spelling.{spelling_of_calls}
use Rattle.page_disks.proofs.Spellings.{none, ends_at}
use Rattle.page_disks.proofs.disk.RecordedDiskNotingDisk.forget.Goals as goal

pub invariant_of-self : goal.invariant_of-self
invariant_of-self c = (
  ends_at c.self.inside.disk.calls c.new-self-inside.result.items c.new-self-inside.ensures,
  c.clear.ensures.items ∙ sym none ∙ sym (ap spelling_of_calls c.new-self-inside.ensures),
  λ wrong. absurd (true≢false (sym wrong)),
)
