use Rattle.std.proofs.Common.{if◌then◌else◌, inl, inr, ◌∙◌, ap, arith}
use Rattle.std.proofs.lemmas.Bool.{cases_eq}
use Rattle.sector_disk.specs.FileTrail.{current}
use Rattle.sector_disk.specs.FileSectors.{sectors_at}
use Rattle.sector_disk.proofs.FileViews.{tests_same, tests_other}
use Rattle.sector_disk.proofs.file.FileDisk.zeroed.Goals as goal

pub loop-n-preserved : goal.loop-n-preserved
loop-n-preserved g c =
    let inv = c.loop-n.invariant in
    let n = c.loop-n.n in
    let bytes = c.empty_sector.result in
    let was = (sectors_at (current (g.F.HostFile.trail c.loop-n.self.file))).reads in
    record {
      sectors = c.write.ensures.kept.as_large ∙ inv.sectors;
      failed = c.in_ok-write.ensures.cause ∙ inv.failed;
      honest = λ h. c.write.ensures.kept.still (inv.honest h);
      zeros = λ h k low. ap (λ m. m.reads k) (c.in_ok-write.ensures.written (inv.honest h)) ∙ elim (cases_eq k n) [
        | inl same ↦ ap (λ b. if b then bytes else was k) (tests_same k n same) ∙ c.empty_sector.ensures
        | inr other ↦ ap (λ b. if b then bytes else was k) (tests_other k n other)
            ∙ inv.zeros h k (omega (arith, low, other))
      ];
    }
