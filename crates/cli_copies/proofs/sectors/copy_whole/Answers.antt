use Rattle.std.proofs.Common.{◌∙◌, inl, inr, ap, arith, sym}
use Rattle.sector_disk.proofs.Touching.{joined, still_all, still_reads, widened}
use Rattle.cli_copies.proofs.sectors.copy_whole.Goals as goal

pub returns-clause-sparse : goal.returns-clause-sparse
returns-clause-sparse g c =
    let d = g.D.Disk in
    let e = g.E.Disk in
    let read = c.copy.ensures.read in
    let first = c.copy.ensures.written in
    let second = c.copy_behind.ensures.sparse in
    let behind = c.if-end-le-PARTS.false in
    record {
      as_large = second.as_large ∙ first.as_large;
      still = λ h. second.still (first.still h);
      already = λ h. first.already (second.already h);
      moments = λ h. joined
          (widened (λ n within. (
            (omega (arith, within, c.min.ensures), inl (omega (arith, within, c.min.ensures))),
            inl (omega (arith, within, c.min.ensures)),
          )) (first.moments h))
          (widened (λ n within. elim within [
            | inl last ↦ ((omega (arith, last), inr (omega (arith, last, behind))), inr (inl last))
            | inr differs ↦ (
              (differs.1, inr differs.0),
              inr (inr (λ known same. differs.2 (read.still known)
                  (still_reads (e.trail c.args.to.now) (e.trail c.copy.new.to) (first.moments h) n
                  (λ out. omega (arith, out, c.min.ensures, differs.0)) ∙ same
                  ∙ sym (ap (λ r. r n)
                  (still_all (d.trail c.args.from.now) (d.trail c.copy.new.from) (read.moments known)))))),
            )
          ]) (second.moments (first.still h)));
    }
