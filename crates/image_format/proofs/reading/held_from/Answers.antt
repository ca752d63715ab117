use Rattle.std.proofs.Common.{refl, ◌∙◌}
use Rattle.std.proofs.lemmas.Result.{err_from_is_err_and}
use Rattle.image_format.specs.Steps.{held_at}
use Rattle.image_format.proofs.ReadLast.{without_deleted}
use Rattle.image_format.proofs.reading.held_from.Goals as goal

pub returns-clause-reads : goal.returns-clause-reads
unfolding held_at
returns-clause-reads g c =
    let through = g.met.S.ByteSource.ground_through in
    let texts = c.in_ok-texts.ensures.reads in
    let files = rw c.in_ok-texts.ensures.left at c.in_ok-files.ensures.reads in
    let copied = rw (c.in_ok-files.ensures.left, c.in_ok-texts.ensures.left) at c.in_ok-copied.ensures.reads in
    let deleted = rw (c.in_ok-copied.ensures.left, c.in_ok-files.ensures.left, c.in_ok-texts.ensures.left) at
    c.in_ok-deleted.ensures.reads in
    record {
      gives = λ h.
          let h1 = texts.only.still h in
          let h2 = files.only.still h1 in
          rw (texts.gives h, files.gives h1, copied.gives h2, deleted.gives (copied.only.still h2)) refl;
      only = record {
        still = λ h. deleted.only.still (copied.only.still (files.only.still (texts.only.still h)));
        stands = through _ _ _ (through _ _ _ texts.only.stands files.only.stands)
            (through _ _ _ copied.only.stands deleted.only.stands);
      };
      faults = record {
        rose = λ is. absurd cc;
        calm = λ not. deleted.faults.calm (λ is. absurd cc) ∙ copied.faults.calm (λ is. absurd cc)
            ∙ files.faults.calm (λ is. absurd cc) ∙ texts.faults.calm (λ is. absurd cc);
        errors = tt;
      };
    }

pub returns-in_err-deleted-clause-reads : goal.returns-in_err-deleted-clause-reads
returns-in_err-deleted-clause-reads g c =
    let p = err_from_is_err_and c.from_residual-in_err-deleted.result c.from_residual-in_err-deleted.ensures.1 in
    let files = rw c.in_ok-texts.ensures.left at c.in_ok-files.ensures.reads in
    let copied = rw (c.in_ok-files.ensures.left, c.in_ok-texts.ensures.left) at c.in_ok-copied.ensures.reads in
    let deleted = rw (c.in_ok-copied.ensures.left, c.in_ok-files.ensures.left, c.in_ok-texts.ensures.left) at
    c.in_err-deleted.ensures.reads in
    rw (p.1, p.2) (without_deleted _ g.met.S.ByteSource.ground_through c.args.written c.in_ok-texts.ensures.reads files
    copied deleted)
