use Rattle.std.proofs.Common.{refl}
use Rattle.std.proofs.lemmas.Result.{err_from_is_err_and}
use Rattle.image_format.proofs.ReadLast.{to_the_end, not_to_the_end}
use Rattle.image_format.proofs.reading.read_picture.Goals as goal

pub returns : goal.returns
returns g c = record {
  reads = to_the_end g.met.S.ByteSource.ground_through _ c.args.written c.in_ok-picture.ensures.reads (λ y. refl)
      c.in_ok-end_from.ensures.reads;
  fits = c.in_ok-picture.ensures.fits;
}

pub returns-in_err-end_from : goal.returns-in_err-end_from
returns-in_err-end_from g c =
    let p = err_from_is_err_and c.from_residual-in_err-end_from.result c.from_residual-in_err-end_from.ensures.1 in
    record {
      reads = rw (p.1, p.2) (not_to_the_end g.met.S.ByteSource.ground_through _ c.args.written
          c.in_ok-picture.ensures.reads c.in_err-end_from.ensures.reads);
      fits = rw p.1 tt;
    }
