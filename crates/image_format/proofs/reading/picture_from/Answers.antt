use Rattle.std.proofs.Common.{refl}
use Rattle.std.proofs.lemmas.Result.{err_from_is_err_and}
use Rattle.image_format.proofs.Sections.{without_viewers, without_shown, with_all}
use Rattle.image_format.proofs.reading.picture_from.Goals as goal

pub returns-in_err-viewers-clause-reads : goal.returns-in_err-viewers-clause-reads
returns-in_err-viewers-clause-reads g c =
    let p = err_from_is_err_and c.from_residual-in_err-viewers.result c.from_residual-in_err-viewers.ensures.1 in
    rw (p.1, p.2) (without_viewers g.met.S.ByteSource.ground_through _ c.args.written c.in_ok-front.ensures.reads
    c.in_ok-held.ensures.reads c.in_err-viewers.ensures.reads)

pub returns-in_err-shown-clause-reads : goal.returns-in_err-shown-clause-reads
returns-in_err-shown-clause-reads g c =
    let p = err_from_is_err_and c.from_residual-in_err-shown.result c.from_residual-in_err-shown.ensures.1 in
    rw (p.1, p.2) (without_shown g.met.S.ByteSource.ground_through _ c.args.written c.in_ok-front.ensures.reads
    c.in_ok-held.ensures.reads c.in_ok-viewers.ensures.reads c.in_err-shown.ensures.reads)

pub returns-clause-reads : goal.returns-clause-reads
returns-clause-reads g c = with_all g.met.S.ByteSource.ground_through _ c.args.written c.in_ok-front.ensures.reads
    c.in_ok-held.ensures.reads c.in_ok-viewers.ensures.reads _ c.in_ok-shown.ensures.reads (λ after. refl)
