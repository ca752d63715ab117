use Rattle.std.proofs.Common.{◌≡◌, ap, Result, Err}
use Rattle.std.proofs.lemmas.Result.{err_from_is_err_and}
use Rattle.command_table.specs.Versions.{version_number}
use Rattle.desk_core.specs.declared.desk.Desk.{Desk}
use Rattle.image_format.specs.declared.fault.ImageFault.{ImageFault}
use Rattle.image_format.specs.declared.fault.ImageFault.TheVariants.{Damaged}
use Rattle.image_format.specs.Pictures.{pictured}
use Rattle.event_loop.proofs.ImageRead.{is_spelled, none_read, none_made}
use Rattle.event_loop.proofs.desktop.Desktop.from_image.Goals as goal

pub assemble-requires : goal.assemble-requires
assemble-requires g c = (version_number c.args.version, c.in_ok-picture.ensures.fits)

pub returns-in_err-picture-clause-damaged : goal.returns-in_err-picture-clause-damaged
returns-in_err-picture-clause-damaged g c =
    let p = err_from_is_err_and c.from_residual.result c.from_residual.ensures.1 in
    rw (p.1, p.2) (λ is honest.
    let same : c.in_err-picture.field-0.0 ≡ Damaged = cc is in
    none_read (version_number c.args.version) c.args.written (g.S.ByteSource.remaining c.args.source.now)
    c.ranges.written.fits c.images_are_read.ensures c.desktops_fit.ensures pictured c.in_err-picture.field-0.0
    (g.S.ByteSource.remaining c.read_picture.new.source) same (c.in_err-picture.ensures.reads.gives honest))

pub returns-in_err-desk-clause-damaged : goal.returns-in_err-desk-clause-damaged
returns-in_err-desk-clause-damaged g c =
    let p = err_from_is_err_and c.from_residual-in_err-desk.result c.from_residual-in_err-desk.ensures.1 in
    rw (p.1, p.2) (λ is honest.
    let same : c.in_err-desk.field-0.0 ≡ Damaged = cc is in
    none_made (version_number c.args.version) c.args.written (g.S.ByteSource.remaining c.args.source.now)
    c.ranges.written.fits c.images_are_read.ensures c.desktops_fit.ensures (pictured c.in_ok-picture.picture)
    (g.S.ByteSource.remaining c.read_picture.new.source) (c.in_ok-picture.ensures.reads.gives honest)
    (c.in_err-desk.ensures.damaged
    (ap (λ (e : ImageFault). (let r : Result Desk ImageFault = Err e in r)) same)))

pub returns-clause-spelled : goal.returns-clause-spelled
returns-clause-spelled g c = λ honest.
    let version = version_number c.args.version in
    is_spelled version c.args.written (g.S.ByteSource.remaining c.args.source.now) c.ranges.written.fits
    c.images_are_read.ensures (pictured c.in_ok-picture.picture) (g.S.ByteSource.remaining c.read_picture.new.source) _
    (c.in_ok-picture.ensures.reads.gives honest) c.in_ok-desk.ensures.made
    (c.in_ok-desk.ensures.parts version c.in_ok-picture.ensures.fits)
