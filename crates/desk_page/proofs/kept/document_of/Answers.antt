use Rattle.std.proofs.Common.{sym, subst}
use Rattle.event_bytes.specs.Bytes.{is_name}
use Rattle.desk_page.specs.Calls.{IsNoFile, misnamed, unfit_for}
use Rattle.desk_page.proofs.Keeping.{unnamed}
use Rattle.desk_page.proofs.kept.document_of.Goals as goal

pub returns-in_default-clause-refused : goal.returns-in_default-clause-refused
returns-in_default-clause-refused c =
    misnamed (unnamed c.args.name.now (is_name c.args.name.now) c.new.result c.new.ensures c.in_default.is)

pub returns-in-Err-clause-refused : goal.returns-in-Err-clause-refused
returns-in-Err-clause-refused c =
    subst (IsNoFile c.args.name.now c.args.file.now) (sym c.status_of_unfit.ensures)
    (unfit_for c.in-Err.unfit c.in-Err.ensures.why)
