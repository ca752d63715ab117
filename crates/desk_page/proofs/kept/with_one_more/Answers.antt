use Rattle.std.proofs.Common.{refl}
use Rattle.store_documents.specs.declared.file_bytes.Unfit.TheVariants.{NoMemory}
use Rattle.desk_page.specs.Calls.{unfit_for}
use Rattle.desk_page.proofs.kept.with_one_more.Goals as goal

pub returns-then-is_err-clause-refused : goal.returns-then-is_err-clause-refused
returns-then-is_err-clause-refused c = unfit_for NoMemory (λ other. absurd (other refl))
