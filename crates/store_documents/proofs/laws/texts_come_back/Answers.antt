use Rattle.std.proofs.Common.{refl}
use Rattle.store_documents.proofs.Texts.{exported_back, imported_back, printable_same, printable_plain}
use Rattle.store_documents.proofs.laws.texts_come_back.Goals as goal

pub returns-clause-document : goal.returns-clause-document
returns-clause-document c text are = exported_back 0 text refl are

pub returns-clause-file : goal.returns-clause-file
returns-clause-file c file are = imported_back 0 file refl are

pub returns-clause-same : goal.returns-clause-same
returns-clause-same c text are = printable_same text are

pub returns-clause-plain : goal.returns-clause-plain
returns-clause-plain c text = printable_plain text
