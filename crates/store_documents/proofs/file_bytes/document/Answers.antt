use Rattle.std.proofs.Common.{rules}
use Rattle.store_documents.proofs.Texts.{none_strange, plain_text}
use Rattle.store_documents.proofs.file_bytes.document.Goals as goal

pub returns-in-None-clause-plain : goal.returns-in-None-clause-plain
returns-in-None-clause-plain c =
    let plain = plain_text 0 c.args.file.now (none_strange c.args.file.now (search rules)) in search rules
