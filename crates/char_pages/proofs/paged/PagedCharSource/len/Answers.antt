use Rattle.std.proofs.Common.{sym, ◌∙◌}
use Rattle.char_pages.proofs.Paging.{length-paged}
use Rattle.char_pages.proofs.paged.PagedCharSource.len.Goals as goal

pub returns-clause-count : goal.returns-clause-count
returns-clause-count g c = c.len.ensures.count ∙ sym (length-paged _ _ _ _)
