use Rattle.char_pages.proofs.Paging.{paged_in_memory}
use Rattle.char_pages.proofs.paged.PagedCharSource.renew.Goals as goal

pub returns-clause-exchanged : goal.returns-clause-exchanged
returns-clause-exchanged g c = paged_in_memory _ _ _ _ _ c.renew.ensures.counted c.renew.ensures.rest
