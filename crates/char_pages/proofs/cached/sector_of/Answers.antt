use Rattle.std.proofs.Common.{sym, ◌∙◌}
use Rattle.char_pages.proofs.Caching.{found_is_true, promoting_adds, putting_adds}
use Rattle.char_pages.proofs.cached.sector_of.Goals as goal

pub returns-in-Some-clause-value : goal.returns-in-Some-clause-value
returns-in-Some-clause-value g c = λ h true_of. c.copied-sector.ensures.same ∙ found_is_true true_of (sym c.in-Some.ensures)

pub returns-in-Some-clause-cached : goal.returns-in-Some-clause-cached
returns-in-Some-clause-cached g c = promoting_adds c.promote.ensures.entries

pub returns-clause-cached : goal.returns-clause-cached
returns-clause-cached g c = putting_adds _ _ c.put.result c.in_ok-read.ensures.bytes c.put.ensures.entries
    c.put.ensures.err
