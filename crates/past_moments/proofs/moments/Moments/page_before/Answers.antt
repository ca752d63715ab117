use Rattle.std.proofs.Common.{◌≤◌, refl, subst, sym}
use Rattle.past_pages.proofs.StillReads.{still_both}
use Rattle.past_moments.specs.Moments.{IsMarkOf}
use Rattle.past_moments.specs.declared.marks.Mark.{Mark}
use Rattle.past_moments.proofs.Kept.{done_then, found_then}
use Rattle.past_moments.proofs.moments.Moments.page_before.Goals as goal

pub returns-clause-mark : goal.returns-clause-mark
returns-clause-mark g c = found_then c.where_done.result (λ mark fact. λ are.
    subst (λ m. IsMarkOf g.D.Disk m c.go_near-done.new.store) (sym fact.0)
    ((rw fact.1 at c.go_near-done.ensures.mark) refl (c.unturned_before.ensures.are are)
    ((rw c.in-Some.is at c.in_ok-mark.ensures.mark) are))) c.where_done.ensures.is

pub returns-clause-low : goal.returns-clause-low
returns-clause-low g c = found_then c.where_done.result (λ mark fact.
    subst (λ (m : Mark). m.place.k ≤ c.args.k) (sym fact.0) ((rw fact.1 at c.go_near-done.ensures.low) refl))
    c.where_done.ensures.is

pub returns-clause-are : goal.returns-clause-are
returns-clause-are g c = done_then c.go_near-done.result c.where_done.result _ _
    (λ fact are. fact (c.unturned_before.ensures.are are) ((rw c.in-Some.is at c.in_ok-mark.ensures.mark) are))
    c.where_done.ensures.ok c.go_near-done.ensures.are

pub returns-clause-still : goal.returns-clause-still
returns-clause-still g c = still_both g.D.Disk c.unturned_before.ensures.still c.go_near-done.ensures.still
