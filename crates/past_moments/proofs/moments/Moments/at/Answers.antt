use Rattle.std.proofs.Common.{◌∙◌, ◌≤◌, ap, refl, subst, sym}
use Rattle.past_pages.proofs.StillReads.{still_both}
use Rattle.past_moments.specs.Moments.{IsDesktopAt, IsPagePlace}
use Rattle.past_moments.specs.declared.extent.Place.{Place}
use Rattle.past_moments.specs.declared.marks.Mark.{Mark}
use Rattle.past_moments.proofs.Carried.{moment_on, moments_on, place_on}
use Rattle.past_moments.proofs.Kept.{found_then, whatever}
use Rattle.past_moments.proofs.moments.Moments.at.Goals as goal

pub returns-clause-place : goal.returns-clause-place
returns-clause-place g c = found_then c.where_done.result (λ mark fact. λ are.
    let d = g.D.Disk in
    let quiet = c.shows_what_crashes_leave.ensures.quiet c.page_before.ensures.still.usable in
    let was = (rw c.in-Some.is at c.in_ok-mark.ensures.mark) are in
    subst (λ p. IsPagePlace d p c.go_part-done.new.store) (sym (ap (λ (m : Mark). m.place) fact.0 ∙ c.go_part-done.ensures.place))
    (place_on d c.go_part-done.ensures.still c.page_before.ensures.still.usable quiet c.in-Some.mark.place was.place))
    c.where_done.ensures.is

pub returns-clause-shown : goal.returns-clause-shown
returns-clause-shown g c = found_then c.where_done.result (λ mark fact. λ are.
    let d = g.D.Disk in
    let quiet = c.shows_what_crashes_leave.ensures.quiet c.page_before.ensures.still.usable in
    let was = (rw c.in-Some.is at c.in_ok-mark.ensures.mark) are in
    let all = c.in_ok-mark.ensures.are are in
    let there = (rw fact.1 at c.go_part-done.ensures.shown) refl all.extent was in
    subst (λ (m : Mark). IsDesktopAt d c.args.k m.shown.desktop c.go_part-done.new.store) (sym fact.0)
    (moment_on d c.go_part-done.ensures.still c.page_before.ensures.still.usable quiet c.args.k
    c.go_part-done.new.mark.shown.desktop there)) c.where_done.ensures.is

pub returns-clause-low : goal.returns-clause-low
returns-clause-low g c = found_then c.where_done.result (λ mark fact.
    subst (λ (p : Place). p.k ≤ c.args.k) (sym (ap (λ (m : Mark). m.place) fact.0 ∙ c.go_part-done.ensures.place))
    ((rw fact.1 at c.go_part-done.ensures.low) refl)) c.where_done.ensures.is

pub returns-clause-are : goal.returns-clause-are
returns-clause-are g c = whatever c.where_done.result (λ are. moments_on g.D.Disk c.go_part-done.ensures.still
    c.page_before.ensures.still.usable (c.shows_what_crashes_leave.ensures.quiet c.page_before.ensures.still.usable)
    c.page_before.new.self (c.in_ok-mark.ensures.are are))

pub returns-clause-still : goal.returns-clause-still
returns-clause-still g c = still_both g.D.Disk c.page_before.ensures.still c.go_part-done.ensures.still
