use Rattle.std.proofs.Common.{◌≤◌, ◌∙◌, ap, length, refl, subst, sym, take}
use Rattle.std.proofs.lemmas.Result.{IfOk-weaker, on_ok_weaker}
use Rattle.desktop_definitions.specs.Step.{steps}
use Rattle.past_pages.proofs.StillReads.{still_both, still_none}
use Rattle.past_moments.specs.Seeking.{stands, stands_at_moment}
use Rattle.past_moments.proofs.Carried.{mark_on, moments_on, sought_on}
use Rattle.past_moments.proofs.Kept.{whatever}
use Rattle.past_moments.proofs.Ways.{done_front, moment_late, moment_part}
use Rattle.past_moments.proofs.moments.Moments.gone_from.Goals as goal

-- ---- the journal in use

pub returns-then-is_present-clause-sought : goal.returns-then-is_present-clause-sought
returns-then-is_present-clause-sought g c = IfOk-weaker c.sought_among.result _ _ (λ sought fact. λ are is past lies.
    let d = g.D.Disk in
    let word = c.args.word.now in
    let extent = c.args.self.now.extent in
    let place = c.args.mark.place in
    let here = c.args.mark.shown.desktop in
    let high = c.is_present.ensures.yes c.if-is_present.true in
    fact (stands_at_moment past.start past.deeds word) (λ i few.
    let many = subst (λ l. i ≤ length l) c.as_slice-events.ensures.value few in
    let there = moment_late d extent place here (steps here (take i extent.journal.items)) i are.extent is.place is.shown high
    many refl past lies in
    ap (stands word) (sym there.is ∙ ap (λ l. steps here (take i l)) (sym c.as_slice-events.ensures.value))))
    c.sought_among.ensures.sought

pub returns-then-is_present-clause-still : goal.returns-then-is_present-clause-still
returns-then-is_present-clause-still g c = still_none g.D.Disk c.args.store.now c.requires

-- ---- a page of events

pub returns-in-Events-clause-sought : goal.returns-in-Events-clause-sought
returns-in-Events-clause-sought g c = IfOk-weaker c.sought_among-in-Events.result _ _ (λ sought fact. λ are is.
    let d = g.D.Disk in
    let word = c.args.word.now in
    let place = c.args.mark.place in
    let here = c.args.mark.shown.desktop in
    let events = c.as_slice.result.now in
    let page = (rw c.in-Some.is at c.in_ok-page_at.ensures.page) are.extent is.place in
    sought_on d c.page_at.ensures.still c.requires (c.shows_what_crashes_leave.ensures.quiet c.requires) c.args.k word sought
    (λ past lies. fact (stands_at_moment past.start past.deeds word) (λ i few.
    let there = moment_part d place c.in-Some._next c.in-Some.deeds here (steps here (take i events)) i page is.shown
    (λ p read. done_front c.in-Some.deeds p i events here (steps here (take i events))
    (λ version all same. c.as_slice.ensures.value ∙ (rw c.in-Events.is at same)) (λ version all same. (rw c.in-Events.is at same))
    (λ version n to same. (rw c.in-Events.is at same)) (λ version far sectors to same. (rw c.in-Events.is at same)) read
    (few, refl)) past lies in
    ap (stands word) (sym there.is)))) c.sought_among-in-Events.ensures.sought

pub returns-in-Events-clause-are : goal.returns-in-Events-clause-are
returns-in-Events-clause-are g c = whatever c.sought_among-in-Events.result (λ are. moments_on g.D.Disk c.page_at.ensures.still
    c.requires (c.shows_what_crashes_leave.ensures.quiet c.requires) c.args.self.now are)

-- ---- another page, or none

pub returns-in-None-clause-are : goal.returns-in-None-clause-are
returns-in-None-clause-are g c = λ are. moments_on g.D.Disk c.page_at.ensures.still c.requires
    (c.shows_what_crashes_leave.ensures.quiet c.requires) c.args.self.now are

pub returns-in_default : goal.returns-in_default
returns-in_default g c = record {
  before = c.gone_by.ensures.before;
  sought = IfOk-weaker c.gone_by.result _ _ (λ sought fact. λ are is.
      let d = g.D.Disk in
      let quiet = c.shows_what_crashes_leave.ensures.quiet c.requires in
      fact (moments_on d c.page_at.ensures.still c.requires quiet c.args.self.now are)
      (mark_on d c.page_at.ensures.still c.requires quiet c.args.mark is)) c.gone_by.ensures.sought;
  are = on_ok_weaker c.gone_by.result (λ fact are. fact (moments_on g.D.Disk c.page_at.ensures.still
      c.requires (c.shows_what_crashes_leave.ensures.quiet c.requires) c.args.self.now are)) c.gone_by.ensures.are;
  still = still_both g.D.Disk c.page_at.ensures.still c.gone_by.ensures.still;
}
