use Rattle.std.proofs.Common.{◌∙◌, ap, arith, refl}
use Rattle.past_pages.specs.Reading.{IsRead}
use Rattle.past_pages.proofs.StillReads.{still_both, still_none}
use Rattle.past_moments.specs.declared.extent.Place.{Place}
use Rattle.past_moments.specs.declared.marks.Mark.{Mark}
use Rattle.past_moments.proofs.Carried.{extent_on, mark_on, marks_back, marks_on, moments_on, page_back, place_on}
use Rattle.past_moments.proofs.Ways.{mark_next}
use Rattle.past_moments.proofs.moments.Moments.go_whole.Goals as goal

pub loop-alloc-init : goal.loop-alloc-init
loop-alloc-init g c = record {
  still = still_none g.D.Disk c.args.store.now c.requires;
  mark = λ are is. is;
  are = λ are is. are;
}

pub loop-alloc-preserved : goal.loop-alloc-preserved
loop-alloc-preserved g c =
    let d = g.D.Disk in
    let i = c.loop-alloc.invariant in
    let quiet = c.shows_what_crashes_leave.ensures.quiet c.requires in
    let still = still_both d i.still c.page_at.ensures.still in
    let mark = c.loop-alloc.mark in
    let self = c.loop-alloc.self in
    let page = rw c.in-Some.is at c.in_ok-deeds.ensures.page in
    let moved : Mark = record { place = c.in-Some.next; shown = c.do_all.new.shown } in
    let done = c.in_ok-do_all.ensures c.if-not-branch.false in
    record {
      still = still;
      mark = λ are is. mark_next d mark c.leave.new.mark c.in-Some.next c.in-Some.deeds (i.mark are is)
          (page_back d i.still quiet mark.place (IsRead c.in-Some.deeds) c.in-Some.next
          (page (extent_on d i.still c.requires quiet self.extent (i.are are is).extent)
          (place_on d i.still c.requires quiet mark.place (i.mark are is).place)))
          c.leave.ensures.place (λ p read. c.leave.ensures.shown ∙ done p read);
      are = λ are is. record {
        extent = (i.are are is).extent;
        marks = marks_back d still quiet c.leave.new.self (c.in_ok-leave.ensures.kept
            (marks_on d still c.requires quiet self.marks (i.are are is).marks)
            (mark_on d still c.requires quiet moved
            (mark_next d mark moved c.in-Some.next c.in-Some.deeds (i.mark are is)
            (page_back d i.still quiet mark.place (IsRead c.in-Some.deeds) c.in-Some.next
            (page (extent_on d i.still c.requires quiet self.extent (i.are are is).extent)
            (place_on d i.still c.requires quiet mark.place (i.mark are is).place)))
            refl done)));
      };
    }

pub loop-alloc-preserved-in_ok-leave : goal.loop-alloc-preserved-in_ok-leave
loop-alloc-preserved-in_ok-leave g c =
    let d = g.D.Disk in
    let i = c.loop-alloc.invariant in
    let quiet = c.shows_what_crashes_leave.ensures.quiet c.requires in
    let still = still_both d i.still c.page_at.ensures.still in
    let mark = c.loop-alloc.mark in
    let self = c.loop-alloc.self in
    let page = rw c.in-Some.is at c.in_ok-deeds.ensures.page in
    let moved : Mark = record { place = c.in-Some.next; shown = c.do_all.new.shown } in
    let done = c.in_ok-do_all.ensures c.if-not-branch.false in
    record {
      still = still;
      mark = λ are is. mark_next d mark c.leave.new.mark c.in-Some.next c.in-Some.deeds (i.mark are is)
          (page_back d i.still quiet mark.place (IsRead c.in-Some.deeds) c.in-Some.next
          (page (extent_on d i.still c.requires quiet self.extent (i.are are is).extent)
          (place_on d i.still c.requires quiet mark.place (i.mark are is).place)))
          c.leave.ensures.place (λ p read. c.leave.ensures.shown ∙ done p read);
      are = λ are is. record {
        extent = (i.are are is).extent;
        marks = marks_back d still quiet c.leave.new.self (c.in_ok-leave.ensures.kept
            (marks_on d still c.requires quiet self.marks (i.are are is).marks)
            (mark_on d still c.requires quiet moved
            (mark_next d mark moved c.in-Some.next c.in-Some.deeds (i.mark are is)
            (page_back d i.still quiet mark.place (IsRead c.in-Some.deeds) c.in-Some.next
            (page (extent_on d i.still c.requires quiet self.extent (i.are are is).extent)
            (place_on d i.still c.requires quiet mark.place (i.mark are is).place)))
            refl done)));
      };
    }

pub loop-alloc-preserved-in_ok-leave-2 : goal.loop-alloc-preserved-in_ok-leave-2
loop-alloc-preserved-in_ok-leave-2 g c =
    let d = g.D.Disk in
    let i = c.loop-alloc.invariant in
    let quiet = c.shows_what_crashes_leave.ensures.quiet c.requires in
    let still = still_both d i.still c.page_at.ensures.still in
    let mark = c.loop-alloc.mark in
    let self = c.loop-alloc.self in
    let page = rw c.in-Some.is at c.in_ok-deeds.ensures.page in
    let moved : Mark = record { place = c.in-Some.next; shown = c.do_all.new.shown } in
    let done = c.in_ok-do_all.ensures c.if-not-branch.false in
    record {
      still = still;
      mark = λ are is. mark_next d mark c.leave.new.mark c.in-Some.next c.in-Some.deeds (i.mark are is)
          (page_back d i.still quiet mark.place (IsRead c.in-Some.deeds) c.in-Some.next
          (page (extent_on d i.still c.requires quiet self.extent (i.are are is).extent)
          (place_on d i.still c.requires quiet mark.place (i.mark are is).place)))
          c.leave.ensures.place (λ p read. c.leave.ensures.shown ∙ done p read);
      are = λ are is. record {
        extent = (i.are are is).extent;
        marks = marks_back d still quiet c.leave.new.self (c.in_ok-leave.ensures.kept
            (marks_on d still c.requires quiet self.marks (i.are are is).marks)
            (mark_on d still c.requires quiet moved
            (mark_next d mark moved c.in-Some.next c.in-Some.deeds (i.mark are is)
            (page_back d i.still quiet mark.place (IsRead c.in-Some.deeds) c.in-Some.next
            (page (extent_on d i.still c.requires quiet self.extent (i.are are is).extent)
            (place_on d i.still c.requires quiet mark.place (i.mark are is).place)))
            refl done)));
      };
    }

pub loop-alloc-smaller : goal.loop-alloc-smaller
loop-alloc-smaller g c =
    let at = ap (λ (x : Place). x.at) c.leave.ensures.place in
    let later = rw c.in-Some.is at c.in_ok-deeds.ensures.later in
    omega (arith, at, later.0, later.1)

pub returns-in_err-deeds-clause-still : goal.returns-in_err-deeds-clause-still
returns-in_err-deeds-clause-still g c = still_both g.D.Disk c.loop-alloc.invariant.still c.page_at.ensures.still

pub returns-in_default-clause-are : goal.returns-in_default-clause-are
returns-in_default-clause-are g c = λ are is. moments_on g.D.Disk
    (still_both g.D.Disk c.loop-alloc.invariant.still c.page_at.ensures.still) c.requires
    (c.shows_what_crashes_leave.ensures.quiet c.requires) c.loop-alloc.self (c.loop-alloc.invariant.are are is)

pub returns-in_default-clause-still : goal.returns-in_default-clause-still
returns-in_default-clause-still g c = still_both g.D.Disk c.loop-alloc.invariant.still c.page_at.ensures.still

pub returns-then-next-k-clause-mark : goal.returns-then-next-k-clause-mark
returns-then-next-k-clause-mark g c = λ done are is. mark_on g.D.Disk
    (still_both g.D.Disk c.loop-alloc.invariant.still c.page_at.ensures.still) c.requires
    (c.shows_what_crashes_leave.ensures.quiet c.requires) c.loop-alloc.mark (c.loop-alloc.invariant.mark are is)

pub returns-then-next-k-clause-are : goal.returns-then-next-k-clause-are
returns-then-next-k-clause-are g c = λ are is. moments_on g.D.Disk
    (still_both g.D.Disk c.loop-alloc.invariant.still c.page_at.ensures.still) c.requires
    (c.shows_what_crashes_leave.ensures.quiet c.requires) c.loop-alloc.self (c.loop-alloc.invariant.are are is)

pub returns-then-next-k-clause-still : goal.returns-then-next-k-clause-still
returns-then-next-k-clause-still g c = still_both g.D.Disk c.loop-alloc.invariant.still c.page_at.ensures.still

pub returns-in_err-do_all-clause-still : goal.returns-in_err-do_all-clause-still
returns-in_err-do_all-clause-still g c = still_both g.D.Disk c.loop-alloc.invariant.still c.page_at.ensures.still

pub returns-then-not-branch-clause-are : goal.returns-then-not-branch-clause-are
returns-then-not-branch-clause-are g c = λ are is. moments_on g.D.Disk
    (still_both g.D.Disk c.loop-alloc.invariant.still c.page_at.ensures.still) c.requires
    (c.shows_what_crashes_leave.ensures.quiet c.requires) c.loop-alloc.self (c.loop-alloc.invariant.are are is)

pub returns-then-not-branch-clause-still : goal.returns-then-not-branch-clause-still
returns-then-not-branch-clause-still g c = still_both g.D.Disk c.loop-alloc.invariant.still c.page_at.ensures.still

pub returns-in_err-leave-clause-still : goal.returns-in_err-leave-clause-still
returns-in_err-leave-clause-still g c = still_both g.D.Disk c.loop-alloc.invariant.still c.page_at.ensures.still

pub returns-clause-mark : goal.returns-clause-mark
returns-clause-mark g c = λ done are is. mark_on g.D.Disk c.loop-alloc.invariant.still c.requires
    (c.shows_what_crashes_leave.ensures.quiet c.requires) c.loop-alloc.mark (c.loop-alloc.invariant.mark are is)

pub returns-clause-are : goal.returns-clause-are
returns-clause-are g c = λ are is. moments_on g.D.Disk c.loop-alloc.invariant.still c.requires
    (c.shows_what_crashes_leave.ensures.quiet c.requires) c.loop-alloc.self (c.loop-alloc.invariant.are are is)

pub returns-clause-still : goal.returns-clause-still
returns-clause-still g c = c.loop-alloc.invariant.still
