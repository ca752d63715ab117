use Rattle.std.proofs.Common.{◌≡◌, ◌+◌, ℕ, ◌∙◌, ap, arith, refl, subst, sym}
use Rattle.std.proofs.lemmas.Bool.{false≢true}
use Rattle.std.proofs.lemmas.Result.{IfOk-weaker}
use Rattle.store_layout.specs.declared.head.PastEnd.{PastEnd}
use Rattle.past_pages.specs.Parts.{HasParts, IsPartBeside, IsPastPart}
use Rattle.past_pages.specs.declared.parts.TheConstants.{PART_SECTORS}
use Rattle.past_pages.proofs.StillReads.{still_both, still_looked, still_none}
use Rattle.desk_past.specs.Beginning.{HasStartRoom}
use Rattle.desk_past.specs.Going.{CanGoOn, IsOldest, IsOutsetIn, IsWanted}
use Rattle.desk_past.specs.Writing.{LiesInOldest}
use Rattle.desk_past.proofs.Apart.{lies_beside, part_room}
use Rattle.desk_past.proofs.Found.{as_read, as_then, due_begun, outset_then, uncounted_then}
use Rattle.desk_past.proofs.GoingOn.{begins_then, forgets_begun, forgets_read, leaves_begun, leaves_read}
use Rattle.desk_past.proofs.Over.{apart_next}
use Rattle.desk_past.proofs.Sparing.{only_as, only_begun, only_none, only_read}
use Rattle.sector_disk.specs.Trail.{Content, now}
use Rattle.desk_past.proofs.going_on.go_on.Goals as goal

pub is_wanted-requires : goal.is_wanted-requires
is_wanted-requires g c = c.past.ensures.looks.usable ∙ c.requires

pub can_go_on-requires : goal.can_go_on-requires
can_go_on-requires g c = c.is_wanted.ensures.still.usable

pub oldest_base-requires-clause-usable : goal.oldest_base-requires-clause-usable
oldest_base-requires-clause-usable g c = c.can_go_on.ensures.still.usable

pub oldest_base-requires-clause-parts : goal.oldest_base-requires-clause-parts
oldest_base-requires-clause-parts g c =
    let d = g.D.Disk in
    let still = (still_both d (still_both d (still_looked d c.past.result (still_none d c.args.store.now c.requires)
    c.past.ensures.looks) c.is_wanted.ensures.still) c.can_go_on.ensures.still) in
    subst HasParts (c.sectors.ensures ∙ sym still.left.disk.device.as_large)
    (c.has_parts.ensures.0 c.if-not-has_parts.false)

pub begin_at-requires : goal.begin_at-requires
begin_at-requires g c =
    let d = g.D.Disk in
    let still = (still_both d (still_both d (still_looked d c.past.result (still_none d c.args.store.now c.requires)
    c.past.ensures.looks) c.is_wanted.ensures.still) c.can_go_on.ensures.still) in
    let large = c.sectors.ensures ∙ sym still.left.disk.device.as_large in
    subst (λ n. HasStartRoom n c.in_ok-base.base) (large ∙ sym c.oldest_base.ensures.still.left.disk.device.as_large)
    (part_room c.sectors.result c.in_ok-base.base _ (omega arith)
    (subst (λ n. IsPastPart n c.in_ok-base.base (c.in_ok-base.base + PART_SECTORS)) (sym large)
    c.in_ok-base.ensures.beside.part))

-- ---- nothing is written

pub returns-then-not-has_parts-clause-any_moment : goal.returns-then-not-has_parts-clause-any_moment
returns-then-not-has_parts-clause-any_moment g c = let d = g.D.Disk in leaves_read d c.args.store.now c.args.store.now
    c.shows_what_crashes_leave.ensures.durable c.shows_what_crashes_leave.ensures.quiet
    (still_none d c.args.store.now c.requires)

pub returns-then-not-has_parts-clause-none_forgotten : goal.returns-then-not-has_parts-clause-none_forgotten
returns-then-not-has_parts-clause-none_forgotten g c = let d = g.D.Disk in forgets_read d c.args.store.now
    c.args.store.now
    c.shows_what_crashes_leave.ensures.quiet
    (still_none d c.args.store.now c.requires)

pub returns-then-not-has_parts-clause-others : goal.returns-then-not-has_parts-clause-others
returns-then-not-has_parts-clause-others g c = let d = g.D.Disk in
    let still = (still_none d c.args.store.now c.requires) in
    only_read d still.left.disk c.shows_what_crashes_leave.ensures.quiet

pub returns-in_err-told-clause-any_moment : goal.returns-in_err-told-clause-any_moment
returns-in_err-told-clause-any_moment g c = let d = g.D.Disk in leaves_read d c.args.store.now c.past.new.self
    c.shows_what_crashes_leave.ensures.durable c.shows_what_crashes_leave.ensures.quiet
    (still_looked d c.past.result (still_none d c.args.store.now c.requires) c.past.ensures.looks)

pub returns-in_err-told-clause-none_forgotten : goal.returns-in_err-told-clause-none_forgotten
returns-in_err-told-clause-none_forgotten g c = let d = g.D.Disk in forgets_read d c.args.store.now c.past.new.self
    c.shows_what_crashes_leave.ensures.quiet
    (still_looked d c.past.result (still_none d c.args.store.now c.requires) c.past.ensures.looks)

pub returns-in_err-told-clause-others : goal.returns-in_err-told-clause-others
returns-in_err-told-clause-others g c = let d = g.D.Disk in
    let still = (still_looked d c.past.result (still_none d c.args.store.now c.requires) c.past.ensures.looks) in
    only_read d still.left.disk c.shows_what_crashes_leave.ensures.quiet

pub returns-in_err-is_wanted-clause-any_moment : goal.returns-in_err-is_wanted-clause-any_moment
returns-in_err-is_wanted-clause-any_moment g c = let d = g.D.Disk in leaves_read d c.args.store.now
    c.is_wanted.new.store
    c.shows_what_crashes_leave.ensures.durable c.shows_what_crashes_leave.ensures.quiet
    (still_both d (still_looked d c.past.result (still_none d c.args.store.now c.requires) c.past.ensures.looks)
    c.is_wanted.ensures.still)

pub returns-in_err-is_wanted-clause-none_forgotten : goal.returns-in_err-is_wanted-clause-none_forgotten
returns-in_err-is_wanted-clause-none_forgotten g c = let d = g.D.Disk in forgets_read d c.args.store.now
    c.is_wanted.new.store
    c.shows_what_crashes_leave.ensures.quiet
    (still_both d (still_looked d c.past.result (still_none d c.args.store.now c.requires) c.past.ensures.looks)
    c.is_wanted.ensures.still)

pub returns-in_err-is_wanted-clause-others : goal.returns-in_err-is_wanted-clause-others
returns-in_err-is_wanted-clause-others g c = let d = g.D.Disk in
    let still = (still_both d (still_looked d c.past.result (still_none d c.args.store.now c.requires)
    c.past.ensures.looks) c.is_wanted.ensures.still) in
    only_read d still.left.disk c.shows_what_crashes_leave.ensures.quiet

pub returns-then-not-branch-clause-any_moment : goal.returns-then-not-branch-clause-any_moment
returns-then-not-branch-clause-any_moment g c = let d = g.D.Disk in leaves_read d c.args.store.now c.is_wanted.new.store
    c.shows_what_crashes_leave.ensures.durable c.shows_what_crashes_leave.ensures.quiet
    (still_both d (still_looked d c.past.result (still_none d c.args.store.now c.requires) c.past.ensures.looks)
    c.is_wanted.ensures.still)

pub returns-then-not-branch-clause-none_forgotten : goal.returns-then-not-branch-clause-none_forgotten
returns-then-not-branch-clause-none_forgotten g c = let d = g.D.Disk in forgets_read d c.args.store.now
    c.is_wanted.new.store
    c.shows_what_crashes_leave.ensures.quiet
    (still_both d (still_looked d c.past.result (still_none d c.args.store.now c.requires) c.past.ensures.looks)
    c.is_wanted.ensures.still)

pub returns-then-not-branch-clause-others : goal.returns-then-not-branch-clause-others
returns-then-not-branch-clause-others g c = let d = g.D.Disk in
    let still = (still_both d (still_looked d c.past.result (still_none d c.args.store.now c.requires)
    c.past.ensures.looks) c.is_wanted.ensures.still) in
    only_read d still.left.disk c.shows_what_crashes_leave.ensures.quiet

pub returns-in_err-can_go_on-clause-any_moment : goal.returns-in_err-can_go_on-clause-any_moment
returns-in_err-can_go_on-clause-any_moment g c = let d = g.D.Disk in leaves_read d c.args.store.now
    c.can_go_on.new.store
    c.shows_what_crashes_leave.ensures.durable c.shows_what_crashes_leave.ensures.quiet
    (still_both d (still_both d (still_looked d c.past.result (still_none d c.args.store.now c.requires)
    c.past.ensures.looks) c.is_wanted.ensures.still) c.can_go_on.ensures.still)

pub returns-in_err-can_go_on-clause-none_forgotten : goal.returns-in_err-can_go_on-clause-none_forgotten
returns-in_err-can_go_on-clause-none_forgotten g c = let d = g.D.Disk in forgets_read d c.args.store.now
    c.can_go_on.new.store
    c.shows_what_crashes_leave.ensures.quiet
    (still_both d (still_both d (still_looked d c.past.result (still_none d c.args.store.now c.requires)
    c.past.ensures.looks) c.is_wanted.ensures.still) c.can_go_on.ensures.still)

pub returns-in_err-can_go_on-clause-others : goal.returns-in_err-can_go_on-clause-others
returns-in_err-can_go_on-clause-others g c = let d = g.D.Disk in
    let still = (still_both d (still_both d (still_looked d c.past.result (still_none d c.args.store.now c.requires)
    c.past.ensures.looks) c.is_wanted.ensures.still) c.can_go_on.ensures.still) in
    only_read d still.left.disk c.shows_what_crashes_leave.ensures.quiet

pub returns-then-branch-clause-any_moment : goal.returns-then-branch-clause-any_moment
returns-then-branch-clause-any_moment g c = let d = g.D.Disk in leaves_read d c.args.store.now c.can_go_on.new.store
    c.shows_what_crashes_leave.ensures.durable c.shows_what_crashes_leave.ensures.quiet
    (still_both d (still_both d (still_looked d c.past.result (still_none d c.args.store.now c.requires)
    c.past.ensures.looks) c.is_wanted.ensures.still) c.can_go_on.ensures.still)

pub returns-then-branch-clause-none_forgotten : goal.returns-then-branch-clause-none_forgotten
returns-then-branch-clause-none_forgotten g c = let d = g.D.Disk in forgets_read d c.args.store.now
    c.can_go_on.new.store
    c.shows_what_crashes_leave.ensures.quiet
    (still_both d (still_both d (still_looked d c.past.result (still_none d c.args.store.now c.requires)
    c.past.ensures.looks) c.is_wanted.ensures.still) c.can_go_on.ensures.still)

pub returns-then-branch-clause-others : goal.returns-then-branch-clause-others
returns-then-branch-clause-others g c = let d = g.D.Disk in
    let still = (still_both d (still_both d (still_looked d c.past.result (still_none d c.args.store.now c.requires)
    c.past.ensures.looks) c.is_wanted.ensures.still) c.can_go_on.ensures.still) in
    only_read d still.left.disk c.shows_what_crashes_leave.ensures.quiet

pub returns-in_err-base-clause-any_moment : goal.returns-in_err-base-clause-any_moment
returns-in_err-base-clause-any_moment g c = let d = g.D.Disk in leaves_read d c.args.store.now c.oldest_base.new.store
    c.shows_what_crashes_leave.ensures.durable c.shows_what_crashes_leave.ensures.quiet
    (still_both d (still_both d (still_both d (still_looked d c.past.result (still_none d c.args.store.now c.requires)
    c.past.ensures.looks) c.is_wanted.ensures.still) c.can_go_on.ensures.still) c.oldest_base.ensures.still)

pub returns-in_err-base-clause-none_forgotten : goal.returns-in_err-base-clause-none_forgotten
returns-in_err-base-clause-none_forgotten g c = let d = g.D.Disk in forgets_read d c.args.store.now
    c.oldest_base.new.store
    c.shows_what_crashes_leave.ensures.quiet
    (still_both d (still_both d (still_both d (still_looked d c.past.result (still_none d c.args.store.now c.requires)
    c.past.ensures.looks) c.is_wanted.ensures.still) c.can_go_on.ensures.still) c.oldest_base.ensures.still)

pub returns-in_err-base-clause-others : goal.returns-in_err-base-clause-others
returns-in_err-base-clause-others g c = let d = g.D.Disk in
    let still = (still_both d (still_both d (still_both d
    (still_looked d c.past.result (still_none d c.args.store.now c.requires) c.past.ensures.looks)
    c.is_wanted.ensures.still) c.can_go_on.ensures.still) c.oldest_base.ensures.still) in
    only_read d still.left.disk c.shows_what_crashes_leave.ensures.quiet

pub returns-then-not-has_parts-clause-due : goal.returns-then-not-has_parts-clause-due
returns-then-not-has_parts-clause-due g c = λ honest s at parts wanted.
    absurd (false≢true (sym c.if-not-has_parts.true
    ∙ c.has_parts.ensures.1 (subst HasParts (sym c.sectors.ensures) parts)))

pub returns-then-not-branch-clause-due : goal.returns-then-not-branch-clause-due
returns-then-not-branch-clause-due g c = λ honest s at parts wanted.
    let d = g.D.Disk in
    let quiet = c.shows_what_crashes_leave.ensures.quiet c.requires honest in
    let still = (still_looked d c.past.result (still_none d c.args.store.now c.requires) c.past.ensures.looks) in
    let next = ap (λ (p : PastEnd). p.next) (c.in_ok-told.ensures.told honest s at) in
    absurd (false≢true (sym c.if-not-branch.true
    ∙ (c.in_ok-is_wanted.ensures.is (still.left.disk.device.still honest)).1
    (as_then d (IsWanted c.args.asked) still quiet honest c.in_ok-told.told.next s.past.next next wanted)))

pub returns-then-branch-clause-due : goal.returns-then-branch-clause-due
returns-then-branch-clause-due g c = λ honest s at.
    let d = g.D.Disk in
    let quiet = c.shows_what_crashes_leave.ensures.quiet c.requires honest in
    let still = (still_both d (still_looked d c.past.result (still_none d c.args.store.now c.requires)
    c.past.ensures.looks) c.is_wanted.ensures.still) in
    let next = ap (λ (p : PastEnd). p.next) (c.in_ok-told.ensures.told honest s at) in
    as_read d CanGoOn still quiet honest c.in_ok-told.told.next s.past.next next
    ((c.in_ok-can_go_on.ensures.is (still.left.disk.device.still honest)).0 c.if-branch.true)

pub returns-then-branch-clause-comes : goal.returns-then-branch-clause-comes
returns-then-branch-clause-comes g c = let d = g.D.Disk in
    (still_both d (still_both d (still_looked d c.past.result (still_none d c.args.store.now c.requires)
    c.past.ensures.looks) c.is_wanted.ensures.still) c.can_go_on.ensures.still)

-- ---- a past begins

pub returns-clause-any_moment : goal.returns-clause-any_moment
returns-clause-any_moment g c = let d = g.D.Disk in leaves_begun d c.begin_at.new.store
    c.shows_what_crashes_leave.ensures.durable c.shows_what_crashes_leave.ensures.quiet
    (still_both d (still_both d (still_both d (still_looked d c.past.result (still_none d c.args.store.now c.requires)
    c.past.ensures.looks) c.is_wanted.ensures.still) c.can_go_on.ensures.still) c.oldest_base.ensures.still)
    c.begin_at.ensures.any_moment

pub returns-clause-none_forgotten : goal.returns-clause-none_forgotten
returns-clause-none_forgotten g c = λ honest start deeds desktop keeps lies.
    let d = g.D.Disk in
    let before = (still_both d (still_both d (still_looked d c.past.result (still_none d c.args.store.now c.requires)
    c.past.ensures.looks) c.is_wanted.ensures.still) c.can_go_on.ensures.still) in
    let still = (still_both d (still_both d (still_both d
    (still_looked d c.past.result (still_none d c.args.store.now c.requires) c.past.ensures.looks)
    c.is_wanted.ensures.still) c.can_go_on.ensures.still) c.oldest_base.ensures.still) in
    let next = ap (λ (p : PastEnd). p.next)
    (c.in_ok-told.ensures.told honest keeps.remembers.standing keeps.remembers.past.stands) in
    forgets_begun d c.begin_at.new.store keeps honest (c.shows_what_crashes_leave.ensures.quiet keeps.usable honest)
    still c.in_ok-base.base c.begin_at.ensures.none_forgotten
    (apart_next d keeps (d.size c.args.store.now.disk) c.in_ok-told.told.next c.in_ok-base.base refl (sym next) lies
    (lies_beside _ _ _ (subst (λ n. IsPartBeside n c.in_ok-told.told.next c.in_ok-base.base)
    before.left.disk.device.as_large
    c.in_ok-base.ensures.beside)))

pub returns-clause-comes : goal.returns-clause-comes
returns-clause-comes g c = IfOk-weaker c.begin_at.result _ _
    (λ outset comes. outset_then g.D.Disk c.args.store.now c.oldest_base.new.store c.begin_at.new.store outset comes
    (λ begins honest s at.
    let d = g.D.Disk in
    let quiet = c.shows_what_crashes_leave.ensures.quiet c.requires honest in
    let before = (still_both d (still_both d (still_looked d c.past.result (still_none d c.args.store.now c.requires)
    c.past.ensures.looks) c.is_wanted.ensures.still) c.can_go_on.ensures.still) in
    let still = (still_both d (still_both d (still_both d
    (still_looked d c.past.result (still_none d c.args.store.now c.requires) c.past.ensures.looks)
    c.is_wanted.ensures.still) c.can_go_on.ensures.still) c.oldest_base.ensures.still) in
    let next = ap (λ (p : PastEnd). p.next) (c.in_ok-told.ensures.told honest s at) in (
      c.in_ok-base.base,
      begins_then d c.begin_at.new.store still begins,
      as_read d (λ size n. IsOldest size n c.in_ok-base.base) before quiet honest c.in_ok-told.told.next s.past.next
          next
          (c.in_ok-base.ensures.oldest (before.left.disk.device.still honest)),
    ))) c.begin_at.ensures.comes

pub returns-clause-others : goal.returns-clause-others
returns-clause-others g c =
    let d = g.D.Disk in
    let before = (still_both d (still_both d (still_looked d c.past.result (still_none d c.args.store.now c.requires)
    c.past.ensures.looks) c.is_wanted.ensures.still) c.can_go_on.ensures.still) in
    let still = (still_both d (still_both d (still_both d
    (still_looked d c.past.result (still_none d c.args.store.now c.requires) c.past.ensures.looks)
    c.is_wanted.ensures.still) c.can_go_on.ensures.still) c.oldest_base.ensures.still) in
    only_as d (only_begun d c.begin_at.new.store c.in_ok-told.told.next c.in_ok-base.base still
    c.shows_what_crashes_leave.ensures.quiet
    (λ honest. as_read d (λ size n. IsOldest size n c.in_ok-base.base) before
    (c.shows_what_crashes_leave.ensures.quiet c.requires honest) honest c.in_ok-told.told.next c.in_ok-told.told.next
    refl
    (c.in_ok-base.ensures.oldest (before.left.disk.device.still honest))) c.begin_at.ensures.others)
    (λ honest s at n there. subst (λ k. LiesInOldest (d.size c.args.store.now.disk)
    (now (d.trail c.args.store.now.disk)).reads k n)
    (ap (λ (p : PastEnd). p.next) (c.in_ok-told.ensures.told honest s at))
    there)

pub returns-clause-due : goal.returns-clause-due
returns-clause-due g c = IfOk-weaker c.begin_at.result _ _ (λ outset comes honest s at.
    let d = g.D.Disk in
    let quiet = c.shows_what_crashes_leave.ensures.quiet c.requires honest in
    let first = (still_looked d c.past.result (still_none d c.args.store.now c.requires) c.past.ensures.looks) in
    let second = (still_both d (still_looked d c.past.result (still_none d c.args.store.now c.requires)
    c.past.ensures.looks) c.is_wanted.ensures.still) in
    let still = (still_both d (still_both d (still_both d
    (still_looked d c.past.result (still_none d c.args.store.now c.requires) c.past.ensures.looks)
    c.is_wanted.ensures.still) c.can_go_on.ensures.still) c.oldest_base.ensures.still) in
    let next = ap (λ (p : PastEnd). p.next) (c.in_ok-told.ensures.told honest s at) in
    due_begun d c.args.asked c.args.store.now s outset
    (λ is. uncounted_then d still quiet honest
    (subst (IsOutsetIn d c.in_ok-base.base c.oldest_base.new.store c.begin_at.new.store) is comes
    (still.left.disk.device.still honest)))
    (λ is. subst (IsOutsetIn d c.in_ok-base.base c.oldest_base.new.store c.begin_at.new.store) is comes) (
      subst HasParts c.sectors.ensures (c.has_parts.ensures.0 c.if-not-has_parts.false),
      as_read d (IsWanted c.args.asked) first quiet honest c.in_ok-told.told.next s.past.next next
          ((c.in_ok-is_wanted.ensures.is (first.left.disk.device.still honest)).0 c.if-not-branch.false),
      λ can. false≢true (sym c.if-branch.false ∙ (c.in_ok-can_go_on.ensures.is (second.left.disk.device.still honest)).1
          (as_then d CanGoOn second quiet honest c.in_ok-told.told.next s.past.next next can)),
    )) c.begin_at.ensures.comes
