use Rattle.std.proofs.Common.{◌≡◌, ◌+◌, ◌∙◌, arith, subst, sym}
use Rattle.std.proofs.lemmas.Bool.{false≢true}
use Rattle.past_pages.specs.Parts.{HasParts, IsPastPart}
use Rattle.past_pages.specs.declared.parts.TheConstants.{PART_SECTORS}
use Rattle.past_pages.proofs.StillReads.{still_both, still_looked, still_none}
use Rattle.desk_past.specs.Beginning.{HasStartRoom}
use Rattle.desk_past.proofs.Apart.{part_room}
use Rattle.desk_past.proofs.Found.{uncounted_then}
use Rattle.desk_past.proofs.Forgotten.{forgets_then, has_forgotten}
use Rattle.desk_past.proofs.GoingOn.{leaves_begun, leaves_read}
use Rattle.desk_past.proofs.Over.{begun_usable}
use Rattle.desk_past.proofs.forgetting.forget.Goals as goal

pub oldest_base-requires-clause-usable : goal.oldest_base-requires-clause-usable
oldest_base-requires-clause-usable g c = c.past.ensures.looks.usable ∙ c.requires

pub oldest_base-requires-clause-parts : goal.oldest_base-requires-clause-parts
oldest_base-requires-clause-parts g c = subst HasParts
    (c.sectors.ensures ∙ sym c.past.ensures.looks.disk.device.as_large) (c.has_parts.ensures.0 c.if-not-has_parts.false)

pub begin-requires : goal.begin-requires
begin-requires g c =
    let large = c.sectors.ensures ∙ sym c.past.ensures.looks.disk.device.as_large in
    subst (λ n. HasStartRoom n c.in_ok-base.base) (large ∙ sym c.oldest_base.ensures.still.left.disk.device.as_large)
    (part_room c.sectors.result c.in_ok-base.base _ (omega arith)
    (subst (λ n. IsPastPart n c.in_ok-base.base (c.in_ok-base.base + PART_SECTORS)) (sym large)
    c.in_ok-base.ensures.beside.part))

pub blank_beside-requires-clause-usable : goal.blank_beside-requires-clause-usable
blank_beside-requires-clause-usable g c = begun_usable g.D.Disk c.oldest_base.new.store c.begin.new.store _
    c.in_ok-begin.ensures.turned

pub blank_beside-requires-clause-part : goal.blank_beside-requires-clause-part
blank_beside-requires-clause-part g c = subst (λ n. IsPastPart n c.in_ok-base.base (c.in_ok-base.base + PART_SECTORS))
    (sym (c.begin.ensures.device.same.as_large ∙ c.oldest_base.ensures.still.left.disk.device.as_large))
    c.in_ok-base.ensures.beside.part

pub returns-then-not-has_parts-clause-any_moment : goal.returns-then-not-has_parts-clause-any_moment
returns-then-not-has_parts-clause-any_moment g c = let d = g.D.Disk in leaves_read d c.args.store.now c.args.store.now
    c.shows_what_crashes_leave.ensures.durable c.shows_what_crashes_leave.ensures.quiet
    (still_none d c.args.store.now c.requires)

pub returns-in_err-told-clause-any_moment : goal.returns-in_err-told-clause-any_moment
returns-in_err-told-clause-any_moment g c = let d = g.D.Disk in leaves_read d c.args.store.now c.past.new.self
    c.shows_what_crashes_leave.ensures.durable c.shows_what_crashes_leave.ensures.quiet
    (still_looked d c.past.result (still_none d c.args.store.now c.requires) c.past.ensures.looks)

pub returns-in_err-base-clause-any_moment : goal.returns-in_err-base-clause-any_moment
returns-in_err-base-clause-any_moment g c = let d = g.D.Disk in leaves_read d c.args.store.now c.oldest_base.new.store
    c.shows_what_crashes_leave.ensures.durable c.shows_what_crashes_leave.ensures.quiet
    (still_both d (still_looked d c.past.result (still_none d c.args.store.now c.requires) c.past.ensures.looks)
    c.oldest_base.ensures.still)

pub returns-in_err-begin-clause-any_moment : goal.returns-in_err-begin-clause-any_moment
returns-in_err-begin-clause-any_moment g c = let d = g.D.Disk in leaves_begun d c.begin.new.store
    c.shows_what_crashes_leave.ensures.durable c.shows_what_crashes_leave.ensures.quiet
    (still_both d (still_looked d c.past.result (still_none d c.args.store.now c.requires) c.past.ensures.looks)
    c.oldest_base.ensures.still) c.begin.ensures.any_moment

pub returns-then-not-branch-clause-any_moment : goal.returns-then-not-branch-clause-any_moment
returns-then-not-branch-clause-any_moment g c = let d = g.D.Disk in leaves_begun d c.begin.new.store
    c.shows_what_crashes_leave.ensures.durable c.shows_what_crashes_leave.ensures.quiet
    (still_both d (still_looked d c.past.result (still_none d c.args.store.now c.requires) c.past.ensures.looks)
    c.oldest_base.ensures.still) c.begin.ensures.any_moment

pub returns-then-not-has_parts-clause-refused : goal.returns-then-not-has_parts-clause-refused
returns-then-not-has_parts-clause-refused g c = λ is honest parts. absurd (false≢true (sym c.if-not-has_parts.true
    ∙ c.has_parts.ensures.1 (subst HasParts (sym c.sectors.ensures) parts)))

pub returns-then-not-branch-clause-refused : goal.returns-then-not-branch-clause-refused
returns-then-not-branch-clause-refused g c = λ is honest parts.
    let d = g.D.Disk in
    let read = (still_both d (still_looked d c.past.result (still_none d c.args.store.now c.requires)
    c.past.ensures.looks) c.oldest_base.ensures.still) in
    uncounted_then d read (c.shows_what_crashes_leave.ensures.quiet c.requires honest) honest
    (c.in_ok-begin.ensures.refused c.if-not-branch.true (read.left.disk.device.still honest))

pub returns-then-not-branch-clause-usable : goal.returns-then-not-branch-clause-usable
returns-then-not-branch-clause-usable g c = begun_usable g.D.Disk c.oldest_base.new.store c.begin.new.store _
    c.in_ok-begin.ensures.turned

pub returns-in_err-blank_beside-clause-any_moment : goal.returns-in_err-blank_beside-clause-any_moment
returns-in_err-blank_beside-clause-any_moment g c =
    let d = g.D.Disk in
    let read = (still_both d (still_looked d c.past.result (still_none d c.args.store.now c.requires)
    c.past.ensures.looks) c.oldest_base.ensures.still) in
    forgets_then d c.begin.new.store c.blank_beside.new.store c.in_ok-base.base
    (leaves_begun d c.begin.new.store c.shows_what_crashes_leave.ensures.durable
    c.shows_what_crashes_leave.ensures.quiet read c.begin.ensures.any_moment)
    read c.begin.ensures.device.same (begun_usable d c.oldest_base.new.store c.begin.new.store _
    c.in_ok-begin.ensures.turned)
    (λ honest. (c.in_ok-begin.ensures.begun c.if-not-branch.false).anew (read.left.disk.device.still honest))
    c.blank_beside.ensures.only

pub returns-clause-any_moment : goal.returns-clause-any_moment
returns-clause-any_moment g c =
    let d = g.D.Disk in
    let read = (still_both d (still_looked d c.past.result (still_none d c.args.store.now c.requires)
    c.past.ensures.looks) c.oldest_base.ensures.still) in
    forgets_then d c.begin.new.store c.blank_beside.new.store c.in_ok-base.base
    (leaves_begun d c.begin.new.store c.shows_what_crashes_leave.ensures.durable
    c.shows_what_crashes_leave.ensures.quiet read c.begin.ensures.any_moment)
    read c.begin.ensures.device.same (begun_usable d c.oldest_base.new.store c.begin.new.store _
    c.in_ok-begin.ensures.turned)
    (λ honest. (c.in_ok-begin.ensures.begun c.if-not-branch.false).anew (read.left.disk.device.still honest))
    c.blank_beside.ensures.only

pub returns-clause-forgotten : goal.returns-clause-forgotten
returns-clause-forgotten g c = λ is honest.
    let d = g.D.Disk in
    let read = (still_both d (still_looked d c.past.result (still_none d c.args.store.now c.requires)
    c.past.ensures.looks) c.oldest_base.ensures.still) in
    let second = read.left.disk.device.still honest in
    has_forgotten d c.args.store.now c.oldest_base.new.store c.begin.new.store c.blank_beside.new.store read
    (c.shows_what_crashes_leave.ensures.quiet c.requires honest) honest c.begin.ensures.device.same
    c.in_ok-base.base (subst (λ n. IsPastPart n c.in_ok-base.base (c.in_ok-base.base + PART_SECTORS))
    c.past.ensures.looks.disk.device.as_large c.in_ok-base.ensures.beside.part)
    ((c.in_ok-begin.ensures.begun c.if-not-branch.false).anew second) c.blank_beside.ensures.device.same
    c.in_ok-blank_beside.ensures.aside.usable c.blank_beside.ensures.only
    (c.in_ok-blank_beside.ensures.blank (c.begin.ensures.device.same.still second))
