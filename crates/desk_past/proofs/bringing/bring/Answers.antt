use Rattle.std.proofs.Common.{◌∙◌, sym}
use Rattle.std.proofs.lemmas.Result.{IfOk-weaker, err_from_is_err_and}
use Rattle.store_slots.specs.declared.error.Error.TheVariants.{MustReopen, Worn}
use Rattle.past_pages.proofs.StillReads.{still_none, usable_of}
use Rattle.desk_past.proofs.ImportWays.{all_or_none_behind, both_ok, brings_behind, kept_behind, kept_or_not, left_then}
use Rattle.desk_past.proofs.ImportWays.{none_brought, none_forgotten, none_reopen, none_worn, not_last, reopen_behind}
use Rattle.desk_past.proofs.ImportWays.{told_epoch, unwritten_behind, worn_behind}
use Rattle.desk_past.proofs.Ways.{never, not_reopen, not_worn}
use Rattle.desk_past.proofs.Sparing.{only_behind_reads, only_none, only_read, only_within, only_within_read, uses_only}
use Rattle.std.proofs.Common.{rules}
use Rattle.desk_past.proofs.bringing.bring.Goals as goal

pub returns-then-info-clause-ok : goal.returns-then-info-clause-ok
returns-then-info-clause-ok g c =
    let usable = usable_of c.args.store.now.must_reopen c.info.ensures.reopen c.in_ok-info.was in
    let d = g.D.Disk in
    IfOk-weaker c.bring.result _ _ (λ reply came. kept_or_not d (still_none d c.args.store.now usable)
    c.shows_what_crashes_leave.ensures.durable c.shows_what_crashes_leave.ensures.quiet c.args.documents.now reply came
    (λ honest start deeds desktop keeps can.
    can.add.later (sym (told_epoch c.in_ok-info.was (c.info.ensures.value usable)) ∙ c.if-info.true)))
    c.bring.ensures.ok

pub returns-then-info-clause-memory : goal.returns-then-info-clause-memory
returns-then-info-clause-memory g c = λ is.
    (c.bring.ensures.memory is).unwritten

pub returns-then-info-clause-left : goal.returns-then-info-clause-left
returns-then-info-clause-left g c =
    left_then g.D.Disk c.bring.result c.bring.new.self c.bring.ensures.behaves.faults.errors
    (λ is. (c.bring.ensures.memory is).closed) c.bring.ensures.fault c.bring.ensures.behaves.reopen c.bring.ensures.worn
    (still_none g.D.Disk c.args.store.now
    (usable_of c.args.store.now.must_reopen c.info.ensures.reopen c.in_ok-info.was)).left

pub returns-then-info-clause-nothing_forgotten : goal.returns-then-info-clause-nothing_forgotten
returns-then-info-clause-nothing_forgotten g c = λ honest start deeds desktop keeps can.
    let usable = usable_of c.args.store.now.must_reopen c.info.ensures.reopen c.in_ok-info.was in
    absurd (can.add.later (sym (told_epoch c.in_ok-info.was (c.info.ensures.value usable)) ∙ c.if-info.true))

pub returns-in_err-ahead-clause-any_moment : goal.returns-in_err-ahead-clause-any_moment
returns-in_err-ahead-clause-any_moment g c =
    none_brought g.D.Disk c.pages_ahead.ensures.still c.shows_what_crashes_leave.ensures.durable
    c.shows_what_crashes_leave.ensures.quiet
    c.args.documents.now

pub returns-in_err-ahead-clause-nothing_forgotten : goal.returns-in_err-ahead-clause-nothing_forgotten
returns-in_err-ahead-clause-nothing_forgotten g c =
    none_forgotten g.D.Disk c.pages_ahead.ensures.still c.shows_what_crashes_leave.ensures.durable
    c.shows_what_crashes_leave.ensures.quiet
    c.args.documents.now

pub returns-in_err-ahead-clause-worn : goal.returns-in_err-ahead-clause-worn
returns-in_err-ahead-clause-worn g c =
    let usable = usable_of c.args.store.now.must_reopen c.info.ensures.reopen c.in_ok-info.was in
    let later = not_last c.in_ok-info.was (c.info.ensures.value usable) c.if-info.false in
    let p = err_from_is_err_and c.from_residual-in_err-ahead.result c.from_residual-in_err-ahead.ensures.1 in
    none_worn c.pages_ahead.new.store c.from_residual-in_err-ahead.result (usable, later) (λ is.
    never c.pages_ahead.result Worn c.pages_ahead.ensures.faults.errors not_worn
    (cc (p.1, p.2, is, c.in_err-ahead.was)))

pub returns-in_err-ahead-clause-reopen : goal.returns-in_err-ahead-clause-reopen
returns-in_err-ahead-clause-reopen g c =
    let usable = usable_of c.args.store.now.must_reopen c.info.ensures.reopen c.in_ok-info.was in
    let later = not_last c.in_ok-info.was (c.info.ensures.value usable) c.if-info.false in
    let p = err_from_is_err_and c.from_residual-in_err-ahead.result c.from_residual-in_err-ahead.ensures.1 in
    none_reopen c.pages_ahead.new.store c.from_residual-in_err-ahead.result (usable, later) (λ is.
    never c.pages_ahead.result MustReopen c.pages_ahead.ensures.faults.errors not_reopen
    (cc (p.1, p.2, is, c.in_err-ahead.was)))

pub returns-in_default-clause-any_moment : goal.returns-in_default-clause-any_moment
returns-in_default-clause-any_moment g c =
    all_or_none_behind g.D.Disk c.pages_ahead.ensures.still c.shows_what_crashes_leave.ensures.durable
    c.shows_what_crashes_leave.ensures.quiet
    c.args.documents.now c.bring-in_default.new.self c.bring-in_default.ensures.any_moment

pub returns-in_default-clause-ok : goal.returns-in_default-clause-ok
returns-in_default-clause-ok g c =
    IfOk-weaker c.bring-in_default.result _ _ (λ reply came. kept_or_not g.D.Disk c.pages_ahead.ensures.still
    c.shows_what_crashes_leave.ensures.durable c.shows_what_crashes_leave.ensures.quiet c.args.documents.now reply came
    (rw c.in_default.is at c.in_ok-ahead.ensures.none)) c.bring-in_default.ensures.ok

pub returns-in_default-clause-memory : goal.returns-in_default-clause-memory
returns-in_default-clause-memory g c = λ is.
    unwritten_behind g.D.Disk c.pages_ahead.ensures.still (c.bring-in_default.ensures.memory is).unwritten

pub returns-in_default-clause-left : goal.returns-in_default-clause-left
returns-in_default-clause-left g c =
    left_then g.D.Disk c.bring-in_default.result c.bring-in_default.new.self
    c.bring-in_default.ensures.behaves.faults.errors
    (λ is. (c.bring-in_default.ensures.memory is).closed) c.bring-in_default.ensures.fault
    c.bring-in_default.ensures.behaves.reopen c.bring-in_default.ensures.worn
    c.pages_ahead.ensures.still.left

pub returns-in_default-clause-worn : goal.returns-in_default-clause-worn
returns-in_default-clause-worn g c =
    let usable = usable_of c.args.store.now.must_reopen c.info.ensures.reopen c.in_ok-info.was in
    let later = not_last c.in_ok-info.was (c.info.ensures.value usable) c.if-info.false in
    worn_behind g.D.Disk c.pages_ahead.ensures.still c.bring-in_default.new.self c.bring-in_default.result later
    c.bring-in_default.ensures.worn

pub returns-in_default-clause-reopen : goal.returns-in_default-clause-reopen
returns-in_default-clause-reopen g c =
    reopen_behind g.D.Disk c.pages_ahead.ensures.still c.bring-in_default.new.self c.bring-in_default.result
    (usable_of c.args.store.now.must_reopen c.info.ensures.reopen c.in_ok-info.was)
    c.bring-in_default.ensures.behaves.reopen

pub returns-in_default-clause-nothing_forgotten : goal.returns-in_default-clause-nothing_forgotten
returns-in_default-clause-nothing_forgotten g c = λ honest start deeds desktop keeps can.
    absurd ((rw c.in_default.is at c.in_ok-ahead.ensures.none) honest start deeds desktop keeps can)

pub returns-clause-any_moment : goal.returns-clause-any_moment
returns-clause-any_moment g c =
    all_or_none_behind g.D.Disk c.pages_ahead.ensures.still c.shows_what_crashes_leave.ensures.durable
    c.shows_what_crashes_leave.ensures.quiet
    c.args.documents.now c.bring_behind.new.self c.bring_behind.ensures.any_moment

pub returns-clause-ok : goal.returns-clause-ok
returns-clause-ok g c =
    both_ok c.bring_behind.result c.bring_behind.ensures.ok c.bring_behind.ensures.comes.done (λ reply came goes.
    kept_behind g.D.Disk c.pages_ahead.ensures.still c.shows_what_crashes_leave.ensures.durable
    c.shows_what_crashes_leave.ensures.quiet c.args.documents.now c.in-Some.ahead.past c.in-Some.ahead.from
    c.in-Some.ahead.limit c.bring_behind.new.self c.shows_what_crashes_leave-2.ensures.quiet
    c.bring_behind.ensures.behaves.within c.as_slice.ensures.value (rw c.in-Some.is at c.in_ok-ahead.ensures.ahead)
    reply came goes)

pub returns-clause-memory : goal.returns-clause-memory
returns-clause-memory g c = λ is.
    unwritten_behind g.D.Disk c.pages_ahead.ensures.still (c.bring_behind.ensures.memory is).unwritten

pub returns-clause-left : goal.returns-clause-left
returns-clause-left g c =
    left_then g.D.Disk c.bring_behind.result c.bring_behind.new.self c.bring_behind.ensures.behaves.faults.errors
    (λ is. (c.bring_behind.ensures.memory is).closed) c.bring_behind.ensures.fault c.bring_behind.ensures.behaves.reopen
    c.bring_behind.ensures.worn
    c.pages_ahead.ensures.still.left

pub returns-clause-worn : goal.returns-clause-worn
returns-clause-worn g c =
    let usable = usable_of c.args.store.now.must_reopen c.info.ensures.reopen c.in_ok-info.was in
    let later = not_last c.in_ok-info.was (c.info.ensures.value usable) c.if-info.false in
    worn_behind g.D.Disk c.pages_ahead.ensures.still c.bring_behind.new.self c.bring_behind.result later
    c.bring_behind.ensures.worn

pub returns-clause-reopen : goal.returns-clause-reopen
returns-clause-reopen g c =
    reopen_behind g.D.Disk c.pages_ahead.ensures.still c.bring_behind.new.self c.bring_behind.result
    (usable_of c.args.store.now.must_reopen c.info.ensures.reopen c.in_ok-info.was)
    c.bring_behind.ensures.behaves.reopen

pub returns-clause-nothing_forgotten : goal.returns-clause-nothing_forgotten
returns-clause-nothing_forgotten g c =
    brings_behind g.D.Disk c.pages_ahead.ensures.still c.shows_what_crashes_leave.ensures.durable
    c.shows_what_crashes_leave.ensures.quiet c.args.documents.now c.in-Some.ahead.past c.in-Some.ahead.from
    c.in-Some.ahead.limit c.bring_behind.new.self c.shows_what_crashes_leave-2.ensures.quiet
    c.bring_behind.ensures.behaves.within c.as_slice.ensures.value (rw c.in-Some.is at c.in_ok-ahead.ensures.ahead)
    c.bring_behind.ensures.comes.moments

-- ---- what is written behind the store

pub returns-in_err-info-clause-device : goal.returns-in_err-info-clause-device
returns-in_err-info-clause-device g c =
    uses_only g.D.Disk (search rules) (only_none g.D.Disk c.shows_what_crashes_leave.ensures.quiet)

pub returns-then-info-clause-device : goal.returns-then-info-clause-device
returns-then-info-clause-device g c = uses_only g.D.Disk (search rules)
    (only_within g.D.Disk c.bring.ensures.behaves.within c.shows_what_crashes_leave.ensures.quiet)

pub returns-in_err-ahead-clause-device : goal.returns-in_err-ahead-clause-device
returns-in_err-ahead-clause-device g c = uses_only g.D.Disk (search rules)
    (only_read g.D.Disk c.pages_ahead.ensures.still.left.disk c.shows_what_crashes_leave.ensures.quiet)

pub returns-in_default-clause-device : goal.returns-in_default-clause-device
returns-in_default-clause-device g c = uses_only g.D.Disk (search rules)
    (only_within_read g.D.Disk c.pages_ahead.new.store c.bring-in_default.new.self c.pages_ahead.ensures.still.left.disk
    c.shows_what_crashes_leave.ensures.quiet (λ _. c.pages_ahead.ensures.still.usable)
    c.bring-in_default.ensures.behaves.within)

pub returns-clause-device : goal.returns-clause-device
returns-clause-device g c = uses_only g.D.Disk (search rules)
    (only_behind_reads g.D.Disk c.pages_ahead.new.store c.bring_behind.new.self c.in-Some.ahead.from
    c.in-Some.ahead.limit
    c.pages_ahead.ensures.still.left.disk c.shows_what_crashes_leave.ensures.quiet
    (λ _. c.pages_ahead.ensures.still.usable) (rw c.in-Some.is at c.in_ok-ahead.ensures.inside)
    c.bring_behind.ensures.behaves.within)
