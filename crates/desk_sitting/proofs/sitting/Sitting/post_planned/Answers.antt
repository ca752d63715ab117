use Rattle.std.proofs.Common.{◌∙◌, refl, ap, Ok}
use Rattle.std.specs.Prelude.{Bool, None, if◌then◌else◌}
use Rattle.std.proofs.lemmas.Result.{err_from_is_err_and}
use Rattle.desk_journal.specs.Session.{session_of}
use Rattle.desk_sitting.specs.declared.sitting.Sitting.{Sitting}
use Rattle.desk_sitting.specs.Doing.{seat_of}
use Rattle.desk_sitting.specs.Sittings.{does_all}
use Rattle.desk_sitting.proofs.Carrying.{left_after_one, of_slice, one_event, press_broken}
use Rattle.desk_sitting.proofs.Pressed.{alone_press, press_told}
use Rattle.desk_sitting.proofs.sitting.Sitting.post_planned.Goals as goal

pub returns-in-Refused-clause-does : goal.returns-in-Refused-clause-does
returns-in-Refused-clause-does g c = rw c.in-Refused.is (alone_press g.D.Disk _ _ _ c.args.store.now c.requires
    (ap (λ (s : Sitting). seat_of s c.args.store.now) c.give_up.ensures))

pub returns-in-Says-clause-does : goal.returns-in-Says-clause-does
returns-in-Says-clause-does g c = rw c.in-Says.is (alone_press g.D.Disk _ _ _ c.args.store.now c.requires
    (ap (λ (s : Sitting). seat_of s c.args.store.now) c.say_logged.ensures))

pub returns-in-Aims-clause-does : goal.returns-in-Aims-clause-does
returns-in-Aims-clause-does g c = rw c.in-Aims.is (alone_press g.D.Disk _ _ _ c.args.store.now c.requires
    (ap (λ (s : Sitting). seat_of s c.args.store.now) c.aim.ensures))

pub returns-in-Shows-clause-does : goal.returns-in-Shows-clause-does
returns-in-Shows-clause-does g c = rw c.in-Shows.is (alone_press g.D.Disk _ _ _ c.args.store.now c.requires
    (ap (λ (s : Sitting). seat_of s c.args.store.now) c.show_cell.ensures))

pub returns-in-Tells-clause-does : goal.returns-in-Tells-clause-does
returns-in-Tells-clause-does g c = rw c.in-Tells.is (alone_press g.D.Disk _ _ _ c.args.store.now c.requires
    (ap (λ (s : Sitting). seat_of s c.args.store.now) c.say.ensures))

pub returns-in-Asks-clause-does : goal.returns-in-Asks-clause-does
returns-in-Asks-clause-does g c = rw c.in-Asks.is (alone_press g.D.Disk _ _ _ c.args.store.now c.requires
    (ap (λ (s : Sitting). seat_of s c.args.store.now) c.ask_words.ensures))

pub returns-in-Keeps-clause-does : goal.returns-in-Keeps-clause-does
returns-in-Keeps-clause-does g c = rw c.in-Keeps.is (alone_press g.D.Disk _ _ _ c.args.store.now c.requires
    (ap (λ (s : Sitting). seat_of s c.args.store.now) c.remember.ensures))

pub returns-in-PutsAway-clause-does : goal.returns-in-PutsAway-clause-does
returns-in-PutsAway-clause-does g c = rw c.in-PutsAway.is (alone_press g.D.Disk _ _ _ c.args.store.now c.requires
    (ap (λ (s : Sitting). seat_of s c.args.store.now) c.put_pointer_away.ensures))

pub returns-in-Next-clause-does : goal.returns-in-Next-clause-does
returns-in-Next-clause-does g c = rw c.in-Next.is (alone_press g.D.Disk _ _ _ c.args.store.now c.requires refl)

pub returns-in_ok-done-in-Event-clause-does : goal.returns-in_ok-done-in-Event-clause-does
returns-in_ok-done-in-Event-clause-does g c = rw c.in-Event.is (press_told g.D.Disk _
    (one_event g.D.Disk c.in-Event.event (Ok _) c.args.self.now c.post.new.self c.args.store.now c.post.new.store
    c.in_ok-done-in-Event.ensures.comes c.in_ok-done-in-Event.ensures.past))

pub returns-in_ok-done-in-Event-clause-left : goal.returns-in_ok-done-in-Event-clause-left
returns-in_ok-done-in-Event-clause-left g c = rw c.in-Event.is (λ honest durable.
    left_after_one c.in_ok-done-in-Event.done c.in-Event.next c.in-Event.event (seat_of c.args.self.now c.args.store.now)
    c.left_if.result c.left_if.ensures (c.in_ok-done-in-Event.ensures.done honest))

pub returns-in_err-done-in-Event-clause-does : goal.returns-in_err-done-in-Event-clause-does
returns-in_err-done-in-Event-clause-does g c =
    let p = err_from_is_err_and c.from_residual.result c.from_residual.ensures.1 in
    rw (p.1, p.2, c.in-Event.is) (press_broken g.D.Disk _ (one_event g.D.Disk c.in-Event.event _ c.args.self.now
    c.post.new.self c.args.store.now c.post.new.store c.in_err-done-in-Event.ensures.comes c.in_err-done-in-Event.ensures.past))

pub returns-in_ok-all-in-Events-clause-does : goal.returns-in_ok-all-in-Events-clause-does
returns-in_ok-all-in-Events-clause-does g c = rw c.in-Events.is (press_told g.D.Disk _
    (of_slice g.D.Disk c.as_slice.ensures.value c.args.self.now c.in_ok-all-in-Events.ensures.does))

pub returns-in_ok-all-in-Events-clause-left : goal.returns-in_ok-all-in-Events-clause-left
returns-in_ok-all-in-Events-clause-left g c = rw c.in-Events.is (λ honest durable.
    c.left_if-in-Events.ensures ∙ ap (λ (b : Bool). if b then c.in-Events.next else None)
    (c.in_ok-all-in-Events.ensures.done honest durable
    ∙ ap (does_all (session_of c.args.store.now)) c.as_slice.ensures.value))

pub returns-in_err-all-in-Events-clause-does : goal.returns-in_err-all-in-Events-clause-does
returns-in_err-all-in-Events-clause-does g c =
    let p = err_from_is_err_and c.from_residual-in_err-all-in-Events.result c.from_residual-in_err-all-in-Events.ensures.1 in
    rw (p.1, p.2, c.in-Events.is) (press_broken g.D.Disk _
    (of_slice g.D.Disk c.as_slice.ensures.value c.args.self.now c.in_err-all-in-Events.ensures.does))
