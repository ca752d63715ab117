use Rattle.std.proofs.Common.{◌≡◌, ℕ, ◌-◌, List, length, refl, sym, ap, ◌∙◌, arith}
use Rattle.event_bytes.specs.declared.event.Event.{Event}
use Rattle.event_bytes.specs.Spelling.{spelling}
use Rattle.event_bytes.proofs.PartLaws.{some_is}
use Rattle.event_bytes.proofs.EventParts.{begins_read, read_begins, read_length}
use Rattle.event_bytes.proofs.event.Event.decode.Goals as goal

pub returns-in_err-event-clause-only : goal.returns-in_err-event-clause-only
returns-in_err-event-clause-only c event begins = let h = c.in_err-event.ensures
    ∙ begins_read c.args.bytes.now event begins in absurd (cc)

pub overflow_sub-result : goal.overflow_sub-result
overflow_sub-result c =
    omega (arith, read_length c.args.bytes.now c.in_ok-event.event c.in_ok-event.rest.now (sym c.in_ok-event.ensures))

pub returns-clause-found : goal.returns-clause-found
returns-clause-found c =
    read_begins c.args.bytes.now c.in_ok-event.event c.in_ok-event.rest.now (sym c.in_ok-event.ensures)

pub returns-clause-count : goal.returns-clause-count
returns-clause-count c =
    omega (arith, read_length c.args.bytes.now c.in_ok-event.event c.in_ok-event.rest.now (sym c.in_ok-event.ensures))

pub returns-clause-only : goal.returns-clause-only
returns-clause-only c event begins =
    let same = some_is {A = Event
    × List ℕ} (c.in_ok-event.event, c.in_ok-event.rest.now) (event, begins.rest) (c.in_ok-event.ensures
    ∙ begins_read c.args.bytes.now event begins) in
    let len : length c.args.bytes.now - length c.in_ok-event.rest.now ≡ length (spelling c.in_ok-event.event) =
    omega (
      arith,
      read_length c.args.bytes.now c.in_ok-event.event c.in_ok-event.rest.now (sym c.in_ok-event.ensures),
    ) in
    rw (len, ap (λ (x : Event × List ℕ). x.0) same) refl
