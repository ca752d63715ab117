use Rattle.std.proofs.Common.{◌≡◌, ◌∙◌, ap, arith, refl, take}
use Rattle.desk_past.proofs.Stepping.{led_events, led_import, led_none, led_turn}
use Rattle.desk_past.proofs.reading.do_first.Goals as goal

pub returns-then-count-eq0-clause-done : goal.returns-then-count-eq0-clause-done
returns-then-count-eq0-clause-done g c = λ p read free.
    (refl, led_none g.E.Disk c.args.shown.now p c.args.count c.if-count-eq0.true)

pub returns-in_ok-post_all-in-Events-clause-done : goal.returns-in_ok-post_all-in-Events-clause-done
returns-in_ok-post_all-in-Events-clause-done g c = λ p read free. (
  refl,
  led_events g.E.Disk c.args.deeds.now p c.args.count c.in-Events.events.items
      (λ version page is. (rw c.in-Events.is at is)) (λ version page is. (rw c.in-Events.is at is))
      (λ version k to is. (rw c.in-Events.is at is)) (λ version far sectors to is. (rw c.in-Events.is at is)) read
      (c.split_at.ensures.front ∙ ap (take c.args.count) c.as_slice.ensures.value)
      c.in_ok-post_all-in-Events.ensures.led
      c.in_ok-post_all-in-Events.ensures.usable,
)

pub returns-in_ok-brought-in-Import-clause-done : goal.returns-in_ok-brought-in-Import-clause-done
returns-in_ok-brought-in-Import-clause-done g c = λ p read free. (
  refl,
  led_import g.E.Disk c.args.deeds.now p c.args.count c.as_slice-in-Import.result.now
      (λ version page is. (rw c.in-Import.is at is))
      (λ version page is. c.as_slice-in-Import.ensures.value ∙ (rw c.in-Import.is at is))
      (λ version k to is. (rw c.in-Import.is at is)) (λ version far sectors to is. (rw c.in-Import.is at is)) read
      (let few = rw c.in-Import.is at c.requires in omega (arith, few, c.if-count-eq0.false))
      c.brought.ensures.device.still c.in_ok-brought-in-Import.ensures.ok,
)

pub returns-in-Turn-clause-done : goal.returns-in-Turn-clause-done
returns-in-Turn-clause-done g c = λ p read free. absurd (led_turn c.args.deeds.now p c.args.count
    (λ version page is. (rw c.in-Turn.is at is)) (λ version page is. (rw c.in-Turn.is at is))
    (λ version sectors to is. (rw c.in-Turn.is at is)) read (omega (arith, c.if-count-eq0.false)) free)

pub returns-in-FarTurn-clause-done : goal.returns-in-FarTurn-clause-done
returns-in-FarTurn-clause-done g c = λ p read free. absurd (led_turn c.args.deeds.now p c.args.count
    (λ version page is. (rw c.in-FarTurn.is at is)) (λ version page is. (rw c.in-FarTurn.is at is))
    (λ version sectors to is. (rw c.in-FarTurn.is at is)) read (omega (arith, c.if-count-eq0.false)) free)

pub returns-in-Mark-clause-done : goal.returns-in-Mark-clause-done
returns-in-Mark-clause-done g c = λ p read free.
    let few = rw c.in-Mark.is at c.requires in absurd (omega (arith, few, c.if-count-eq0.false))
