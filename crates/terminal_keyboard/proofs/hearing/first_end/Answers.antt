use Rattle.std.proofs.Common.{◌≡◌, ◌+◌, ◌≤◌, ◌∙◌, false, drop, length, sym, arith}
use Rattle.terminal_keyboard.specs.Hearings.{line_from}
use Rattle.terminal_keyboard.proofs.Hearings.{line_at, line_on, none_left}
use Rattle.terminal_keyboard.proofs.hearing.first_end.Goals as goal

pub returns-then-ends_line : goal.returns-then-ends_line
returns-then-ends_line c =
    let one = line_at c.loop-i.after_escape _ c.args.heard.now c.loop-i.i (omega arith)
    (sym c.ends_line.ensures ∙ c.if-ends_line.true) in
    omega (arith, c.loop-i.invariant, one)

pub loop-i-preserved : goal.loop-i-preserved
loop-i-preserved c =
    let heard = c.args.heard.now in
    let on = line_on c.loop-i.after_escape c.is_escape-after_escape.result _ heard c.loop-i.i (c.loop-i.i + 1) (omega arith)
    (sym c.ends_line.ensures ∙ c.if-ends_line.false) c.is_escape-after_escape.ensures (omega arith) in
    let more : line_from false heard
    ≡ (c.loop-i.i + 1) + line_from c.is_escape-after_escape.result (drop (c.loop-i.i + 1) heard) =
    omega (arith, c.loop-i.invariant, on) in
    more

pub returns : goal.returns
returns c =
    let all : length c.args.heard.now ≤ c.loop-i.i = omega (arith, c.loop-i-test.false) in
    let none = none_left c.loop-i.after_escape c.args.heard.now c.loop-i.i all in
    omega (arith, c.loop-i.invariant, none)
