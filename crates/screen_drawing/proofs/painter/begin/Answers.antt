use Rattle.std.proofs.Common.{ap, sym, ◌∙◌}
use Rattle.screen_drawing.specs.Painting.{are_wide}
use Rattle.screen_drawing.proofs.Leading.{begun_blank, begun_blank_front, begun_known, begun_known_front}
use Rattle.screen_drawing.proofs.Leading.{blank_wide, known_long, known_rows, other_rows}
use Rattle.byte_streams.proofs.Taking.{on_err}
use Rattle.screen_drawing.proofs.painter.begin.Goals as goal

pub returns-then-are_of_size-clause-led : goal.returns-then-are_of_size-clause-led
returns-then-are_of_size-clause-led g c = begun_known _ _ c.args.width c.args.height c.args.known.now.items
    (sym c.are_of_size.ensures ∙ c.if-are_of_size.true) c.in_ok-send.ensures.sent.sent

pub returns-then-are_of_size-clause-rows : goal.returns-then-are_of_size-clause-rows
returns-then-are_of_size-clause-rows g c = known_rows c.args.width c.args.height c.args.known.now.items
    (sym c.are_of_size.ensures ∙ c.if-are_of_size.true)

pub returns-then-are_of_size-clause-long : goal.returns-then-are_of_size-clause-long
returns-then-are_of_size-clause-long g c = (known_long c.args.width c.args.height c.args.known.now.items
    (sym c.are_of_size.ensures ∙ c.if-are_of_size.true)).0

pub returns-then-are_of_size-clause-wide : goal.returns-then-are_of_size-clause-wide
returns-then-are_of_size-clause-wide g c = (known_long c.args.width c.args.height c.args.known.now.items
    (sym c.are_of_size.ensures ∙ c.if-are_of_size.true)).1

pub returns-clause-led : goal.returns-clause-led
returns-clause-led g c = begun_blank _ _ c.args.width c.args.height c.args.known.now.items _
    (sym c.are_of_size.ensures ∙ c.if-are_of_size.false) c.plain.ensures c.in_ok-send-2.ensures.sent.sent

pub returns-clause-rows : goal.returns-clause-rows
returns-clause-rows g c = c.blank_rows.ensures ∙ other_rows c.args.width c.args.height c.args.known.now.items
    (sym c.are_of_size.ensures ∙ c.if-are_of_size.false)

pub returns-clause-wide : goal.returns-clause-wide
returns-clause-wide g c =
    ap (are_wide c.args.width) c.blank_rows.ensures ∙ blank_wide c.args.width c.args.height

pub returns-in_err-send-clause-front : goal.returns-in_err-send-clause-front
returns-in_err-send-clause-front g c = on_err c.from_residual.result
    (begun_known_front _ _ c.args.width c.args.height c.args.known.now.items
    (sym c.are_of_size.ensures ∙ c.if-are_of_size.true) c.in_err-send.ensures.sent.front)

pub returns-in_err-send-2-clause-front : goal.returns-in_err-send-2-clause-front
returns-in_err-send-2-clause-front g c = on_err c.from_residual-in_err-send-2.result
    (begun_blank_front _ _ c.args.width c.args.height c.args.known.now.items _
    (sym c.are_of_size.ensures ∙ c.if-are_of_size.false) c.plain.ensures c.in_err-send-2.ensures.sent.front)
