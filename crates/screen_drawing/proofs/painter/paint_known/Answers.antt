use Rattle.std.proofs.Common.{arith, refl}
use Rattle.byte_streams.proofs.Taking.{on_err}
use Rattle.screen_drawing.proofs.Leading.{begin_front, end_front, painted, rows_front}
use Rattle.screen_drawing.proofs.painter.paint_known.Goals as goal

pub returns-in_err-begin-clause-front : goal.returns-in_err-begin-clause-front
returns-in_err-begin-clause-front g c = on_err c.from_residual.result
    (begin_front _ _ c.args.scene.now _ c.args.known.now.items c.cursor-place.result c.height.ensures.value refl
    c.cursor-place.ensures.stands _ c.in_err-begin.ensures.front)

pub returns-in_err-paint_rows-clause-front : goal.returns-in_err-paint_rows-clause-front
returns-in_err-paint_rows-clause-front g c = on_err c.from_residual-in_err-paint_rows.result
    (rows_front _ _ c.args.scene.now _ c.args.known.now.items c.cursor-place.result c.height.ensures.value refl
    c.cursor-place.ensures.stands _ _ _ refl c.in_ok-begin.ensures.rows c.in_ok-begin.ensures.led _
    c.in_err-paint_rows.ensures.front)

pub returns-in_err-finish-clause-front : goal.returns-in_err-finish-clause-front
returns-in_err-finish-clause-front g c = on_err c.from_residual-in_err-finish.result
    (end_front _ _ c.args.scene.now _ c.args.known.now.items c.cursor-place.result c.height.ensures.value refl
    c.cursor-place.ensures.stands _ _ _ refl c.in_ok-begin.ensures.rows c.in_ok-begin.ensures.led _
    c.in_ok-paint_rows.ensures.led _ c.in_err-finish.ensures.sent.front)

pub returns-clause-shown : goal.returns-clause-shown
returns-clause-shown g c = painted _ _ c.args.scene.now _ c.args.known.now.items c.cursor-place.result
    c.height.ensures.value refl c.cursor-place.ensures.stands _ _ _ refl c.in_ok-begin.ensures.rows
    c.in_ok-begin.ensures.led _ c.in_ok-paint_rows.ensures.led _ (omega arith) (omega arith) (omega arith)
    c.in_ok-finish.ensures.sent.sent
