use Rattle.std.proofs.Common.{arith, ap, refl, sym, ◌∙◌, length, ◌≡◌, ◌<◌, ◌++◌, get_or, set, []}
use Rattle.std.proofs.lemmas.List.{length-set}
use Rattle.arrayvec.proofs.ArrayVecLemmas.{items-with_items}
use Rattle.screen_pictures.specs.Screen.{values}
use Rattle.screen_drawing.specs.Scene.{scene_row, scene_rows, height_of}
use Rattle.screen_drawing.proofs.Leading.{row_front, row_led, rows_led_all, rows_led_none, no_values}
use Rattle.screen_drawing.proofs.Leading.{any_default, row_wide}
use Rattle.byte_streams.proofs.Taking.{on_err}
use Rattle.screen_drawing.proofs.Seeing.{done_all, done_long, done_more, old_here}
use Rattle.screen_drawing.proofs.Sendable.{row_long, row_printable}
use Rattle.screen_drawing.proofs.painter.paint_rows.Goals as goal

pub loop-y-init : goal.loop-y-init
loop-y-init g c = record {
  rows = sym (ap (λ l. l ++ c.args.known.now.items) (no_values (scene_row c.args.scene.now)));
  led = rows_led_none _ c.args.scene.now.width (height_of c.args.scene.now) (scene_row c.args.scene.now)
      c.args.known.now.items c.requires.known;
  calm = refl;
}

pub bounds-deref_mut-from : goal.bounds-deref_mut-from
bounds-deref_mut-from g c =
    let held : length c.deref_mut.result.now ≡ length c.args.known.now.items =
    ap length c.deref_mut.ensures.value
    ∙ done_long c.loop-y.y (scene_row c.args.scene.now) c.args.known.now.items c.loop-y.known.items
    c.loop-y.invariant.rows (omega arith) in
    omega arith

pub paint_row-requires-clause-wide : goal.paint_row-requires-clause-wide
paint_row-requires-clause-wide g c =
    let olds = c.args.known.now.items in
    let inside : c.loop-y.y < length olds = omega arith in
    let held : length c.deref_mut.result.now ≡ length olds =
    ap length c.deref_mut.ensures.value
    ∙ done_long c.loop-y.y (scene_row c.args.scene.now) olds c.loop-y.known.items c.loop-y.invariant.rows (omega arith) in
    let old : get_or c.deref_mut.result.now c.from.result c.index-deref_mut-from.result ≡ get_or olds c.loop-y.y [] =
    any_default c.deref_mut.result.now c.from.result _ (omega arith)
    ∙ (λ i. get_or (c.deref_mut.ensures.value i) (c.from.ensures i) [])
    ∙ old_here c.loop-y.y (scene_row c.args.scene.now) olds c.loop-y.known.items c.loop-y.invariant.rows [] inside in
    ap length old ∙ row_wide c.args.scene.now.width olds c.loop-y.y c.requires.wide inside

pub loop-y-preserved : goal.loop-y-preserved
loop-y-preserved g c =
    let scene = c.args.scene.now in
    let olds = c.args.known.now.items in
    let inside : c.loop-y.y < length olds = omega arith in
    let held : length c.deref_mut.result.now ≡ length olds =
    ap length c.deref_mut.ensures.value
    ∙ done_long c.loop-y.y (scene_row c.args.scene.now) olds c.loop-y.known.items c.loop-y.invariant.rows (omega arith) in
    let old : get_or c.deref_mut.result.now c.from.result c.index-deref_mut-from.result ≡ get_or olds c.loop-y.y [] =
    any_default c.deref_mut.result.now c.from.result _ (omega arith)
    ∙ (λ i. get_or (c.deref_mut.ensures.value i) (c.from.ensures i) [])
    ∙ old_here c.loop-y.y (scene_row c.args.scene.now) olds c.loop-y.known.items c.loop-y.invariant.rows [] inside in
    let news = set c.deref_mut.result.now c.from.result c.paint_row.new.known in
    record {
      rows = items-with_items c.loop-y.known news
          (length-set c.deref_mut.result.now c.from.result c.paint_row.new.known ∙ ap length c.deref_mut.ensures.value)
          ∙ (λ i. set (c.deref_mut.ensures.value i) (c.from.ensures i) c.paint_row.new.known)
          ∙ done_more c.loop-y.y (scene_row scene) olds c.loop-y.known.items c.loop-y.invariant.rows [] inside
          c.paint_row.new.known c.in_ok-paint_row.ensures.row;
      led = row_led _ _ _ _ scene.width (height_of scene) c.loop-y.y (scene_row scene) _ _ _ _ (omega arith)
          (omega arith) (omega arith) refl old
          (ap length old ∙ row_wide scene.width olds c.loop-y.y c.requires.wide inside)
          (row_long scene c.loop-y.y) (row_printable scene c.loop-y.y) refl
          c.in_ok-paint_row.ensures.sent.sent c.loop-y.invariant.led;
      calm = c.in_ok-paint_row.ensures.cause ∙ c.loop-y.invariant.calm;
    }

pub returns-in_err-paint_row-clause-front : goal.returns-in_err-paint_row-clause-front
returns-in_err-paint_row-clause-front g c =
    let scene = c.args.scene.now in
    let olds = c.args.known.now.items in
    let inside : c.loop-y.y < length olds = omega arith in
    let held : length c.deref_mut.result.now ≡ length olds =
    ap length c.deref_mut.ensures.value
    ∙ done_long c.loop-y.y (scene_row c.args.scene.now) olds c.loop-y.known.items c.loop-y.invariant.rows (omega arith) in
    let old : get_or c.deref_mut.result.now c.from.result c.index-deref_mut-from.result ≡ get_or olds c.loop-y.y [] =
    any_default c.deref_mut.result.now c.from.result _ (omega arith)
    ∙ (λ i. get_or (c.deref_mut.ensures.value i) (c.from.ensures i) [])
    ∙ old_here c.loop-y.y (scene_row c.args.scene.now) olds c.loop-y.known.items c.loop-y.invariant.rows [] inside in
    on_err c.from_residual.result
    (row_front _ _ _ (height_of scene) c.loop-y.y (scene_row scene) _ _ _ _ (omega arith)
    refl old refl c.loop-y.invariant.led.sent c.in_err-paint_row.ensures.sent.front)

pub returns-clause-rows : goal.returns-clause-rows
unfolding scene_rows
returns-clause-rows g c =
    let past : c.loop-y.y ≡ height_of c.args.scene.now = omega arith in
    done_all c.loop-y.y (scene_row c.args.scene.now) c.args.known.now.items c.loop-y.known.items c.loop-y.invariant.rows
    (omega arith)
    ∙ ap (λ n. values n (scene_row c.args.scene.now)) past

pub returns-clause-led : goal.returns-clause-led
unfolding scene_rows
returns-clause-led g c =
    let past : c.loop-y.y ≡ height_of c.args.scene.now = omega arith in
    rows_led_all _ _ c.args.scene.now.width (height_of c.args.scene.now) c.loop-y.y (scene_row c.args.scene.now)
    c.args.known.now.items past c.loop-y.invariant.led
