use Rattle.std.proofs.Common.{◌≡◌, ◌++◌, ◌∙◌, sym, ap, subst, arith, length, drop, length-drop}
use Rattle.piece_ring.specs.Text.{Text}
use Rattle.screen_pictures.specs.Printed.{ended_line}
use Rattle.script_lines.specs.Answer.{escaped_answer, look_words}
use Rattle.script_lines.specs.Stretch.{stretch_bytes}
use Rattle.script_lines.proofs.Stretches.{lines_of, some_counted, line_more}
use Rattle.script_lines.proofs.answer.text_bytes.Goals as goal

pub loop-first-smaller : goal.loop-first-smaller
loop-first-smaller c =
    let rest = c.loop-first.rest.now in
    let count = c.count_in_look.ensures in
    let some = some_counted rest c.in-Some.first.now (sym c.in-Some.ensures.value) in
    let behind : length c.split_at.result.1.now ≡ length (drop c.count_in_look.result rest) =
    ap length c.split_at.ensures.back in
    let shorter = length-drop c.count_in_look.result rest in
    omega (arith, some, count.count, count.within, behind, shorter)

pub loop-first-preserved : goal.loop-first-preserved
loop-first-preserved c =
    let rest = c.loop-first.rest.now in
    let first = c.in-Some.first.now in
    let n = c.count_in_look.result in
    let all = lines_of c.args.text.now in
    let grown = c.in_ok-push_stretch.ensures ∙ ap (λ (s : Text _). c.loop-first.bytes.items
    ++ ended_line (look_words first.1 ++ escaped_answer (stretch_bytes s))) c.split_at.ensures.front in
    subst (λ (r : Text _). c.push_stretch.new.text.items ++ lines_of r ≡ all) (sym c.split_at.ensures.back)
    (line_more c.loop-first.bytes.items c.push_stretch.new.text.items rest first n all
    (sym c.in-Some.ensures.value) c.count_in_look.ensures.count grown c.loop-first.invariant)
