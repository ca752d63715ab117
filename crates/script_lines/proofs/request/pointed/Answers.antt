use Rattle.std.proofs.Common.{rules, ◌≡◌, Some, true, sym}
use Rattle.std.specs.Prelude.{codes}
use Rattle.std.specs.Str.{bytes_eq}
use Rattle.script_lines.specs.Words.{argument}
use Rattle.script_lines.proofs.Pointing.{pointed_line}
use Rattle.script_lines.proofs.request.pointed.Goals as goal

pub returns-then-is_text : goal.returns-then-is_text
returns-then-is_text c =
    let points : bytes_eq c.split_word.result.0.now (codes "point") ≡ true = search rules in
    let behind : Some c.in_ok-text.text.now ≡ argument c.args.line.now = search rules in
    pointed_line c.args.line.now c.split_word.result.0.now c.in_ok-text.text.now c.drag_of.result
    (sym c.if-is_text.ensures) c.split_word.ensures.before behind points c.drag_of.ensures
