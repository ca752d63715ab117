use Rattle.std.proofs.Common.{rules, ◌≡◌, Some, true, sym}
use Rattle.std.specs.Prelude.{codes}
use Rattle.std.specs.Str.{bytes_eq}
use Rattle.script_lines.specs.Words.{argument}
use Rattle.script_lines.proofs.Escapes.{plain_line}
use Rattle.script_lines.proofs.request.plain_typed.Goals as goal

pub returns-then-is_plain : goal.returns-then-is_plain
returns-then-is_plain c =
    let types : bytes_eq c.split_word.result.0.now (codes "type") ≡ true = search rules in
    let behind : Some c.in_ok-text.text.now ≡ argument c.args.line.now = search rules in
    plain_line c.args.line.now c.split_word.result.0.now c.in_ok-text.text.now (sym c.if-is_text.ensures)
    c.split_word.ensures.before behind types (sym c.if-is_plain.ensures)
