use Rattle.std.specs.Prelude.{◌≡◌}
use Rattle.std.specs.Option.{option_map}
use Rattle.std.proofs.Common.{sym, ap, ◌∙◌, rules}
use Rattle.std.proofs.lemmas.Result.{IfOk-weaker}
use Rattle.piece_ring.specs.Flat.{flat}
use Rattle.readers_scanners.specs.Reading.{bytes_of_text}
use Rattle.command_table.specs.Codes.{no_selection, no_viewer}
use Rattle.command_table.specs.Parameters.{place_lent, text_lent, symbol_or}
use Rattle.command_table.proofs.Values.{value_of_selection, value_of_menu, value_itself}
use Rattle.command_table.proofs.valuing.params.Goals as goal

pub returns-then-is_special-clause-value : goal.returns-then-is_special-clause-value
returns-then-is_special-clause-value g c =
    let s = g.S.CharSource in let before = c.in_ok-first.ensures in
    IfOk-weaker c.symbol_or.result _ _
    (λ r there h. there (before.reads.still h)
    ∙ (ap (λ characters. symbol_or (bytes_of_text characters) no_selection (option_map place_lent c.args.sel))
    (before.reads.same h)
    ∙ sym (value_of_selection (bytes_of_text (s.characters c.args.source.now)) (flat c.args.text.now) c.args.pos
    (option_map place_lent c.args.sel) (option_map text_lent c.args.menu)
    c.in_ok-first.first c.is_special.result (before.symbol h) c.is_special.ensures c.if-is_special.true)))
    c.symbol_or.ensures.symbol

pub returns-then-is_special-2-clause-value : goal.returns-then-is_special-2-clause-value
returns-then-is_special-2-clause-value g c =
    let s = g.S.CharSource in let before = c.in_ok-first.ensures in
    let same : option_map place_lent c.map.result ≡ option_map (λ m. (m, 0)) (option_map text_lent c.args.menu) =
    search rules in
    IfOk-weaker c.symbol_or-then-is_special-2.result _ _
    (λ r there h. there (before.reads.still h)
    ∙ ((λ k. symbol_or (bytes_of_text (before.reads.same h k)) no_viewer (same k))
    ∙ sym (value_of_menu (bytes_of_text (s.characters c.args.source.now)) (flat c.args.text.now) c.args.pos
    (option_map place_lent c.args.sel) (option_map text_lent c.args.menu)
    c.in_ok-first.first c.is_special.result c.is_special-else-is_special.result
    (before.symbol h) c.is_special.ensures c.if-is_special.false c.is_special-else-is_special.ensures
    c.if-is_special-2.true)))
    c.symbol_or-then-is_special-2.ensures.symbol

pub returns-else-is_special-2-clause-value : goal.returns-else-is_special-2-clause-value
returns-else-is_special-2-clause-value g c h =
    let s = g.S.CharSource in let before = c.in_ok-first.ensures in
    sym (value_itself (bytes_of_text (s.characters c.args.source.now)) (flat c.args.text.now) c.args.pos
    (option_map place_lent c.args.sel) (option_map text_lent c.args.menu)
    c.in_ok-first.first c.is_special.result c.is_special-else-is_special.result
    (before.symbol h) c.is_special.ensures c.if-is_special.false c.is_special-else-is_special.ensures
    c.if-is_special-2.false)
