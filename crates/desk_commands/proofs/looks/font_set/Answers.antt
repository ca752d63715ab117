use Rattle.std.proofs.Common.{◌∙◌, sym, ap, option_map, rules, tests}
use Rattle.std.specs.Str.{bytes_eq}
use Rattle.std.proofs.lemmas.Iterator.{YieldsList-from_slice}
use Rattle.std.proofs.lemmas.Iterator.Search.{position_from_yields_List}
use Rattle.desktop_definitions.proofs.LookLaws.{font_found, in_font}
use Rattle.desk_commands.proofs.looks.font_set.Goals as goal

pub returns-in_err-font : goal.returns-in_err-font
returns-in_err-font c =
    let bytes = c.as_bytes-name.result.now in
    let found = position_from_yields_List (λ font. bytes_eq bytes font.now) _ _ c.position.result c.position.ensures.ran
    (YieldsList-from_slice _ c.iter.ensures.rest) (λ x b q k. search (rules, tests)) in
    c.from_residual.ensures
    ∙ ap (option_map in_font) (sym c.in_err-font.was)
    ∙ font_found bytes c.args.name.now c.position.result found c.as_bytes-name.ensures.value

pub returns : goal.returns
returns c =
    let bytes = c.as_bytes-name.result.now in
    let found = position_from_yields_List (λ font. bytes_eq bytes font.now) _ _ c.position.result c.position.ensures.ran
    (YieldsList-from_slice _ c.iter.ensures.rest) (λ x b q k. search (rules, tests)) in
    ap (option_map in_font) (sym c.in_ok-font.was)
    ∙ font_found bytes c.args.name.now c.position.result found c.as_bytes-name.ensures.value
