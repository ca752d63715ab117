-- What is heard in pieces.
use Rattle.std.proofs.Common.{◌≡◌, List, [], ◌∷◌, ◌++◌, refl, sym, ap, ◌∙◌, append_assoc}
use Rattle.terminal_presses.specs.declared.press.Heard.{Heard}
use Rattle.terminal_keyboard.specs.declared.parser.Parser.{Parser}
use Rattle.terminal_keyboard.specs.Presses.{heard_by, in_order, parser_after, presses_heard}

pub parser_of_both : (parser : Parser) (first second : List Heard)
    → parser_after parser (first ++ second) ≡ parser_after (parser_after parser first) second
parser_of_both parser [] second = refl
parser_of_both parser (heard ∷ more) second = parser_of_both (heard_by parser heard).0 more second

pub pressed_of_both : (parser : Parser) (first second : List Heard)
    → presses_heard parser (first ++ second) ≡ presses_heard parser first ++ presses_heard (parser_after parser first) second
pressed_of_both parser [] second = refl
pressed_of_both parser (heard ∷ more) second =
    ap (λ l. in_order (heard_by parser heard).1 ++ l) (pressed_of_both (heard_by parser heard).0 more second)
    ∙ sym (append_assoc (in_order (heard_by parser heard).1) (presses_heard (heard_by parser heard).0 more)
    (presses_heard (parser_after (heard_by parser heard).0 more) second))

pub ruleset of_both = (pressed_of_both, parser_of_both)
