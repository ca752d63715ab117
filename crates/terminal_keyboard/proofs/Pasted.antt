-- What is heard of a text that is pasted.
use Rattle.std.proofs.Common.{◌≡◌, ℕ, true, List, [], ◌∷◌, ◌++◌, sym, ap, subst, ◌∙◌}
use Rattle.std.specs.Prelude.{◌==◌, not}
use Rattle.std.specs.List.{list_all, filter_map}
use Rattle.terminal_presses.specs.declared.press.Press.TheVariants.{PasteBegins}
use Rattle.terminal_presses.specs.declared.hand.Hand.{Hand}
use Rattle.terminal_presses.specs.Sights.{Sight}
use Rattle.terminal_presses.specs.Singles.{single}
use Rattle.terminal_presses.specs.Hands.{idle}
use Rattle.terminal_presses.specs.Runs.{posted_events, pasted_text, paste_of, Types}
use Rattle.terminal_presses.proofs.Typing.{paste_typed}
use Rattle.terminal_keyboard.specs.Presses.{at_rest, parser_after, presses_heard}
use Rattle.terminal_keyboard.specs.Spelling.{bytes_heard, key_sequence, pasted}
use Rattle.terminal_keyboard.proofs.Pieces.{parser_of_both, pressed_of_both}
use Rattle.terminal_keyboard.proofs.Found.{bytes_found, paste_found}

pub paste_pressed : (text : List ℕ) → list_all (λ b. not (b == 27)) text ≡ true
    → (parser_after at_rest (pasted text) ≡ at_rest) × (presses_heard at_rest (pasted text) ≡ paste_of text)
paste_pressed text all =
    let begin = bytes_heard (key_sequence (50 ∷ 48 ∷ 48 ∷ 126 ∷ [])) in
    let end = bytes_heard (key_sequence (50 ∷ 48 ∷ 49 ∷ 126 ∷ [])) in
    let (first, last) = paste_found in
    let (parser, presses) = bytes_found text all in (
      parser_of_both at_rest begin (bytes_heard text ++ end)
          ∙ ap (λ p. parser_after p (bytes_heard text ++ end)) first.0
          ∙ parser_of_both at_rest (bytes_heard text) end
          ∙ ap (λ p. parser_after p end) parser ∙ last.0,
      pressed_of_both at_rest begin (bytes_heard text ++ end)
          ∙ ap (λ p. presses_heard at_rest begin ++ presses_heard p (bytes_heard text ++ end)) first.0
          ∙ ap (λ l. l ++ presses_heard at_rest (bytes_heard text ++ end)) first.1
          ∙ ap (λ l. PasteBegins ∷ l) (pressed_of_both at_rest (bytes_heard text) end
          ∙ ap (λ p. presses_heard at_rest (bytes_heard text) ++ presses_heard p end) parser
          ∙ ap (λ l. l ++ presses_heard at_rest end) presses
          ∙ ap (λ l. filter_map single text ++ l) last.1),
    )

pub pasted_typed : (sight : Sight) (hand : Hand) (text : List ℕ) → list_all (λ b. not (b == 27)) text ≡ true
    → Types (posted_events sight (idle hand) (presses_heard at_rest (pasted text))) (pasted_text text)
pasted_typed sight hand text all =
    subst (λ l. Types (posted_events sight (idle hand) l) (pasted_text text)) (sym (paste_pressed text all).1)
    (paste_typed sight hand text)
