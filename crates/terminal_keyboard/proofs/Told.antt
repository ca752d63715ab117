-- What is told of a text from its beginning on.
use Rattle.std.proofs.Common.{◌≡◌, ℕ, ◌+◌, ◌==◌, not, List, [], ◌∷◌, ◌++◌, length, map, refl}
use Rattle.std.proofs.Common.{sym, ap, arith, ◌∙◌}
use Rattle.std.proofs.lemmas.Bool.Decides.{nat_tests}
use Rattle.std.specs.Prelude.{IsTrue}
use Rattle.std.specs.List.{list_all}
use Rattle.std.proofs.lemmas.List.{append-nil, append_assoc, map-append, length-append}
use Rattle.terminal_presses.specs.declared.press.Heard.{Heard}
use Rattle.terminal_presses.specs.declared.press.Heard.TheVariants.{Byte}
use Rattle.terminal_keyboard.specs.Spelling.{bytes_heard}
use Rattle.terminal_keyboard.specs.Spelling.{pasted}
use Rattle.terminal_keyboard.specs.declared.paste.Stage.{Stage}
use Rattle.terminal_keyboard.specs.declared.paste.Stage.TheVariants.{Begins, GoesOn, Ended, Broken}
use Rattle.terminal_keyboard.specs.HostPastes.{TellsText, begins, goes_on, ends, breaks, AreTold, nothing, one_more}
use Rattle.terminal_keyboard.specs.HostPastes.{harmless}
use Rattle.terminal_keyboard.specs.HostPastes.{paste_begins, paste_ends, file_fails}

bytes_both : (xs ys : List ℕ) → bytes_heard (xs ++ ys) ≡ bytes_heard xs ++ bytes_heard ys
bytes_both [] ys = refl
bytes_both (x ∷ xs) ys = ap (λ l. Byte x ∷ l) (bytes_both xs ys)

-- what is heard of a text without the ends of the paste
abbrev middle : List ℕ → List Heard
middle text = bytes_heard (map harmless text)

middle_both : (text piece : List ℕ) → middle (text ++ piece) ≡ middle text ++ middle piece
middle_both text piece = ap bytes_heard (map-append harmless text piece) ∙ bytes_both (map harmless text) (map harmless piece)

-- what was told so far, by how far the paste has come
abbrev Known : Stage → List ℕ → List Heard → Type 0
Known Begins text told = (text ≡ []) × (told ≡ [])
Known GoesOn text told = told ≡ bytes_heard paste_begins ++ middle text
Known Ended text told = told ≡ pasted (map harmless text)
Known Broken text told = told ≡ pasted (map harmless text) ++ bytes_heard file_fails

known_next : {stage stage' : Stage} {left left' : ℕ} {piece : List ℕ} {now : List Heard}
    → (text : List ℕ) (told : List Heard) → Known stage text told → TellsText stage left stage' left' piece now
    → Known stage' (text ++ piece) (told ++ now)
known_next text told known begins =
    ap (λ l. l ++ bytes_heard paste_begins) known.1 ∙ ap (λ t. bytes_heard paste_begins ++ middle (t ++ [])) (sym known.0)
known_next text told known (goes_on {text = piece}) =
    ap (λ l. l ++ middle piece) known ∙ append_assoc (bytes_heard paste_begins) (middle text) (middle piece)
    ∙ ap (λ l. bytes_heard paste_begins ++ l) (sym (middle_both text piece))
known_next text told known ends =
    ap (λ l. l ++ bytes_heard paste_ends) known ∙ append_assoc (bytes_heard paste_begins) (middle text) (bytes_heard paste_ends)
    ∙ ap (λ t. pasted (map harmless t)) (sym (append-nil text))
known_next text told known breaks =
    ap (λ l. l ++ bytes_heard (paste_ends ++ file_fails)) known
    ∙ append_assoc (bytes_heard paste_begins) (middle text) (bytes_heard (paste_ends ++ file_fails))
    ∙ ap (λ l. bytes_heard paste_begins ++ (middle text ++ l)) (bytes_both paste_ends file_fails)
    ∙ ap (λ l. bytes_heard paste_begins ++ l) (sym (append_assoc (middle text) (bytes_heard paste_ends) (bytes_heard file_fails)))
    ∙ sym (append_assoc (bytes_heard paste_begins) (middle text ++ bytes_heard paste_ends) (bytes_heard file_fails))
    ∙ ap (λ t. pasted (map harmless t) ++ bytes_heard file_fails) (sym (append-nil text))

known_all : {most : ℕ} {stage : Stage} {left : ℕ} {text : List ℕ} {told : List Heard}
    → AreTold most stage left text told → Known stage text told
known_all nothing = (refl, refl)
known_all (one_more before now) = known_next _ _ (known_all before) now

left_next : {stage stage' : Stage} {left left' : ℕ} {piece : List ℕ} {now : List Heard}
    → TellsText stage left stage' left' piece now → left ≡ left' + length piece
left_next begins = omega arith
left_next goes_on = refl
left_next ends = omega arith
left_next breaks = omega arith

left_all : {most : ℕ} {stage : Stage} {left : ℕ} {text : List ℕ} {told : List Heard}
    → AreTold most stage left text told → left + length text ≡ most
left_all nothing = omega arith
left_all (one_more {text = text} {piece = piece} before now) =
    let so_far = left_all before in
    let read = left_next now in
    let both = length-append text piece in
    omega arith

pub whole_is_pasted : (most left : ℕ) (text : List ℕ) (told : List Heard) → AreTold most Ended left text told
    → told ≡ pasted (map harmless text)
whole_is_pasted most left text told all = known_all all

pub few_are_read : (most left : ℕ) (text : List ℕ) (told : List Heard) → AreTold most Ended left text told
    → left + length text ≡ most
few_are_read most left text told all = left_all all

no_escape : (b : ℕ) → IsTrue (not (harmless b == 27))
unfolding harmless
no_escape b = grind (arith, nat_tests)

pub none_escapes : (text : List ℕ) → IsTrue (list_all (λ b. not (b == 27)) (map harmless text))
none_escapes [] = refl
none_escapes (b ∷ text) = search (no_escape b, none_escapes text)

pub broken_is_pasted : (most left : ℕ) (text : List ℕ) (told : List Heard) → AreTold most Broken left text told
    → told ≡ pasted (map harmless text) ++ bytes_heard file_fails
broken_is_pasted most left text told all = known_all all
