-- What is told of a text that is held, from its beginning on.
use Rattle.std.proofs.Common.{◌≡◌, ◌∙◌, ℕ, ◌+◌, true, false, List, [], ◌∷◌, ◌++◌, length, take, drop, map, min}
use Rattle.std.proofs.Common.{inl, inr, refl, sym, ap, subst, arith, append-nil}
use Rattle.std.specs.Prelude.{◌==◌, ◌≤◌, ◌⊎◌, Bool, not, nat_le, IsTrue}
use Rattle.std.specs.List.{list_all}
use Rattle.std.proofs.lemmas.Bool.{cond-true, cond-false}
use Rattle.std.proofs.lemmas.Bool.Decides.{nat_tests}
use Rattle.std.proofs.lemmas.List.{append_assoc, drop-take, take-append-drop, take-take, take_all}
use Rattle.terminal_presses.specs.declared.press.Heard.{Heard}
use Rattle.terminal_presses.specs.declared.press.Heard.TheVariants.{Byte}
use Rattle.terminal_keyboard.specs.declared.hearing.TheConstants.{MOST_HEARD}
use Rattle.terminal_keyboard.specs.HostPastes.{harmless, paste_begins, paste_ends}
use Rattle.terminal_keyboard.specs.Spelling.{bytes_heard, pasted}
use Rattle.past_viewer.specs.declared.held.Coming.{Coming}
use Rattle.past_viewer.specs.declared.held.Coming.TheVariants.{No, Begins, GoesOn}
use Rattle.past_viewer.specs.Held.{AreHeld, is_coming_in, next_piece, nothing, one_more, piece_told, told_next}

pub true_or_false : (b : Bool) → (b ≡ true) ⊎ (b ≡ false)
true_or_false true = inl refl
true_or_false false = inr refl

bytes_both : (xs ys : List ℕ) → bytes_heard (xs ++ ys) ≡ bytes_heard xs ++ bytes_heard ys
bytes_both [] ys = refl
bytes_both (x ∷ xs) ys = ap (λ l. Byte x ∷ l) (bytes_both xs ys)

front_whole : (n : ℕ) (xs : List ℕ) → nat_le (length xs) n ≡ true → take n xs ≡ xs
front_whole n xs is =
    let short : length xs ≤ n = grind (arith, nat_tests, is) in
    take_all n xs short

front_longer : (n m : ℕ) (xs : List ℕ) → take (n + m) xs ≡ take n xs ++ take m (drop n xs)
front_longer n m xs =
    let less : n ≤ n + m = omega arith in
    sym (take-append-drop n (take (n + m) xs)) ∙ ap (λ l. l ++ drop n (take (n + m) xs)) (take-take n (n + m) xs less)
    ∙ ap (λ l. take n xs ++ l) (drop-take n m xs)

-- what was told so far, by how far the text has come
abbrev Known : List ℕ → Coming → List Heard → Type 0
Known text No told = told ≡ pasted text
Known text Begins told = told ≡ []
Known text (GoesOn n) told = told ≡ bytes_heard paste_begins ++ bytes_heard (take n text)

-- a piece more, or the end
known_piece : (text : List ℕ) (n : ℕ) (told : List Heard) → Known text (GoesOn n) told
    → Known text (piece_told text n).1 (told ++ (piece_told text n).0)
known_piece text n told known =
    let Reads : List Heard × Coming → Type 0 = λ next. Known text next.1 (told ++ next.0) in
    elim (true_or_false (nat_le (length text) n)) [
      | inl over ↦
          let whole : told ++ bytes_heard paste_ends ≡ pasted text =
          ap (λ l. l ++ bytes_heard paste_ends) (known ∙ ap (λ t. bytes_heard paste_begins ++ bytes_heard t) (front_whole n text over))
          ∙ append_assoc (bytes_heard paste_begins) (bytes_heard text) (bytes_heard paste_ends) in
          subst Reads (sym (cond-true (nat_le (length text) n) (bytes_heard paste_ends, No) (next_piece n (drop n text)) over)) whole
      | inr more ↦
          let count : ℕ = min (length (drop n text)) MOST_HEARD in
          let longer : told ++ bytes_heard (take count (drop n text)) ≡ bytes_heard paste_begins ++ bytes_heard (take (n + count) text) =
          ap (λ l. l ++ bytes_heard (take count (drop n text))) known
          ∙ append_assoc (bytes_heard paste_begins) (bytes_heard (take n text)) (bytes_heard (take count (drop n text)))
          ∙ ap (λ l. bytes_heard paste_begins ++ l) (sym (bytes_both (take n text) (take count (drop n text)))
          ∙ ap bytes_heard (sym (front_longer n count text))) in
          subst Reads (sym (cond-false (nat_le (length text) n) (bytes_heard paste_ends, No) (next_piece n (drop n text)) more)) longer
    ]

known_next : (text : List ℕ) (at : Coming) (told : List Heard) → Known text at told → is_coming_in at ≡ true
    → Known text (told_next text at).1 (told ++ (told_next text at).0)
known_next text No told known is = absurd cc
known_next text Begins told known is = ap (λ l. l ++ bytes_heard paste_begins) known ∙ sym (append-nil (bytes_heard paste_begins))
known_next text (GoesOn n) told known is = known_piece text n told known

known_all : {text : List ℕ} {at : Coming} {told : List Heard} → AreHeld text at told → Known text at told
known_all nothing = refl
known_all {text = text} (one_more {at = at} {told = told} before is) = known_next text at told (known_all before) is

pub whole_is_pasted : (text : List ℕ) (told : List Heard) → AreHeld text No told → told ≡ pasted text
whole_is_pasted text told all = known_all all

no_escape : (b : ℕ) → IsTrue (not (harmless b == 27))
unfolding harmless
no_escape b = grind (arith, nat_tests)

pub none_escapes : (text : List ℕ) → IsTrue (list_all (λ b. not (b == 27)) (map harmless text))
none_escapes [] = refl
none_escapes (b ∷ text) = search (no_escape b, none_escapes text)
