-- Reading the bytes that a text stands for, one after another.
use Rattle.std.proofs.Common.{◌≡◌, ℕ, ◌<◌, ◌≤◌, Bool, true, false, List, [], ◌∷◌, ◌++◌, Option, None, Some, length}
use Rattle.std.proofs.Common.{refl, sym, ap, ◌∙◌, arith, append_assoc, append-nil, length-append, cond}
use Rattle.std.specs.Prelude.{if◌then◌else◌, nat_le, ◌==◌, unwrap_or, codes}
use Rattle.std.specs.Str.{bytes_eq}
use Rattle.std.specs.Option.{option_map}
use Rattle.std.specs.List.{list_all}
use Rattle.std.proofs.lemmas.Bool.{lt-leb, le-leb, and_left, and_right, and_parts, not-true, leb-false, cond-true, cond-false}
use Rattle.event_bytes.specs.Bytes.{is_text_byte, is_file_bytes, is_typed_bytes}
use Rattle.event_bytes.specs.declared.event.Event.TheVariants.{Typed}
use Rattle.script_lines.specs.declared.request.Request.{Request}
use Rattle.script_lines.specs.declared.request.Request.TheVariants.{Post, Malformed}
use Rattle.script_lines.specs.Words.{◌>>=◌, first_word, argument}
use Rattle.script_lines.specs.Percent.{in_front, is_itself, meant, escaped, few_meant}
use Rattle.script_lines.specs.Request.{file_bytes_of, typed_bytes_of, typed_of, command_of, is_readable}
use Rattle.script_lines.specs.Request.{request_of, typed_plain}

-- the bytes so far, and what the rest stands for
abbrev pub onto : List ℕ → Option (List ℕ) → Option (List ℕ)
onto front known = option_map (λ bs. front ++ bs) known

abbrev few : List ℕ → Option (List ℕ)
few bytes = if nat_le (length bytes) 900 then Some bytes else None

onto_nothing : (known : Option (List ℕ)) → known ≡ onto [] known
onto_nothing None = refl
onto_nothing (Some bs) = refl

onto_more : (front : List ℕ) (b : ℕ) (known : Option (List ℕ))
    → onto front (in_front b known) ≡ onto (front ++ b ∷ []) known
onto_more front b None = refl
onto_more front b (Some bs) = ap (λ l. Some l) (sym (append_assoc front (b ∷ []) bs))

not_few : (bytes : List ℕ) → 900 < length bytes → few bytes ≡ None
not_few bytes long = cond-false (nat_le (length bytes) 900) (Some bytes) None (lt-leb (length bytes) 900 long)

too_many : (front : List ℕ) (b : ℕ) (known : Option (List ℕ)) → 900 ≤ length front
    → (onto front (in_front b known) >>= few) ≡ None
too_many front b None long = refl
too_many front b (Some bs) long = not_few (front ++ b ∷ bs) (omega (arith, length-append front (b ∷ bs)))

pub meant_start : (text : List ℕ) → meant text ≡ onto [] (meant text)
meant_start text = onto_nothing (meant text)

pub meant_more : (text front rest behind : List ℕ) (b : ℕ) → meant text ≡ onto front (meant rest)
    → meant rest ≡ in_front b (meant behind)
    → meant text ≡ onto (front ++ b ∷ []) (meant behind)
meant_more text front rest behind b before first = before ∙ ap (onto front) first ∙ onto_more front b (meant behind)

pub spelled_all : (text front rest : List ℕ) → meant text ≡ onto front (meant rest) → rest ≡ [] → length front ≤ 900
    → Some front ≡ few_meant text
unfolding meant few_meant
spelled_all text front rest before none short =
    let all : meant text ≡ Some (front ++ []) = before ∙ ap (λ l. onto front (meant l)) none in
    let whole : meant text ≡ Some front = all ∙ ap (λ l. Some l) (append-nil front) in
    sym (ap (λ known. known >>= few) whole
    ∙ cond-true (nat_le (length front) 900) (Some front) None (le-leb (length front) 900 short))

pub spelled_none : (text front rest : List ℕ) → meant text ≡ onto front (meant rest) → meant rest ≡ None
    → None ≡ few_meant text
unfolding few_meant
spelled_none text front rest before none = sym (ap (λ known. known >>= few) (before ∙ ap (onto front) none))

pub spelled_long : (text front rest behind : List ℕ) (b : ℕ) → meant text ≡ onto front (meant rest)
    → meant rest ≡ in_front b (meant behind) → 900 ≤ length front
    → None ≡ few_meant text
unfolding few_meant
spelled_long text front rest behind b before first long =
    sym (ap (λ known. known >>= few) (before ∙ ap (onto front) first) ∙ too_many front b (meant behind) long)

-- ---- bytes of a text that pass a test, which none passes that is longer

abbrev tested : (List ℕ → Bool) → List ℕ → Option (List ℕ)
tested test bytes = if test bytes then Some bytes else None

abbrev OnlyFew : (List ℕ → Bool) → Type 0
OnlyFew test = (bytes : List ℕ) → 900 < length bytes → test bytes ≡ false

long_file : OnlyFew is_file_bytes
long_file bytes long = and_left _ (list_all is_text_byte bytes) (lt-leb (length bytes) 900 long)

long_typed : OnlyFew is_typed_bytes
long_typed bytes long = and_right (nat_le 1 (length bytes)) _ (long_file bytes long)

-- where bytes are few, it is they
few_is : (bytes same : List ℕ) (b : Bool)
    → (let found : Option (List ℕ) = cond b (Some bytes) None in found) ≡ Some same → bytes ≡ same
few_is bytes same true is = cc
few_is bytes same false is = absurd cc

test_few : (test : List ℕ → Bool) (known : Option (List ℕ)) (bytes : List ℕ) → (known >>= few) ≡ Some bytes
    → (known >>= tested test) ≡ tested test bytes
test_few test None bytes is = absurd cc
test_few test (Some all) bytes is = ap (tested test) (few_is all bytes (nat_le (length all) 900) is)

not_found : (all : List ℕ) (n : ℕ) (b : Bool) → nat_le n 900 ≡ b
    → (let found : Option (List ℕ) = cond b (Some all) None in found) ≡ None → 900 < n
not_found all n true same is = absurd cc
not_found all n false same is = leb-false n 900 same

test_none : (test : List ℕ → Bool) → OnlyFew test → (known : Option (List ℕ)) → (known >>= few) ≡ None
    → (known >>= tested test) ≡ None
test_none test only None is = refl
test_none test only (Some all) is = cond-false (test all) (Some all) None
    (only all (not_found all (length all) (nat_le (length all) 900) refl is))

-- a text without a percent sign stands for its own bytes
plain : (text : List ℕ) → list_all is_itself text ≡ true → meant text ≡ Some text
unfolding meant
plain [] is = refl
plain (b ∷ bs) is =
    let parts = and_parts (is_itself b) (list_all is_itself bs) is in
    cond-false (b == 37) (escaped bs) (in_front b (meant bs)) (not-true (b == 37) parts.0)
    ∙ ap (in_front b) (plain bs parts.1)

pub plain_file : (text : List ℕ) → list_all is_itself text ≡ true → file_bytes_of text ≡ tested is_file_bytes text
unfolding file_bytes_of
plain_file text is = ap (λ known. known >>= tested is_file_bytes) (plain text is)

plain_typed : (text : List ℕ) → list_all is_itself text ≡ true → typed_bytes_of text ≡ tested is_typed_bytes text
unfolding typed_bytes_of
plain_typed text is = ap (λ known. known >>= tested is_typed_bytes) (plain text is)

-- a line that types such a text
none_malformed : (text : List ℕ) (b : Bool)
    → unwrap_or ((let found : Option (List ℕ) = cond b (Some text) None in found) >>= λ bytes. Some (Post (Typed bytes)))
    Malformed ≡ cond b (Post (Typed text)) Malformed
none_malformed text true = refl
none_malformed text false = refl

pub plain_line : (line name text : List ℕ) → is_readable line ≡ true → name ≡ first_word line → Some text ≡ argument line
    → bytes_eq name (codes "type") ≡ true → list_all is_itself text ≡ true → request_of line ≡ typed_plain text
unfolding request_of command_of typed_bytes_of
plain_line line name text readable first rest types is =
    cond-true (is_readable line) _ Malformed readable
    ∙ ap (λ (argument : Option (List ℕ)). unwrap_or (command_of (first_word line) argument) Malformed) (sym rest)
    ∙ ap (λ (asked : Option (Option Request)). unwrap_or (asked >>= λ known. known) Malformed)
    (cond-true (bytes_eq (first_word line) (codes "type")) (Some (typed_of text)) _
    (ap (λ l. bytes_eq l (codes "type")) (sym first) ∙ types))
    ∙ ap (λ (known : Option (List ℕ)). unwrap_or (known >>= λ bytes. Some (Post (Typed bytes))) Malformed)
    (plain_typed text is)
    ∙ none_malformed text (is_typed_bytes text)

pub file_none : (text : List ℕ) → few_meant text ≡ None → file_bytes_of text ≡ None
unfolding few_meant file_bytes_of
file_none text none = test_none is_file_bytes long_file (meant text) none

pub file_some : (text bytes : List ℕ) → few_meant text ≡ Some bytes → file_bytes_of text ≡ tested is_file_bytes bytes
unfolding few_meant file_bytes_of
file_some text bytes some = test_few is_file_bytes (meant text) bytes some

pub typed_none : (text : List ℕ) → few_meant text ≡ None → typed_bytes_of text ≡ None
unfolding few_meant typed_bytes_of
typed_none text none = test_none is_typed_bytes long_typed (meant text) none

pub typed_some : (text bytes : List ℕ) → few_meant text ≡ Some bytes
    → typed_bytes_of text ≡ tested is_typed_bytes bytes
unfolding few_meant typed_bytes_of
typed_some text bytes some = test_few is_typed_bytes (meant text) bytes some

pub ruleset spelled_exits = (spelled_none, spelled_long)

pub ruleset file_exits = (plain_file, file_none, file_some)

pub ruleset typed_exits = (typed_none, typed_some)
