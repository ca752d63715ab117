-- Characters that are gathered text by text.
use Rattle.std.proofs.Common.{◌≡◌, ℕ, List, [], ◌∷◌, ◌++◌, length, slice_index, flat_map, refl, sym, ◌∙◌, ap, subst}
use Rattle.std.proofs.Common.{append_assoc, append-nil, All, ◌<◌}
use Rattle.std.proofs.lemmas.List.Elements.{All-head, All-tail}
use Rattle.std.specs.Map.{values_of}
use Rattle.piece_ring.specs.declared.piece.Look.{Look}
use Rattle.piece_ring.specs.declared.piece.Piece.{Piece}
use Rattle.piece_ring.specs.Flat.{flat}
use Rattle.piece_ring.specs.Text.{AreWithin, Text}
use Rattle.readers_scanners.specs.Reading.{contents}
use Rattle.desktop_definitions.specs.Desktop.{KeptDesktop}
use Rattle.desktop_definitions.specs.Seen.{seen, seen_table, seen_text}
use Rattle.desktop_definitions.specs.Sound.{IsOver, IsWithin}
use Rattle.seen_desktops.specs.Shape.{all_characters_of, characters_in}

-- ---- the characters of a text

-- one more of them, read as it stands there
pub left_on : (characters : List ℕ) (all all' whole now rest : Text ℕ) (next : ℕ × Look) (byte : ℕ) → now ≡ next ∷ rest
    → byte ≡ slice_index characters next.0 → all' ≡ all ++ (byte, next.1) ∷ []
    → all ++ contents characters now ≡ whole → all' ++ contents characters rest ≡ whole
left_on characters all all' whole now rest next byte first is pushed was =
    ap (λ (l : Text ℕ). l ++ contents characters rest) pushed
    ∙ append_assoc all ((byte, next.1) ∷ []) (contents characters rest)
    ∙ (λ k. all ++ (is k, next.1) ∷ contents characters rest)
    ∙ ap (λ (l : Text ℕ). all ++ contents characters l) (sym first)
    ∙ was

-- and none more
pub none_left : (characters : List ℕ) (all whole left : Text ℕ) → left ≡ [] → all ++ contents characters left ≡ whole
    → all ≡ whole
none_left characters all whole left none was =
    sym (append-nil all) ∙ ap (λ (l : Text ℕ). all ++ contents characters l) (sym none) ∙ was

-- what is within still is so of one more, and of those behind it
pub next_within : {n : ℕ} {now rest : Text ℕ} {next : ℕ × Look} → now ≡ next ∷ rest → AreWithin n now → next.0 < n
next_within {n} {now} {rest} {next} first within =
    All-head (λ (c : ℕ × Look). c.0 < n) next rest (subst (AreWithin n) first within)

pub rest_within : {n : ℕ} {now rest : Text ℕ} {next : ℕ × Look} → now ≡ next ∷ rest → AreWithin n now
    → AreWithin n rest
rest_within {n} {now} {rest} {next} first within =
    All-tail (λ (c : ℕ × Look). c.0 < n) next rest (subst (AreWithin n) first within)

-- ---- the texts of a table

pub texts_within : {n : ℕ} {now later : List (List Piece)} {pieces : List Piece} → now ≡ pieces ∷ later
    → All (λ pieces. AreWithin n (flat pieces)) now → All (λ pieces. AreWithin n (flat pieces)) later
texts_within {n} {now} {later} {pieces} first within =
    All-tail (λ pieces. AreWithin n (flat pieces)) pieces later
    (subst (All (λ pieces. AreWithin n (flat pieces))) first within)

-- one more of them
pub text_on : (characters : List ℕ) (all all' whole : Text ℕ) (now later : List (List Piece)) (pieces : List Piece)
    → now ≡ pieces ∷ later → all' ≡ all ++ seen_text characters pieces
    → all ++ flat_map (seen_text characters) now ≡ whole → all' ++ flat_map (seen_text characters) later ≡ whole
text_on characters all all' whole now later pieces first added was =
    ap (λ (l : Text ℕ). l ++ flat_map (seen_text characters) later) added
    ∙ append_assoc all (seen_text characters pieces) (flat_map (seen_text characters) later)
    ∙ ap (λ (l : List (List Piece)). all ++ flat_map (seen_text characters) l) (sym first)
    ∙ was

pub all_in : {K : Type 0} (characters : List ℕ) (table : List (K × List Piece))
    → flat_map (seen_text characters) (values_of table) ≡ characters_in (seen_table characters table)
all_in characters [] = refl
all_in characters (e ∷ es) = ap (λ (l : Text ℕ). seen_text characters e.1 ++ l) (all_in characters es)

-- and none more
pub no_text_left : {K : Type 0} (characters : List ℕ) (all front : Text ℕ) (left : List (List Piece))
    (table : List (K × List Piece)) → left ≡ []
    → all ++ flat_map (seen_text characters) left ≡ front ++ flat_map (seen_text characters) (values_of table)
    → all ≡ front ++ characters_in (seen_table characters table)
no_text_left characters all front left table none was =
    sym (append-nil all)
    ∙ ap (λ (l : List (List Piece)). all ++ flat_map (seen_text characters) l) (sym none)
    ∙ was
    ∙ ap (λ (l : Text ℕ). front ++ l) (all_in characters table)

-- ---- all of a desktop

-- each character of a desktop is one of its source's, which has as many as before
pub within_still : {characters : List ℕ} {d : KeptDesktop} (others : List ℕ) → IsOver characters d
    → length others ≡ length characters → IsWithin (length others) d
within_still {d = d} others over long = subst (λ n. IsWithin n d) (sym (long ∙ over.counted)) over.whole.within

pub gathered : (characters : List ℕ) (d : KeptDesktop) (one two three four : Text ℕ)
    → one ≡ characters_in (seen_table characters d.texts)
    → two ≡ one ++ characters_in (seen_table characters d.files)
    → three ≡ two ++ contents characters (flat d.copied)
    → four ≡ three ++ contents characters (flat d.deleted)
    → four ≡ all_characters_of (seen characters d)
unfolding all_characters_of seen
gathered characters d one two three four texts files copied deleted =
    let t = characters_in (seen_table characters d.texts) in
    let f = characters_in (seen_table characters d.files) in
    let c = contents characters (flat d.copied) in
    let e = contents characters (flat d.deleted) in
    deleted
    ∙ (λ i. (copied ∙ (λ j. (files ∙ (λ k. texts k ++ f)) j ++ c)) i ++ e)
    ∙ append_assoc (t ++ f) c e
    ∙ append_assoc t f (c ++ e)
