-- Laws of the text of a number: as it is seen, how long it is, and where its characters stand.
use Rattle.std.specs.Prelude.{◌≡◌, ℕ, List, [], length, is_some, IsSome, IfSome, Option, Some, None}
use Rattle.std.specs.Option.{option_map, unwrap_or}
use Rattle.std.specs.Ordering.{nat_cmp}
use Rattle.std.specs.BTreeMap.{is_at}
use Rattle.std.proofs.Common.{refl, sym, ap, ◌∙◌, arith}
use Rattle.std.proofs.lemmas.Map.Views.{IfSome-lookup_from_All}
use Rattle.piece_ring.specs.declared.piece.Piece.{Piece}
use Rattle.piece_ring.specs.Flat.{flat}
use Rattle.piece_ring.specs.Text.{Text, AreWithin}
use Rattle.desktop_definitions.specs.Tables.{Texts, text_numbered}
use Rattle.desktop_definitions.proofs.TableLaws.{lookup_seen, length_seen_text, is_some_map}
use Rattle.desktop_definitions.specs.Viewers.{text_in}
use Rattle.desktop_definitions.specs.Seen.{seen_text, seen_table}
use Rattle.desktop_definitions.specs.Sound.{AllWithin}

or_seen : (characters : List ℕ) (found : Option (List Piece))
    → unwrap_or (option_map (seen_text characters) found) [] ≡ seen_text characters (unwrap_or found [])
or_seen characters None = refl
or_seen characters (Some pieces) = refl

pub text_in_seen : (characters : List ℕ) (texts : Texts (List Piece)) (n : ℕ)
    → text_in (seen_table characters texts) n ≡ seen_text characters (text_in texts n)
text_in_seen characters texts n =
    ap (λ (o : Option (Text ℕ)). unwrap_or o []) (lookup_seen (seen_text characters) (is_at (nat_cmp n)) texts)
    ∙ or_seen characters (text_numbered texts n)

-- how long a text is doesn't depend on the characters
pub long_seen : (characters : List ℕ) (texts : Texts (List Piece)) (n : ℕ)
    → length (text_in (seen_table characters texts) n) ≡ length (flat (text_in texts n))
long_seen characters texts n =
    ap length (text_in_seen characters texts n) ∙ length_seen_text characters (text_in texts n)

-- nor which texts are there
pub there_seen : (characters : List ℕ) (texts : Texts (List Piece)) (n : ℕ) → IsSome (text_numbered texts n)
    → IsSome (text_numbered (seen_table characters texts) n)
there_seen characters texts n there =
    ap (λ (o : Option (Text ℕ)). is_some o) (lookup_seen (seen_text characters) (is_at (nat_cmp n)) texts)
    ∙ is_some_map (seen_text characters) (text_numbered texts n) ∙ there

pub text_there : (characters : List ℕ) (texts : Texts (List Piece)) (n : ℕ)
    → IsSome (text_numbered (seen_table characters texts) n) → IsSome (text_numbered texts n)
text_there characters texts n there =
    sym (is_some_map (seen_text characters) (text_numbered texts n))
    ∙ ap is_some (sym (lookup_seen (seen_text characters) (is_at (nat_cmp n)) texts)) ∙ there

within_or_none : (n : ℕ) (found : Option (List Piece)) → IfSome found (λ pieces. AreWithin n (flat pieces))
    → AreWithin n (flat (unwrap_or found []))
within_or_none n None all = λ i d low. absurd (omega (arith, low))
within_or_none n (Some pieces) all = all

pub text_within : (n : ℕ) (texts : Texts (List Piece)) (k : ℕ) → AllWithin n texts
    → AreWithin n (flat (text_in texts k))
text_within n texts k all = within_or_none n (text_numbered texts k)
    (IfSome-lookup_from_All (λ pieces. AreWithin n (flat pieces)) (is_at (nat_cmp k)) texts all)
