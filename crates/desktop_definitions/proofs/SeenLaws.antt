-- Laws of what is seen: added characters change nothing of it, and new ones read as the bytes of which they were made.
use Rattle.std.specs.Prelude.{◌≡◌, ℕ, suc, List, [], ◌∷◌, ◌++◌, length, slice_index, Option, Some, None}
use Rattle.std.specs.Option.{option_map}
use Rattle.std.specs.BTreeMap.{is_at}
use Rattle.std.proofs.Common.{refl, sym, ap, subst, ◌∙◌, append_assoc, length-append, arith, IfSome}
use Rattle.std.proofs.lemmas.Map.Made.{lookup-map_values}
use Rattle.std.proofs.lemmas.Map.Views.{IfSome-lookup_from_All}
use Rattle.std.proofs.lemmas.List.{get_or_append_left}
use Rattle.std.proofs.Math.Seq.{get_or-append_seam}
use Rattle.piece_ring.specs.declared.piece.Piece.{Piece}
use Rattle.piece_ring.specs.declared.piece.Look.{Look}
use Rattle.piece_ring.specs.Flat.{flat, run}
use Rattle.piece_ring.specs.Text.{Text, AreWithin}
use Rattle.readers_scanners.specs.Reading.{contents}
use Rattle.desktop_definitions.specs.Desktop.{KeptDesktop, file_of}
use Rattle.desktop_definitions.specs.Tables.{name_cmp}
use Rattle.desktop_definitions.specs.Seen.{seen_text, seen_table, seen}
use Rattle.desktop_definitions.specs.Change.{in_look}
use Rattle.desktop_definitions.specs.Sound.{AllWithin, IsWithin, IsOver}

pub contents_longer : (first more : List ℕ) (text : Text ℕ) → AreWithin (length first) text
    → contents (first ++ more) text ≡ contents first text
contents_longer first more [] within = refl
contents_longer first more (c ∷ text) within = λ k.
    (get_or_append_left first more 0 c.0 (within 0 c (omega arith)) k, c.1) ∷ contents_longer first more text
    (λ i d low. within (suc i) d (omega (arith, low))) k

table_longer : {K : Type 0} (first more : List ℕ) (table : List (K × List Piece)) → AllWithin (length first) table
    → seen_table (first ++ more) table ≡ seen_table first table
table_longer first more [] within = refl
table_longer first more (e ∷ es) within = λ k.
    (e.0, contents_longer first more (flat e.1) (within 0 e.1 (omega arith)) k) ∷ table_longer first more es
    (λ i d low. within (suc i) d (omega (arith, low))) k

-- a desktop is seen as before among more characters
pub seen_longer : (first more : List ℕ) (d : KeptDesktop) → IsWithin (length first) d
    → seen (first ++ more) d ≡ seen first d
unfolding seen
seen_longer first more d within = λ k. record (seen first d) {
  texts = table_longer first more d.texts within.texts k;
  files = table_longer first more d.files within.files k;
  copied = contents_longer first more (flat d.copied) within.copied k;
  deleted = contents_longer first more (flat d.deleted) within.deleted k;
}

-- each character of a desktop that is over its characters is one of them
pub within_counted : (characters : List ℕ) (d : KeptDesktop) → IsOver characters d → IsWithin (length characters) d
within_counted characters d over = subst (λ n. IsWithin n d) (sym over.counted) over.whole.within

read_new : (first bytes : List ℕ) (n : ℕ) (look : Look) → length first ≡ n
    → contents (first ++ bytes) (run n (length bytes) look) ≡ in_look look bytes
read_new first [] n look long = refl
read_new first (b ∷ bytes) n look long =
    let here : slice_index (first ++ b ∷ bytes) n
    ≡ b = subst (λ i. slice_index (first ++ b ∷ bytes) i ≡ b) long (get_or-append_seam first b bytes 0) in
    let rest = read_new (first ++ b ∷ []) bytes (suc n) look
    (let grown = length-append first (b ∷ []) in omega (arith, grown, long)) in
    λ k. (here k, look) ∷ subst
    (λ (l : List ℕ). contents l (run (suc n) (length bytes) look) ≡ in_look look bytes)
    (append_assoc first (b ∷ []) bytes) rest k

-- new characters read as the bytes of which they were made
pub new_read : (first bytes : List ℕ) (n : ℕ) (look : Look) → length first ≡ n
    → contents (first ++ bytes) (run n (length bytes) look) ≡ in_look look bytes
new_read first bytes n look long = read_new first bytes n look long

-- ---- a file that is found

after_map : {A B C : Type 0} (f : A → B) (g : B → C) (found : Option A)
    → option_map (λ a. g (f a)) found ≡ option_map g (option_map f found)
after_map f g None = refl
after_map f g (Some a) = refl

pub found_among : {B : Type 0} (now : B → List Piece) (found : Option B) (d : KeptDesktop) (characters name : List ℕ)
    → option_map now found ≡ file_of d name
    → option_map (λ b. seen_text characters (now b)) found ≡ file_of (seen characters d) name
unfolding file_of seen
found_among now found d characters name is =
    after_map now (seen_text characters) found
    ∙ ap (option_map (seen_text characters)) is
    ∙ sym (lookup-map_values (seen_text characters) (is_at (name_cmp name)) d.files)

of_found : {A B : Type 0} (now : B → A) (P : A → Type 0) (found : Option B) → IfSome (option_map now found) P
    → IfSome found (λ b. P (now b))
of_found now P None holds = holds
of_found now P (Some b) holds = holds

pub found_over : {B : Type 0} (now : B → List Piece) (found : Option B) (d : KeptDesktop) (characters name : List ℕ)
    → option_map now found ≡ file_of d name → IsOver characters d
    → IfSome found (λ b. AreWithin (length characters) (flat (now b)))
unfolding file_of
found_over now found d characters name is over =
    let all = (within_counted characters d over).files in
    of_found now (λ pieces. AreWithin (length characters) (flat pieces)) found
    (subst (λ (o : Option (List Piece)). IfSome o (λ pieces. AreWithin (length characters) (flat pieces))) (sym is)
    (IfSome-lookup_from_All (λ pieces. AreWithin (length characters) (flat pieces))
    (is_at (name_cmp name)) d.files all))
