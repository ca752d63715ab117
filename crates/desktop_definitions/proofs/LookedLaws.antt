-- Laws of looks: whatever is done to texts whose characters have looks that there are, they have such looks after it.
use Rattle.std.specs.Prelude.{◌≡◌, ℕ, zero, suc, ◌<◌, ◌≤◌, ◌&&◌, nat_le, nat_lt, ℤ, pos, negsuc, int_le}
use Rattle.std.specs.Prelude.{Bool, true, false, cond, if◌then◌else◌, IsTrue, All, List, [], ◌∷◌, ◌++◌, length}
use Rattle.std.specs.Prelude.{take, drop, filter, slice_get, slice_index, Option, Some, None, IfSome, option_map}
use Rattle.std.specs.Option.{ForSome, unwrap_or}
use Rattle.std.specs.List.{position}
use Rattle.std.specs.Map.{lookup, keys_of, values_of, set_value}
use Rattle.std.specs.Ordering.{nat_cmp}
use Rattle.std.specs.BTreeMap.{is_at}
use Rattle.std.specs.Str.{bytes_eq}
use Rattle.std.proofs.Common.{refl, subst, arith}
use Rattle.std.proofs.lemmas.Bool.{and_parts, ltb-true}
use Rattle.std.proofs.lemmas.List.Elements.{All-cons, All-tail, All-append, All-take, All-drop, All-map}
use Rattle.std.proofs.lemmas.List.Quantifiers.{position-Some}
use Rattle.std.proofs.lemmas.Map.Views.{All-values-insert_entry, All-values-set_value}
use Rattle.std.proofs.lemmas.Map.Views.{IfSome-lookup_from_All}
use Rattle.piece_ring.specs.declared.piece.Look.{Look}
use Rattle.piece_ring.specs.declared.piece.Piece.{Piece}
use Rattle.piece_ring.specs.Look.{default_look, has_bit, relooked}
use Rattle.piece_ring.specs.Flat.{flat, run}
use Rattle.piece_ring.specs.Text.{Text, stretch, inserted, deleted, all_relooked, looks_changed, AreWithin}
use Rattle.readers_scanners.specs.Reading.{contents}
use Rattle.text_core.specs.Attributes.{look_at, look_of}
use Rattle.viewer_tracks.specs.declared.display.TheConstants.{ROWS, COLUMNS}
use Rattle.desktop_definitions.specs.declared.look_change.LookChange.{LookChange}
use Rattle.desktop_definitions.specs.Limits.{number_of_fonts, number_of_colours, least_offset, greatest_offset}
use Rattle.desktop_definitions.specs.Limits.{most_pattern}
use Rattle.desktop_definitions.specs.Looks.{fonts, font_set, colour_set, offset_set, IsLook, SetsLook, AreLooks}
use Rattle.desktop_definitions.specs.declared.viewer.Viewer.{Viewer}
use Rattle.desktop_definitions.specs.Tables.{Texts, Files, name_cmp, file_put}
use Rattle.desktop_definitions.specs.Desktop.{Desktop, KeptDesktop}
use Rattle.desktop_definitions.specs.Viewers.{text_in, main_length}
use Rattle.desktop_definitions.specs.Change.{edited}
use Rattle.desktop_definitions.specs.Opening.{least_unused, with_new, is_shown, without_unshown}
use Rattle.desktop_definitions.specs.Seen.{seen, seen_text, seen_table}
use Rattle.desktop_definitions.specs.Sound.{AreViewers, ArePlaces, AreMarks, AreFiles, HasLooks, IsShaped, AllWithin}
use Rattle.desktop_definitions.specs.Sound.{IsWithin, IsBuilt}

-- ---- one look

pub default_is_look : IsLook default_look
default_is_look = record { font = omega arith; colour = omega arith; least = refl; greatest = refl }

either : {A : Type 0} (P : A → Type 0) (test : Bool) (x y : A) → P x → P y → P (if test then x else y)
either P true x y first second = first
either P false x y first second = second

pub relooked_is_look : (selector : ℕ) (new old : Look) → IsLook new → IsLook old → IsLook (relooked selector new old)
relooked_is_look selector new old is was = record {
  font = either (λ n. n < number_of_fonts) (has_bit selector 0) new.font old.font is.font was.font;
  colour = either (λ n. n < number_of_colours) (has_bit selector 1) new.colour old.colour is.colour was.colour;
  least = either (λ z. IsTrue (int_le least_offset z)) (has_bit selector 2) new.voff old.voff is.least was.least;
  greatest = either (λ z. IsTrue (int_le z greatest_offset)) (has_bit selector 2) new.voff old.voff is.greatest
      was.greatest;
}

pub font_sets_look : (name : List ℕ) → SetsLook (font_set name)
font_sets_look name = by_place (position (bytes_eq name) fonts) refl where
  by_place : (place : Option ℕ) → position (bytes_eq name) fonts ≡ place
      → SetsLook (option_map (λ n. record { selector = 1; look = record default_look { font = n } }) place)
  by_place None found set is = absurd (cc is)
  by_place (Some n) found set is =
      let within : n < length fonts = (position-Some (bytes_eq name) fonts n [] found).0 in
      let same : record { selector = 1; look = record default_look { font = n } } ≡ set = cc is in
      subst (λ (s : LookChange). IsLook s.look) same (record {
        font = omega (arith, within);
        colour = default_is_look.colour;
        least = default_is_look.least;
        greatest = default_is_look.greatest;
      })

pub colour_sets_look : (z : ℤ) → SetsLook (colour_set z)
colour_sets_look (negsuc n) = λ set is. absurd (cc is)
colour_sets_look (pos n) = by_test (nat_le 0 n && nat_lt n number_of_colours) refl where
  by_test : (test : Bool) → nat_le 0 n && nat_lt n number_of_colours ≡ test
      → SetsLook (if test then Some (record { selector = 2; look = record default_look { colour = n } }) else None)
  by_test false tested set is = absurd (cc is)
  by_test true tested set is =
      let same : record { selector = 2; look = record default_look { colour = n } } ≡ set = cc is in
      subst (λ (s : LookChange). IsLook s.look) same (record {
        font = default_is_look.font;
        colour = ltb-true n number_of_colours (and_parts _ _ tested).1;
        least = default_is_look.least;
        greatest = default_is_look.greatest;
      })

pub offset_sets_look : (z : ℤ) → SetsLook (offset_set z)
offset_sets_look z = by_test (int_le least_offset z && int_le z greatest_offset) refl where
  by_test : (test : Bool) → int_le least_offset z && int_le z greatest_offset ≡ test
      → SetsLook (if test then Some (record { selector = 4; look = record default_look { voff = z } }) else None)
  by_test false tested set is = absurd (cc is)
  by_test true tested set is =
      let same : record { selector = 4; look = record default_look { voff = z } } ≡ set = cc is in
      let both = and_parts _ _ tested in
      subst (λ (s : LookChange). IsLook s.look) same (record {
        font = default_is_look.font;
        colour = default_is_look.colour;
        least = both.0;
        greatest = both.1;
      })

-- ---- a text

module _ {X : Type 0} where
  look_there : (n : ℕ) (text : Text X) → AreLooks text → IsLook (look_of (slice_get text n))
  look_there zero [] looks = default_is_look
  look_there (suc n) [] looks = default_is_look
  look_there zero (c ∷ text) looks = looks 0 c (omega arith)
  look_there (suc n) (c ∷ text) looks = look_there n text (All-tail (λ c. IsLook c.1) c text looks)

  -- the look at a position
  pub look_at_looks : (p : ℕ) (text : Text X) → AreLooks text → IsLook (look_at p text)
  look_at_looks p text looks = look_there _ text looks

  pub no_looks : AreLooks {X = X} []
  no_looks i c low = absurd (omega (arith, low))

  append_looks : (a b : Text X) → AreLooks a → AreLooks b → AreLooks (a ++ b)
  append_looks a b = All-append (λ c. IsLook c.1) a b

  take_looks : (n : ℕ) (text : Text X) → AreLooks text → AreLooks (take n text)
  take_looks n text = All-take (λ c. IsLook c.1) n text

  drop_looks : (n : ℕ) (text : Text X) → AreLooks text → AreLooks (drop n text)
  drop_looks n text = All-drop (λ c. IsLook c.1) n text

  -- a copy of a stretch
  pub stretch_looks : (beg end : ℕ) (text : Text X) → AreLooks text → AreLooks (stretch beg end text)
  stretch_looks beg end text looks = take_looks _ (drop beg text) (drop_looks beg text looks)

  pub inserted_looks : (p : ℕ) (other text : Text X) → AreLooks other → AreLooks text
      → AreLooks (inserted p other text)
  inserted_looks p other text more looks =
      append_looks (take p text) (other ++ drop p text) (take_looks p text looks)
      (append_looks other (drop p text) more (drop_looks p text looks))

  pub deleted_looks : (beg end : ℕ) (text : Text X) → AreLooks text → AreLooks (deleted beg end text)
  deleted_looks beg end text looks =
      append_looks (take beg text) (drop end text) (take_looks beg text looks) (drop_looks end text looks)

  all_relooked_looks : (selector : ℕ) (new : Look) (text : Text X) → IsLook new → AreLooks text
      → AreLooks (all_relooked selector new text)
  all_relooked_looks selector new text is looks =
      All-map (λ c. IsLook c.1) (λ (c : X × Look). (c.0, relooked selector new c.1)) text
      (λ i c low. relooked_is_look selector new _ is (looks i c low))

  -- the looks of a stretch were changed
  pub looks_changed_looks : (beg end selector : ℕ) (new : Look) (text : Text X) → IsLook new → AreLooks text
      → AreLooks (looks_changed beg end selector new text)
  looks_changed_looks beg end selector new text is looks =
      append_looks (take beg text) (all_relooked selector new (stretch beg end text) ++ drop end text)
      (take_looks beg text looks)
      (append_looks (all_relooked selector new (stretch beg end text)) (drop end text)
      (all_relooked_looks selector new (stretch beg end text) is (stretch_looks beg end text looks))
      (drop_looks end text looks))

-- new characters in a look
pub run_looks : (off len : ℕ) (look : Look) → IsLook look → AreLooks (run off len look)
run_looks off zero look is = no_looks
run_looks off (suc len) look is =
    All-cons (λ c. IsLook c.1) (off, look) (run (suc off) len look) is (run_looks (suc off) len look is)

-- ---- pieces, and the text that is seen of them

contents_looks : (characters : List ℕ) (text : Text ℕ) → AreLooks text → AreLooks (contents characters text)
contents_looks characters text =
    All-map (λ c. IsLook c.1) (λ (c : ℕ × Look). (slice_index characters c.0, c.1)) text

looks_of_contents : (characters : List ℕ) (text : Text ℕ) → AreLooks (contents characters text) → AreLooks text
looks_of_contents characters [] looks = no_looks
looks_of_contents characters (c ∷ text) looks =
    All-cons (λ c. IsLook c.1) c text (looks 0 c (omega arith))
    (looks_of_contents characters text (All-tail (λ c. IsLook c.1) _ (contents characters text) looks))

pub seen_looks : (characters : List ℕ) (pieces : List Piece) → AreLooks (flat pieces)
    → AreLooks (seen_text characters pieces)
seen_looks characters pieces = contents_looks characters (flat pieces)

pub looks_of_seen : (characters : List ℕ) (pieces : List Piece) → AreLooks (seen_text characters pieces)
    → AreLooks (flat pieces)
looks_of_seen characters pieces = looks_of_contents characters (flat pieces)

first_looks : (a b : Text ℕ) → AreLooks (a ++ b) → AreLooks a
first_looks [] b looks = no_looks
first_looks (c ∷ a) b looks =
    All-cons (λ c. IsLook c.1) c a (looks 0 c (omega arith))
    (first_looks a b (All-tail (λ c. IsLook c.1) c (a ++ b) looks))

last_looks : (a b : Text ℕ) → AreLooks (a ++ b) → AreLooks b
last_looks [] b looks = looks
last_looks (c ∷ a) b looks = last_looks a b (All-tail (λ c. IsLook c.1) c (a ++ b) looks)

look_of_run : (off len : ℕ) (look : Look) → 0 < len → AreLooks (run off len look) → IsLook look
look_of_run off zero look some looks = absurd (omega (arith, some))
look_of_run off (suc len) look some looks = looks 0 (off, look) (omega arith)

flat_looks : (ps : List Piece) → All (λ p. 0 < p.len) ps → AreLooks (flat ps) → All (λ p. IsLook p.look) ps
flat_looks [] some looks = λ i p low. absurd (omega (arith, low))
flat_looks (p ∷ ps) some looks =
    All-cons (λ p. IsLook p.look) p ps
    (look_of_run p.off p.len p.look (some 0 p (omega arith)) (first_looks (run p.off p.len p.look) (flat ps) looks))
    (flat_looks ps (All-tail (λ p. 0 < p.len) p ps some) (last_looks (run p.off p.len p.look) (flat ps) looks))

looks_flat : (ps : List Piece) → All (λ p. IsLook p.look) ps → AreLooks (flat ps)
looks_flat [] looks = no_looks
looks_flat (p ∷ ps) looks =
    append_looks (run p.off p.len p.look) (flat ps)
    (run_looks p.off p.len p.look (looks 0 p (omega arith)))
    (looks_flat ps (All-tail (λ p. IsLook p.look) p ps looks))

-- pieces of some character have looks where the text has
pub piece_looks : (ps : List Piece) → All (λ p. 0 < p.len) ps → AreLooks (seen_text [] ps)
    → All (λ p. IsLook p.look) ps
piece_looks ps some looks = flat_looks ps some (looks_of_seen [] ps looks)

-- and the text has where the pieces have
pub pieces_looked : (characters : List ℕ) (ps : List Piece) → All (λ p. IsLook p.look) ps
    → AreLooks (seen_text characters ps)
pieces_looked characters ps looks = seen_looks characters ps (looks_flat ps looks)

-- ---- tables of pieces

-- each text of a table that is kept has looks
abbrev pub AllLooked : {K : Type 0} → List (K × List Piece) → Type 0
AllLooked table = All (λ pieces. AreLooks (flat pieces)) (values_of table)

or_none_looks : (found : Option (List Piece)) → IfSome found (λ pieces. AreLooks (flat pieces))
    → AreLooks (flat (unwrap_or found []))
or_none_looks None looks = no_looks
or_none_looks (Some pieces) looks = looks

module _ {K : Type 0} where
  pub seen_table_looks : (characters : List ℕ) (table : List (K × List Piece)) → AllLooked table
      → All AreLooks (values_of (seen_table characters table))
  seen_table_looks characters [] looks = λ i t low. absurd (omega (arith, low))
  seen_table_looks characters (e ∷ es) looks =
      All-cons AreLooks (seen_text characters e.1) (values_of (seen_table characters es))
      (seen_looks characters e.1 (looks 0 e.1 (omega arith)))
      (seen_table_looks characters es (All-tail (λ pieces. AreLooks (flat pieces)) e.1 (values_of es) looks))

  looks_of_table : (characters : List ℕ) (table : List (K × List Piece))
      → All AreLooks (values_of (seen_table characters table)) → AllLooked table
  looks_of_table characters [] looks = λ i pieces low. absurd (omega (arith, low))
  looks_of_table characters (e ∷ es) looks =
      All-cons (λ pieces. AreLooks (flat pieces)) e.1 (values_of es)
      (looks_of_seen characters e.1 (looks 0 (seen_text characters e.1) (omega arith)))
      (looks_of_table characters es
      (All-tail AreLooks (seen_text characters e.1) (values_of (seen_table characters es)) looks))

  -- a text that is found, and where there is none the empty one
  pub found_looks : (test : K → Bool) (table : List (K × List Piece)) → AllLooked table
      → AreLooks (flat (unwrap_or (lookup test table) []))
  found_looks test table looks =
      or_none_looks (lookup test table)
      (IfSome-lookup_from_All (λ pieces. AreLooks (flat pieces)) test table looks)

-- texts go
left_looks : {K : Type 0} (test : K → Bool) (table : List (K × Text ℕ)) → All AreLooks (values_of table)
    → All AreLooks (values_of (filter (λ e. test e.0) table))
left_looks test [] looks = looks
left_looks {K} test (e ∷ es) looks =
    let rest = left_looks test es (All-tail AreLooks e.1 (values_of es) looks) in
    elim (test e.0) as (λ b. All AreLooks (values_of
    (let l : List (K × Text ℕ) = cond b (e ∷ filter (λ e. test e.0) es) (filter (λ e. test e.0) es) in l))) [
      | true ↦ All-cons AreLooks e.1 _ (looks 0 e.1 (omega arith)) rest
      | false ↦ rest
    ]

-- ---- a desktop

-- all that has a look
abbrev looked : Desktop → Look × Texts (Text ℕ) × Files (Text ℕ) × Text ℕ × Text ℕ
looked d = (d.look, d.texts, d.files, d.copied, d.deleted)

abbrev AllLooks : Look × Texts (Text ℕ) × Files (Text ℕ) × Text ℕ × Text ℕ → Type 0
AllLooks all =
    IsLook all.0 × All AreLooks (values_of all.1) × All AreLooks (values_of all.2) × AreLooks all.3 × AreLooks all.4

-- it stays, whatever else differs
pub looks_stay : {d e : Desktop} → HasLooks d → looked d ≡ looked e → HasLooks e
looks_stay {d} {e} has same =
    let all : AllLooks (looked e) = subst AllLooks same (has.look, has.texts, has.files, has.copied, has.deleted) in
    record { look = all.0; texts = all.1; files = all.2; copied = all.3; deleted = all.4 }

module _ (d : Desktop) (has : HasLooks d) where
  -- other texts
  pub texts_looks : (texts : Texts (Text ℕ)) → All AreLooks (values_of texts) → HasLooks (record d { texts = texts })
  texts_looks texts looks =
      record { look = has.look; texts = looks; files = has.files; copied = has.copied; deleted = has.deleted }

  -- the text of a number became this one, and viewers followed
  pub edited_looks : (n : ℕ) (text : Text ℕ) (viewers : List (ℕ × Viewer)) → AreLooks text
      → HasLooks (edited d n text viewers)
  edited_looks n text viewers looks =
      looks_stay
      (texts_looks (set_value (is_at (nat_cmp n)) d.texts text)
      (All-values-set_value (is_at (nat_cmp n)) AreLooks d.texts text has.texts looks)) refl

  -- a text more
  pub new_looks : (text : Text ℕ) → AreLooks text → HasLooks (record d { texts = with_new d.texts text })
  new_looks text looks =
      texts_looks (with_new d.texts text)
      (All-values-insert_entry nat_cmp (least_unused (keys_of d.texts)) text AreLooks d.texts has.texts looks)

  -- texts that no viewer shows are removed
  pub dropped_looks : HasLooks (without_unshown d)
  unfolding without_unshown
  dropped_looks =
      texts_looks (filter (λ e. is_shown d.viewers e.0) d.texts) (left_looks (is_shown d.viewers) d.texts has.texts)

  -- other files
  pub files_looks : (files : Files (Text ℕ)) → All AreLooks (values_of files) → HasLooks (record d { files = files })
  files_looks files looks =
      record { look = has.look; texts = has.texts; files = looks; copied = has.copied; deleted = has.deleted }

  -- the file of a name became this text
  pub put_looks : (name : List ℕ) (text : Text ℕ) → AreLooks text
      → HasLooks (record d { files = file_put d.files name text })
  put_looks name text looks =
      files_looks (file_put d.files name text)
      (All-values-insert_entry name_cmp name text AreLooks d.files has.files looks)

  -- something else was copied last
  pub copied_looks : (text : Text ℕ) → AreLooks text → HasLooks (record d { copied = text })
  copied_looks text looks =
      record { look = has.look; texts = has.texts; files = has.files; copied = looks; deleted = has.deleted }

  -- something else was deleted last
  pub taken_looks : (text : Text ℕ) → AreLooks text → HasLooks (record d { deleted = text })
  taken_looks text looks =
      record { look = has.look; texts = has.texts; files = has.files; copied = has.copied; deleted = looks }

  -- another look is typed
  pub typed_looks : (look : Look) → IsLook look → HasLooks (record d { look = look })
  typed_looks look is =
      record { look = is; texts = has.texts; files = has.files; copied = has.copied; deleted = has.deleted }

-- ---- what of the shape stays

-- all but buffers, pattern, look, and how many characters were written
abbrev main_parts : Desktop → Desktop
main_parts d = record d { copied = []; deleted = []; pattern = []; look = default_look; written = 0 }

pub shape_stays : {d e : Desktop} → IsShaped d → main_parts d ≡ main_parts e → length e.pattern ≤ most_pattern
    → HasLooks e → IsShaped e
shape_stays shaped same few looks = record {
  viewers = subst (λ (x : Desktop). AreViewers x.texts x.viewers) same shaped.viewers;
  places = subst (λ (x : Desktop). ArePlaces x.viewers x.columns x.closed) same shaped.places;
  marks = subst (λ (x : Desktop). AreMarks x.columns (main_length x.texts x.viewers) x.caret x.selections) same
      shaped.marks;
  marker = subst (λ (x : Desktop). ForSome x.marker (λ m. (m.0 < COLUMNS) × (m.1 < ROWS))) same shaped.marker;
  files = subst (λ (x : Desktop). AreFiles x.files) same shaped.files;
  pattern = few;
  looks = looks;
}

-- all whose characters are a source's
abbrev spelled : KeptDesktop → Texts (List Piece) × Files (List Piece) × List Piece × List Piece
spelled d = (d.texts, d.files, d.copied, d.deleted)

abbrev AllSpelled : ℕ → Texts (List Piece) × Files (List Piece) × List Piece × List Piece → Type 0
AllSpelled n all =
    AllWithin n all.0 × AllWithin n all.1 × AreWithin n (flat all.2) × AreWithin n (flat all.3)

pub within_stays : {n : ℕ} {d e : KeptDesktop} → IsWithin n d → spelled d ≡ spelled e → IsWithin n e
within_stays {n} {d} {e} within same =
    let all : AllSpelled n (spelled e) =
    subst (AllSpelled n) same (within.texts, within.files, within.copied, within.deleted) in
    record { texts = all.0; files = all.1; copied = all.2; deleted = all.3 }

-- another number of characters was written
pub written_shaped : {d : Desktop} (n : ℕ) → IsShaped d → IsShaped (record d { written = n })
written_shaped n shaped = shape_stays shaped refl shaped.pattern (looks_stay shaped.looks refl)

-- ---- a desktop that is kept

module _ (n : ℕ) (d : KeptDesktop) (built : IsBuilt n d) where
  pub kept_look : IsLook d.look
  unfolding seen
  kept_look = (built.shaped []).looks.look

  pub kept_texts_looks : AllLooked d.texts
  unfolding seen
  kept_texts_looks = looks_of_table [] d.texts (built.shaped []).looks.texts

  -- its text of a number
  pub kept_text_looks : (k : ℕ) → AreLooks (flat (text_in d.texts k))
  kept_text_looks k = found_looks (is_at (nat_cmp k)) d.texts kept_texts_looks

  pub kept_files_looks : AllLooked d.files
  unfolding seen
  kept_files_looks = looks_of_table [] d.files (built.shaped []).looks.files

  pub kept_copied_looks : AreLooks (flat d.copied)
  unfolding seen
  kept_copied_looks = looks_of_seen [] d.copied (built.shaped []).looks.copied

  pub kept_deleted_looks : AreLooks (flat d.deleted)
  unfolding seen
  kept_deleted_looks = looks_of_seen [] d.deleted (built.shaped []).looks.deleted
