-- How many bytes an image has at most: twelve for each character that the desktop holds, and some thousands.
use Rattle.std.specs.Prelude.{◌≡◌, ℕ, ◌+◌, ◌*◌, ◌%◌, ◌<◌, ◌≤◌, ◌&&◌, nat_le, true, false, Bool, IsTrue}
use Rattle.std.specs.Prelude.{List, [], ◌∷◌, ◌++◌, length, reverse, sum_by, All, Option, Some, None, if◌then◌else◌}
use Rattle.std.specs.List.{flat_map, slice_index_or}
use Rattle.std.specs.Map.{keys_of, values_of}
use Rattle.std.proofs.Common.{refl, ap, subst, ◌∙◌, arith, length-append}
use Rattle.std.proofs.lemmas.Bool.{leb-true}
use Rattle.std.proofs.lemmas.List.{length-map, length-reverse}
use Rattle.std.proofs.lemmas.List.Concat.{flat_map-cons, length-flat_map}
use Rattle.std.proofs.lemmas.List.Elements.{All-head, All-tail}
use Rattle.std.proofs.lemmas.List.Sums.{sum_by-cons, sum_by-le}
use Rattle.std.proofs.lemmas.Map.Made.{keys_of-map_values}
use Rattle.event_bytes.specs.Bytes.{is_name}
use Rattle.event_bytes.specs.Parts.{byte, word_bytes, counted_bytes}
use Rattle.piece_ring.specs.declared.piece.Piece.{Piece}
use Rattle.viewer_tracks.specs.declared.display.TheConstants.{ROWS, DEPTH}
use Rattle.viewer_tracks.specs.Display.{left_of}
use Rattle.viewer_tracks.specs.Viewers.{Entry, IsTrack}
use Rattle.viewer_tracks.specs.Columns.{IsStack}
use Rattle.desktop_definitions.specs.declared.viewer.ClosedViewer.{ClosedViewer}
use Rattle.desktop_definitions.specs.Limits.{most_files, most_held, most_pattern}
use Rattle.desktop_definitions.specs.Tables.{Texts, Files}
use Rattle.desktop_definitions.specs.Desktop.{KeptDesktop, characters_held}
use Rattle.desktop_definitions.specs.Seen.{seen, seen_text}
use Rattle.desktop_definitions.specs.Sound.{IsKeptWhole, IsSound}
use Rattle.desktop_definitions.proofs.FewLaws.{few_viewers, few_texts}
use Rattle.desktop_definitions.proofs.TableLaws.{length_seen, length_seen_text, lengths_seen}
use Rattle.image_format.specs.declared.limits.TheConstants.{IMAGE_BYTES, MOST_VIEWERS}
use Rattle.sector_disk.specs.declared.disk.TheConstants.{SECTOR_BYTES}
use Rattle.image_format.specs.declared.picture.ViewerPicture.{ViewerPicture}
use Rattle.image_format.specs.Image.{Image, image_of, image_bytes, IsSpellable, Spells, AreSome, picture_of}
use Rattle.image_format.specs.Image.{long, optional, listed_bytes, piece_bytes, pieces_bytes, cell_bytes, text_bytes}
use Rattle.image_format.specs.Image.{file_bytes, ranked_bytes, viewer_bytes, viewers_bytes, entry_bytes, closed_bytes}
use Rattle.image_format.specs.Image.{id_bytes, depth_bytes, track_bytes, stack_bytes, has_overlays}
use Rattle.image_format.specs.Fitting.{length_of_pieces, totals}
use Rattle.image_format.proofs.Lists.{all_reversed}
use Rattle.image_format.proofs.PieceFits.{length_flat, few_pieces}
use Rattle.image_format.proofs.TableFits.{kept_totals}

-- ---- items

-- items that have so many bytes at most
items_few : {A : Type 0} (bytes : A → List ℕ) (n : ℕ) → ((x : A) → length (bytes x) ≤ n) → (xs : List A)
    → length (flat_map bytes xs) ≤ length xs * n
items_few bytes n each xs =
    let sum = length-flat_map bytes xs in
    let few = sum_by-le (λ x. length (bytes x)) n xs (λ i d low. each (slice_index_or xs i d)) in
    omega (arith, sum, few)

optional_few : {A : Type 0} (bytes : A → List ℕ) (n : ℕ) → ((x : A) → length (bytes x) ≤ n) → (o : Option A)
    → length (optional bytes o) ≤ n + 1
optional_few bytes n each None = omega arith
optional_few bytes n each (Some x) = let here = each x in omega (arith, here)

-- ---- texts

piece_twelve : (p : Piece) → length (piece_bytes p) ≤ 12
piece_twelve p = omega arith

pieces_few : (pieces : List Piece) → AreSome pieces → length (pieces_bytes pieces) ≤ 4 + 12 * length_of_pieces pieces
pieces_few pieces some =
    let all = items_few piece_bytes 12 piece_twelve pieces in
    let few = few_pieces pieces some in
    omega (arith, all, few)

texts_few : (texts : Texts (List Piece)) → All AreSome (values_of texts)
    → length (flat_map text_bytes texts) ≤ 6 * length texts + 12 * totals texts
texts_few [] some = omega arith
texts_few (t ∷ texts) some =
    let all = ap length (flat_map-cons text_bytes t texts) ∙ length-append (text_bytes t) (flat_map text_bytes texts) in
    let here = pieces_few t.1 (All-head AreSome t.1 (values_of texts) some) in
    let rest = texts_few texts (All-tail AreSome t.1 (values_of texts) some) in
    let sum = sum_by-cons (λ (e : ℕ × List Piece). length_of_pieces e.1) t texts in
    omega (arith, all, here, rest, sum)

first_test : (a b : Bool) → (a && b) ≡ true → a ≡ true
first_test true b is = refl
first_test false b is = absurd cc

name_few : (name : List ℕ) → IsTrue (is_name name) → length name ≤ 31
name_few name is = leb-true (length name) 31 (first_test (nat_le (length name) 31) _ is)

file_few : (f : List ℕ × List Piece) → IsTrue (is_name f.0) → AreSome f.1
    → length (file_bytes f) ≤ 36 + 12 * length_of_pieces f.1
file_few f name some =
    let first = name_few f.0 name in
    let all = length-append (counted_bytes byte f.0) (pieces_bytes f.1) in
    let rest = pieces_few f.1 some in
    omega (arith, first, all, rest)

files_few : (files : Files (List Piece)) → All (λ name. IsTrue (is_name name)) (keys_of files)
    → All AreSome (values_of files) → length (flat_map file_bytes files) ≤ 36 * length files + 12 * totals files
files_few [] names some = omega arith
files_few (f ∷ files) names some =
    let all = ap length (flat_map-cons file_bytes f files) ∙ length-append (file_bytes f) (flat_map file_bytes files) in
    let here = file_few f (All-head (λ name. IsTrue (is_name name)) f.0 (keys_of files) names)
    (All-head AreSome f.1 (values_of files) some) in
    let rest = files_few files (All-tail (λ name. IsTrue (is_name name)) f.0 (keys_of files) names)
    (All-tail AreSome f.1 (values_of files) some) in
    let sum = sum_by-cons (λ (e : List ℕ × List Piece). length_of_pieces e.1) f files in
    omega (arith, all, here, rest, sum)

-- ---- viewers and tracks

id_few : (overlays : Bool) (n : ℕ) → length (if overlays then word_bytes n else byte n) ≤ 2
id_few true n = omega arith
id_few false n = omega arith

viewer_few : (version : ℕ) (v : ViewerPicture) → length (viewer_bytes version v) ≤ 25
viewer_few version v =
    let id = id_few (has_overlays version) v.id in
    let caret = optional_few long 4 (λ n. omega arith) v.caret in
    let selection = optional_few ranked_bytes 9 (λ r. omega arith) v.selection in
    let both = length-append (optional long v.caret) (optional ranked_bytes v.selection) in
    let all = length-append (id_bytes version v.id) (word_bytes v.viewer.menu ++ (word_bytes v.viewer.main ++ (long v.viewer.org
    ++ (optional long v.caret ++ optional ranked_bytes v.selection)))) in
    omega (arith, id, caret, selection, both, all)

entry_few : (version : ℕ) (e : Entry) → length (entry_bytes version e) ≤ 3
entry_few version e =
    let id = id_few (has_overlays version) e.viewer in
    let all = length-append (id_bytes version e.viewer) (byte e.height) in
    omega (arith, id, all)

closed_few : (version : ℕ) (k : ClosedViewer) → length (closed_bytes version k) ≤ 4
closed_few version k =
    let id = id_few (has_overlays version) k.viewer in
    let all = length-append (id_bytes version k.viewer) (byte (left_of k.track) ++ byte k.top) in
    omega (arith, id, all)

-- each track has a viewer a row at most
abbrev AreLow : List (List Entry) → Type 0
AreLow stack = All (λ t. length t ≤ ROWS) stack

tracks_few : (version : ℕ) (stack : List (List Entry)) → AreLow stack
    → length (flat_map (track_bytes version) stack) ≤ 97 * length stack
tracks_few version [] low = omega arith
tracks_few version (t ∷ stack) low =
    let all = ap length (flat_map-cons (track_bytes version) t stack)
    ∙ length-append (track_bytes version t) (flat_map (track_bytes version) stack) in
    let entries = items_few (entry_bytes version) 3 (entry_few version) t in
    let few : length t ≤ ROWS = low 0 t (omega arith) in
    let rest = tracks_few version stack (All-tail (λ (u : List Entry). length u ≤ ROWS) t stack low) in
    omega (arith, all, entries, few, rest)

depth_few : (overlays : Bool) (n : ℕ) → length (if overlays then byte n else []) ≤ 1
depth_few true n = omega arith
depth_few false n = omega arith

stack_few : (version : ℕ) (stack : List (List Entry)) → AreLow stack → length stack ≤ DEPTH
    → length (stack_bytes version stack) ≤ 777
stack_few version stack low few =
    let depth = depth_few (has_overlays version) (length stack) in
    let tracks = tracks_few version stack low in
    let all = length-append (depth_bytes version (length stack)) (flat_map (track_bytes version) stack) in
    omega (arith, depth, tracks, all, few)

-- ---- an image, by how many of each there are

-- texts: the log, and two of each viewer
abbrev pub most_texts : ℕ
most_texts = 1 + 2 * MOST_VIEWERS

-- What bounds the length of an image.
pub record IsShort (i : Image) : Type 0 where
  pub pattern : length i.pattern ≤ most_pattern
  pub texts : length i.texts ≤ most_texts
  pub texts_some : All AreSome (values_of i.texts)
  pub names : All (λ name. IsTrue (is_name name)) (keys_of i.files)
  pub files : length i.files ≤ most_files
  pub files_some : All AreSome (values_of i.files)
  pub copied : AreSome i.copied
  pub deleted : AreSome i.deleted
  pub low : totals i.texts + totals i.files + length_of_pieces i.copied + length_of_pieces i.deleted ≤ most_held
  pub viewers : length i.viewers ≤ MOST_VIEWERS
  pub user : AreLow i.user
  pub user_few : length i.user ≤ DEPTH
  pub system : AreLow i.system
  pub system_few : length i.system ≤ DEPTH

-- the bytes of viewers, tracks and the viewer that was closed last
abbrev last_bytes : ℕ → Image → List ℕ
last_bytes version i = viewers_bytes version i.viewers
    ++ (stack_bytes version i.user ++ (stack_bytes version i.system ++ optional (closed_bytes version) i.closed))

last_few : (version : ℕ) (i : Image) → IsShort i → length (last_bytes version i) ≤ 15000
last_few version i short =
    let number = id_few (has_overlays version) (length i.viewers) in
    let viewers = items_few (viewer_bytes version) 25 (viewer_few version) i.viewers in
    let both = length-append (id_bytes version (length i.viewers)) (flat_map (viewer_bytes version) i.viewers) in
    let user = stack_few version i.user short.user short.user_few in
    let system = stack_few version i.system short.system short.system_few in
    let closed = optional_few (closed_bytes version) 4 (closed_few version) i.closed in
    let all = length-append (viewers_bytes version i.viewers)
    (stack_bytes version i.user ++ (stack_bytes version i.system ++ optional (closed_bytes version) i.closed)) in
    let more = length-append (stack_bytes version i.user)
    (stack_bytes version i.system ++ optional (closed_bytes version) i.closed) in
    let rest = length-append (stack_bytes version i.system) (optional (closed_bytes version) i.closed) in
    let viewer_count = short.viewers in
    omega (arith, number, viewers, both, user, system, closed, all, more, rest, viewer_count)

-- the bytes of texts, files and buffers, and all that comes after them
abbrev text_part : ℕ → Image → List ℕ
text_part version i = listed_bytes word_bytes text_bytes i.texts
    ++ (listed_bytes word_bytes file_bytes i.files ++ (pieces_bytes i.copied ++ (pieces_bytes i.deleted ++ last_bytes version i)))

texts_part_few : (version : ℕ) (i : Image) → IsShort i → length (text_part version i) ≤ 12 * most_held + 31000
texts_part_few version i short =
    let texts = texts_few i.texts short.texts_some in
    let files = files_few i.files short.names short.files_some in
    let copied = pieces_few i.copied short.copied in
    let deleted = pieces_few i.deleted short.deleted in
    let last = last_few version i short in
    let first = length-append (listed_bytes word_bytes text_bytes i.texts)
    (listed_bytes word_bytes file_bytes i.files ++ (pieces_bytes i.copied ++ (pieces_bytes i.deleted ++ last_bytes version i))) in
    let second = length-append (listed_bytes word_bytes file_bytes i.files)
    (pieces_bytes i.copied ++ (pieces_bytes i.deleted ++ last_bytes version i)) in
    let third = length-append (pieces_bytes i.copied) (pieces_bytes i.deleted ++ last_bytes version i) in
    let fourth = length-append (pieces_bytes i.deleted) (last_bytes version i) in
    let text_count = short.texts in
    let file_count = short.files in
    let low = short.low in
    omega (
      arith,
      texts,
      files,
      copied,
      deleted,
      last,
      first,
      second,
      third,
      fourth,
      text_count,
      file_count,
      low,
    )

pub image_few : (version : ℕ) (i : Image) → IsShort i → length (image_bytes version i) ≤ 12 * most_held + 32000
unfolding image_bytes
image_few version i short =
    let texts = texts_part_few version i short in
    let pattern = short.pattern in
    let marker = optional_few cell_bytes 2 (λ c. omega arith) i.marker in
    let first = length-append (counted_bytes byte i.pattern) (optional cell_bytes i.marker ++ text_part version i) in
    let second = length-append (optional cell_bytes i.marker) (text_part version i) in
    omega (arith, texts, pattern, marker, first, second)

-- ---- a desktop

-- what a desktop holds, by its pieces
pub held_totals : (characters : List ℕ) (d : KeptDesktop)
    → characters_held (seen characters d) ≡ totals d.texts + totals d.files + length_of_pieces d.copied + length_of_pieces d.deleted
unfolding characters_held seen
held_totals characters d =
    let texts = lengths_seen characters d.texts ∙ kept_totals d.texts in
    let files = lengths_seen characters d.files ∙ kept_totals d.files in
    let copied = length_seen_text characters d.copied ∙ length_flat d.copied in
    let deleted = length_seen_text characters d.deleted ∙ length_flat d.deleted in
    omega (arith, texts, files, copied, deleted)

-- a track has no more viewers than rows
few_in : (t : List Entry) → All (λ e. 0 < e.height) t → length t ≤ sum_by (λ e. e.height) t
few_in [] some = omega arith
few_in (e ∷ t) some =
    let here : 0 < e.height = some 0 e (omega arith) in
    let sum = sum_by-cons (λ (x : Entry). x.height) e t in
    let rest = few_in t (All-tail (λ (x : Entry). 0 < x.height) e t some) in
    omega (arith, here, sum, rest)

low_tracks : (s : List (List Entry)) → All IsTrack s → AreLow s
low_tracks s tracks i d low =
    let track : IsTrack (slice_index_or s i d) = tracks i d low in
    let few = few_in (slice_index_or s i d) track.some in
    let fits = track.fits in
    omega (arith, few, fits)

low_column : (s : List (List Entry)) → IsStack s → AreLow (reverse s)
low_column s stack = all_reversed (λ (t : List Entry). length t ≤ ROWS) s [] (low_tracks s stack.tracks)

few_levels : (s : List (List Entry)) → IsStack s → length (reverse s) ≤ DEPTH
few_levels s stack = let same = length-reverse s in let few = stack.few in omega (arith, same, few)

pub short_image : (version : ℕ) (d : KeptDesktop) → IsKeptWhole d → IsSpellable version d → IsShort (image_of d)
unfolding image_of seen
short_image version d whole parts =
    let sound : IsSound (seen [] d) = whole.sound [] in
    let shaped = sound.shaped in
    let viewers = few_viewers d.viewers d.columns d.closed shaped.places shaped.viewers.ids in
    let texts = few_texts (seen [] d) shaped.viewers.numbers sound.shown in
    let same = length_seen (seen_text []) d.texts in
    let files = shaped.files.few in
    let same_files = length_seen (seen_text []) d.files in
    let pictures = length-map {B = ViewerPicture} d.viewers (picture_of d.caret d.selections) in
    let low = sound.held_within in
    let sum = held_totals [] d in
    record {
      pattern = shaped.pattern;
      texts = omega (arith, viewers, texts, same);
      texts_some = parts.tables.texts;
      names = subst (λ (names : List (List ℕ)). All (λ name. IsTrue (is_name name)) names)
          (keys_of-map_values (seen_text []) d.files) shaped.files.names;
      files = omega (arith, files, same_files);
      files_some = parts.tables.files;
      copied = parts.tables.copied;
      deleted = parts.tables.deleted;
      low = omega (arith, low, sum);
      viewers = omega (arith, viewers, pictures);
      user = low_column d.columns.user shaped.places.columns_hold.user;
      user_few = few_levels d.columns.user shaped.places.columns_hold.user;
      system = low_column d.columns.system shaped.places.columns_hold.system;
      system_few = few_levels d.columns.system shaped.places.columns_hold.system;
    }

pub room : (version written : ℕ) (bytes : List ℕ) (d : KeptDesktop) → Spells version written bytes d
    → written % SECTOR_BYTES + length bytes ≤ IMAGE_BYTES
room version written bytes d spells =
    let long = image_few version (image_of d) (short_image version d spells.whole spells.parts) in
    let same = ap length spells.exact in
    let tail : written % SECTOR_BYTES < SECTOR_BYTES = omega arith in
    omega (arith, long, same, tail)
