-- Reading an image of a version from left to right.
use Rattle.std.specs.Prelude.{ℕ, zero, suc, ◌+◌, ◌-◌, ◌*◌, Bool, ◌&&◌, ◌==◌, if◌then◌else◌, nat_le}
use Rattle.std.specs.Prelude.{nat_lt, List, [], ◌∷◌}
use Rattle.std.specs.Prelude.{length, Option, Some, None, ℤ, pos, ◌-ℤ◌}
use Rattle.event_bytes.specs.Parts.{Reader, ◌>>=◌, when, byte_at, pair_at, counted_at, three_at}
use Rattle.event_bytes.specs.Reading.{name_at}
use Rattle.piece_ring.specs.declared.piece.Look.{Look}
use Rattle.piece_ring.specs.declared.piece.Piece.{Piece}
use Rattle.viewer_tracks.specs.declared.display.TheConstants.{ROWS, COLUMNS, DEPTH, SYSTEM_LEFT}
use Rattle.viewer_tracks.specs.declared.display.Track.{Track}
use Rattle.viewer_tracks.specs.declared.display.Track.TheVariants.{User, System}
use Rattle.viewer_tracks.specs.Viewers.{Entry}
use Rattle.desktop_definitions.specs.Limits.{number_of_fonts, number_of_colours}
use Rattle.desktop_definitions.specs.declared.viewer.ClosedViewer.{ClosedViewer}
use Rattle.desktop_definitions.specs.Limits.{most_files, most_held, most_pattern}
use Rattle.desktop_definitions.specs.Tables.{Texts, Files}
use Rattle.image_format.specs.declared.picture.Ranked.{Ranked}
use Rattle.image_format.specs.declared.picture.ViewerPicture.{ViewerPicture}
use Rattle.image_format.specs.declared.limits.TheConstants.{MOST_VIEWERS}
use Rattle.image_format.specs.Image.{Image, image_with, has_overlays, below_zero, offsets}
use Rattle.image_format.specs.Fitting.{less, after_text, follows, after_file, length_of_pieces, totals, after_viewer, above}
use Rattle.image_format.specs.Fitting.{overlaid}

-- ---- forms

-- so many items, each read by what those before it leave
unfoldable pub times : {S A : Type 0} → (S → Reader A) → (S → A → S) → ℕ → S → Reader (List A)
times item next zero s bytes = Some ([], bytes)
times item next (suc n) s bytes = do
  x ← item s bytes
  xs ← times item next n (next s x.0) x.1
  Some (x.0 ∷ xs.0, xs.1)

-- 0, or 1 and a value
abbrev pub optional_at : {A : Type 0} → Reader A → Reader (Option A)
optional_at read bytes = do
  flag ← byte_at bytes
  if flag.0 == 0 then Some (None, flag.1) else if flag.0 == 1 then (do
    x ← read flag.1
    Some (Some x.0, x.1)) else None

unfoldable pub long_at : Reader ℕ
long_at bytes = do
  high ← pair_at bytes
  low ← pair_at high.1
  Some (high.0 * 65536 + low.0, low.1)

-- ---- looks and pieces

unfoldable pub offset_at : Reader ℤ
offset_at bytes = do
  b ← byte_at bytes
  if nat_lt b.0 offsets then Some (pos b.0 -ℤ pos below_zero, b.1) else None

unfoldable pub raw_look_at : Reader Look
raw_look_at bytes =
    three_at byte_at byte_at offset_at
    (λ font colour voff. record { font = font; colour = colour; voff = voff }) bytes

abbrev pub is_look : Look → Bool
is_look l = nat_lt l.font number_of_fonts && nat_lt l.colour number_of_colours

unfoldable pub image_look_at : Reader Look
image_look_at bytes = when is_look raw_look_at bytes

unfoldable pub raw_piece_at : Reader Piece
raw_piece_at bytes = do
  off ← long_at bytes
  len ← long_at off.1
  look ← image_look_at len.1
  last ← byte_at look.1
  if last.0 == 0 then Some (record { off = off.0; len = len.0; look = look.0 }, last.1) else None

abbrev pub is_piece : ℕ → ℕ → Piece → Bool
is_piece written room p = nat_lt 0 p.len && (nat_le p.len room && nat_le (p.off + p.len) written)

unfoldable pub piece_at : ℕ → ℕ → Reader Piece
piece_at written room bytes = when (is_piece written room) raw_piece_at bytes

unfoldable pub pieces_at : ℕ → ℕ → Reader (List Piece)
pieces_at written room bytes = do
  count ← long_at bytes
  times (piece_at written) less count.0 room count.1

-- ---- texts and files

-- a key that passes a test, and a text
abbrev pub keyed_at : {K : Type 0} → Reader K → (K → Bool) → ℕ → ℕ → Reader (K × List Piece)
keyed_at read test written room bytes = do
  key ← read bytes
  if test key.0 then (do
    pieces ← pieces_at written room key.1
    Some ((key.0, pieces.0), pieces.1)) else None

abbrev pub text_at : ℕ → ℕ × ℕ → Reader (ℕ × List Piece)
text_at written s bytes = keyed_at pair_at (nat_le s.0) written s.1 bytes

unfoldable pub texts_at : ℕ → ℕ → Reader (Texts (List Piece))
texts_at written room bytes = do
  count ← pair_at bytes
  times (text_at written) after_text count.0 (0, room) count.1

abbrev pub image_file_at : ℕ → Option (List ℕ) × ℕ → Reader (List ℕ × List Piece)
image_file_at written s bytes = keyed_at name_at (follows s.0) written s.1 bytes

unfoldable pub files_at : ℕ → ℕ → Reader (Files (List Piece))
files_at written room bytes = do
  count ← pair_at bytes
  if nat_le count.0 most_files then times (image_file_at written) after_file count.0
      (None, room) count.1 else None

-- ---- viewers

unfoldable pub ranked_at : Reader Ranked
ranked_at bytes =
    three_at byte_at long_at long_at (λ rank beg end. record { rank = rank; beg = beg; end = end })
    bytes

-- an id, or a number of viewers
unfoldable pub id_at : ℕ → Reader ℕ
id_at version bytes = if has_overlays version then pair_at bytes else byte_at bytes

abbrev pub image_viewer_at : ℕ → ℕ → Reader ViewerPicture
image_viewer_at version least bytes = do
  id ← id_at version bytes
  if nat_le least id.0 then (do
    menu ← pair_at id.1
    main ← pair_at menu.1
    org ← long_at main.1
    caret ← optional_at long_at org.1
    selection ← optional_at ranked_at caret.1
    Some (
      record {
        id = id.0;
        viewer = record { menu = menu.0; main = main.0; org = org.0 };
        caret = caret.0;
        selection = selection.0;
      },
      selection.1,
    )) else None

unfoldable pub viewers_at : ℕ → Reader (List ViewerPicture)
viewers_at version bytes = do
  count ← id_at version bytes
  if nat_le count.0 MOST_VIEWERS then times (image_viewer_at version) after_viewer count.0 0 count.1
      else None

-- ---- tracks

unfoldable pub raw_entry_at : ℕ → Reader Entry
raw_entry_at version bytes = do
  viewer ← id_at version bytes
  height ← byte_at viewer.1
  Some (record { viewer = viewer.0; height = height.0 }, height.1)

abbrev pub is_entry : ℕ → Entry → Bool
is_entry room e = nat_lt 0 e.height && nat_le e.height room

unfoldable pub entry_at : ℕ → ℕ → Reader Entry
entry_at version room bytes = when (is_entry room) (raw_entry_at version) bytes

unfoldable pub image_track_at : ℕ → Reader (List Entry)
image_track_at version bytes = do
  count ← byte_at bytes
  times (entry_at version) above count.0 ROWS count.1

-- one that has so many viewers at least
unfoldable pub level_at : ℕ → ℕ → Reader (List Entry)
level_at version least bytes =
    when (λ track. nat_le least (length track)) (image_track_at version) bytes

-- a number of tracks
unfoldable pub depth_at : ℕ → Reader ℕ
depth_at version bytes = if has_overlays version then byte_at bytes else Some (1, bytes)

-- the tracks of a column, from the lowest up
unfoldable pub stack_at : ℕ → Reader (List (List Entry))
stack_at version bytes = do
  depth ← depth_at version bytes
  if nat_lt 0 depth.0 && nat_le depth.0 DEPTH
      then times (level_at version) overlaid depth.0 0 depth.1 else None

-- ---- the rest

unfoldable pub pattern_at : Reader (List ℕ)
pattern_at bytes = when (λ pattern. nat_le (length pattern) most_pattern) (counted_at byte_at) bytes

unfoldable pub raw_cell_at : Reader (ℕ × ℕ)
raw_cell_at bytes = do
  x ← byte_at bytes
  y ← byte_at x.1
  Some ((x.0, y.0), y.1)

abbrev pub is_cell : ℕ × ℕ → Bool
is_cell c = nat_lt c.0 COLUMNS && nat_lt c.1 ROWS

unfoldable pub image_cell_at : Reader (ℕ × ℕ)
image_cell_at bytes = when is_cell raw_cell_at bytes

-- a track by its left column
unfoldable pub side_at : Reader Track
side_at bytes = do
  x ← byte_at bytes
  if x.0 == 0 then Some (User, x.1) else if x.0 == SYSTEM_LEFT then Some (System, x.1) else None

unfoldable pub raw_closed_at : ℕ → Reader ClosedViewer
raw_closed_at version bytes = three_at (id_at version) side_at byte_at
    (λ viewer track top. record { viewer = viewer; track = track; top = top }) bytes

abbrev pub is_closed : ClosedViewer → Bool
is_closed k = nat_lt 0 k.top && nat_le k.top ROWS

unfoldable pub closed_at : ℕ → Reader ClosedViewer
closed_at version bytes = when is_closed (raw_closed_at version) bytes

-- ---- the whole

-- an image for which so many characters were written
unfoldable pub desktop_image_at : ℕ → ℕ → Reader Image
desktop_image_at version written bytes = do
  look ← image_look_at bytes
  pattern ← pattern_at look.1
  marker ← optional_at image_cell_at pattern.1
  texts ← texts_at written most_held marker.1
  files ← files_at written (most_held - totals texts.0) texts.1
  copied ← pieces_at written (most_held - totals texts.0 - totals files.0) files.1
  deleted ← pieces_at written
      (most_held - totals texts.0 - totals files.0 - length_of_pieces copied.0) copied.1
  viewers ← viewers_at version deleted.1
  user ← stack_at version viewers.1
  system ← stack_at version user.1
  closed ← optional_at (closed_at version) system.1
  Some (
    image_with (look.0, pattern.0, marker.0) (texts.0, files.0, copied.0, deleted.0) viewers.0
        (user.0, system.0, closed.0),
    closed.1,
  )

-- an image, and no byte after it
unfoldable pub whole_image_at : ℕ → ℕ → Reader Image
whole_image_at version written bytes = do
  image ← desktop_image_at version written bytes
  if length image.1 == 0 then Some image else None
