-- Which images have parts that fit, each for itself. The parts of a desktop that holds together do so; what they have
-- to do with each other is not asked here.
use Rattle.std.specs.Prelude.{◌≡◌, ℕ, ◌+◌, ◌-◌, ◌<◌, ◌≤◌, Bool, true, nat_le, List, [], ◌∷◌}
use Rattle.std.specs.Prelude.{length, IsTrue}
use Rattle.std.specs.Prelude.{Option, Some, None, IfSome, sum_by}
use Rattle.std.specs.Ordering.{is_lt}
use Rattle.event_bytes.specs.Bytes.{is_name}
use Rattle.piece_ring.specs.declared.piece.Piece.{Piece}
use Rattle.viewer_tracks.specs.declared.display.TheConstants.{ROWS, COLUMNS}
use Rattle.viewer_tracks.specs.Viewers.{Entry}
use Rattle.desktop_definitions.specs.declared.viewer.ClosedViewer.{ClosedViewer}
use Rattle.desktop_definitions.specs.Limits.{most_files, most_held, most_pattern}
use Rattle.desktop_definitions.specs.Looks.{IsLook}
use Rattle.desktop_definitions.specs.Tables.{Texts, Files, name_cmp}
use Rattle.image_format.specs.declared.picture.Ranked.{Ranked}
use Rattle.image_format.specs.declared.picture.ViewerPicture.{ViewerPicture}
use Rattle.image_format.specs.declared.limits.TheConstants.{MOST_VIEWERS}
use Rattle.image_format.specs.Image.{Image, InByte, InWord, InLong, InId, deepest}

-- ---- one after another: each item fits what those before it leave

abbrev pub Chain : {S A : Type 0} → (S → A → Type 0) → (S → A → S) → S → List A → Type 0
Chain Fits next s [] = Unit {0}
Chain Fits next s (x ∷ xs) = Fits s x × Chain Fits next (next s x) xs

-- ---- pieces, of which room characters are left

abbrev pub length_of_pieces : List Piece → ℕ
length_of_pieces pieces = sum_by (λ p. p.len) pieces

-- some characters, of those that were written
pub record FitsPiece (written room : ℕ) (p : Piece) : Type 0 where
  pub some : 0 < p.len
  pub short : p.len ≤ room
  pub inside : p.off + p.len ≤ written
  pub look : IsLook p.look

abbrev pub less : ℕ → Piece → ℕ
less room p = room - p.len

abbrev pub FitsPieces : ℕ → ℕ → List Piece → Type 0
FitsPieces written room pieces = InLong (length pieces) × Chain (FitsPiece written) less room pieces

-- ---- texts and files: what is left is the least number or the name before, and room

-- a number above those before it
abbrev pub FitsText : ℕ → ℕ × ℕ → ℕ × List Piece → Type 0
FitsText written s t = InWord t.0 × ((nat_le s.0 t.0 ≡ true) × FitsPieces written s.1 t.1)

abbrev pub after_text : ℕ × ℕ → ℕ × List Piece → ℕ × ℕ
after_text s t = (t.0 + 1, s.1 - length_of_pieces t.1)

abbrev pub FitsTexts : ℕ → ℕ → Texts (List Piece) → Type 0
FitsTexts written room texts =
    InWord (length texts) × Chain (FitsText written) after_text (0, room) texts

-- a name comes after the one before it
abbrev pub follows : Option (List ℕ) → List ℕ → Bool
follows None name = true
follows (Some before) name = is_lt (name_cmp before name)

abbrev pub FitsFile : ℕ → Option (List ℕ) × ℕ → List ℕ × List Piece → Type 0
FitsFile written s f =
    IsTrue (is_name f.0) × ((follows s.0 f.0 ≡ true) × FitsPieces written s.1 f.1)

abbrev pub after_file : Option (List ℕ) × ℕ → List ℕ × List Piece → Option (List ℕ) × ℕ
after_file s f = (Some f.0, s.1 - length_of_pieces f.1)

abbrev pub FitsFiles : ℕ → ℕ → Files (List Piece) → Type 0
FitsFiles written room files =
    (length files ≤ most_files) × Chain (FitsFile written) after_file (None, room) files

-- what the texts of a table hold
abbrev pub totals : {K : Type 0} → List (K × List Piece) → ℕ
totals table = sum_by (λ e. length_of_pieces e.1) table

-- ---- viewers, by rising ids

abbrev pub FitsRanked : Ranked → Type 0
FitsRanked r = InByte r.rank × (InLong r.beg × InLong r.end)

abbrev pub FitsViewer : ℕ → ℕ → ViewerPicture → Type 0
FitsViewer version least v = InId version v.id × ((nat_le least v.id ≡ true) × (InWord v.viewer.menu
    × (InWord v.viewer.main
    × (InLong v.viewer.org × (IfSome v.caret InLong × IfSome v.selection FitsRanked)))))

abbrev pub after_viewer : ℕ → ViewerPicture → ℕ
after_viewer least v = v.id + 1

-- no more than there are places
abbrev pub FitsViewers : ℕ → List ViewerPicture → Type 0
FitsViewers version viewers = InId version (length viewers) × ((length viewers ≤ MOST_VIEWERS)
    × Chain (FitsViewer version) after_viewer 0 viewers)

-- ---- tracks, of which room rows are left

pub record FitsEntry (version room : ℕ) (e : Entry) : Type 0 where
  pub viewer : InId version e.viewer
  pub some : 0 < e.height
  pub short : e.height ≤ room

abbrev pub above : ℕ → Entry → ℕ
above room e = room - e.height

abbrev pub FitsTrack : ℕ → List Entry → Type 0
FitsTrack version track = Chain (FitsEntry version) above ROWS track

-- ---- columns: an overlay has a viewer at least, and the lowest track none

abbrev pub FitsLevel : ℕ → ℕ → List Entry → Type 0
FitsLevel version least track = (nat_le least (length track) ≡ true) × FitsTrack version track

abbrev pub overlaid : ℕ → List Entry → ℕ
overlaid least track = 1

abbrev pub FitsStack : ℕ → List (List Entry) → Type 0
FitsStack version stack = (0 < length stack) × ((length stack ≤ deepest version)
    × Chain (FitsLevel version) overlaid 0 stack)

-- ---- the rest

abbrev pub FitsPattern : List ℕ → Type 0
FitsPattern pattern = length pattern ≤ most_pattern

abbrev pub FitsCell : ℕ × ℕ → Type 0
FitsCell c = (c.0 < COLUMNS) × (c.1 < ROWS)

abbrev pub FitsClosed : ℕ → ClosedViewer → Type 0
FitsClosed version k = InId version k.viewer × ((0 < k.top) × (k.top ≤ ROWS))

-- ---- images of a version, for which so many characters were written

unfoldable pub FitsImage : ℕ → ℕ → Image → Type 0
FitsImage version written i = IsLook i.look × (FitsPattern i.pattern × (IfSome i.marker FitsCell
    × (FitsTexts written most_held i.texts
    × (FitsFiles written (most_held - totals i.texts) i.files
    × (FitsPieces written (most_held - totals i.texts - totals i.files) i.copied
    × (FitsPieces written (most_held - totals i.texts - totals i.files - length_of_pieces i.copied)
    i.deleted
    × (FitsViewers version i.viewers × (FitsStack version i.user × (FitsStack version i.system
    × IfSome i.closed (FitsClosed version))))))))))

-- of some version
abbrev pub FitsSome : ℕ → Image → Type 0
FitsSome written i = (version : ℕ) × FitsImage version written i
