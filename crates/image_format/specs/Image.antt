-- The image of a desktop: the bytes that stand for it in a slot of a store, after its last characters. They say how it
-- is kept, with texts as pieces of the characters. Each version of the layout has a form of its own: images have
-- overlaid tracks, and ids of two bytes, from a version on.
use Rattle.std.specs.Prelude.{◌≡◌, ℕ, ◌+◌, ◌-◌, ◌<◌, ◌≤◌, ◌^◌, ◌==◌, nat_le, Bool, if◌then◌else◌, List, [], ◌∷◌, ◌++◌, length}
use Rattle.std.specs.Prelude.{map, reverse, All}
use Rattle.std.specs.Prelude.{ℤ, pos, negsuc}
use Rattle.std.specs.Prelude.{Option, Some, None}
use Rattle.std.specs.List.{flat_map}
use Rattle.std.specs.Int.{w32, to_be_bytes}
use Rattle.std.specs.Int.RustNames.{unsigned_abs}
use Rattle.std.specs.Map.{keys_of, values_of}
use Rattle.event_bytes.specs.Parts.{byte, word_bytes, counted_bytes}
use Rattle.piece_ring.specs.declared.piece.Look.{Look}
use Rattle.piece_ring.specs.declared.piece.Piece.{Piece}
use Rattle.viewer_tracks.specs.declared.display.Track.TheVariants.{User, System}
use Rattle.viewer_tracks.specs.declared.display.TheConstants.{DEPTH}
use Rattle.viewer_tracks.specs.Columns.{stack_of}
use Rattle.viewer_tracks.specs.Display.{left_of}
use Rattle.viewer_tracks.specs.Viewers.{Entry}
use Rattle.desktop_definitions.specs.Limits.{least_offset, greatest_offset}
use Rattle.desktop_definitions.specs.declared.viewer.Viewer.{Viewer}
use Rattle.desktop_definitions.specs.declared.viewer.Caret.{Caret}
use Rattle.desktop_definitions.specs.declared.viewer.Selection.{Selection}
use Rattle.desktop_definitions.specs.declared.viewer.ClosedViewer.{ClosedViewer}
use Rattle.desktop_definitions.specs.Shown.{caret_position}
use Rattle.desktop_definitions.specs.Tables.{Texts, Files}
use Rattle.desktop_definitions.specs.Desktop.{KeptDesktop}
use Rattle.desktop_definitions.specs.Sound.{IsKeptWhole}
use Rattle.image_format.specs.declared.forms.TheConstants.{FIRST_WITH_OVERLAYS}
use Rattle.image_format.specs.declared.picture.Ranked.{Ranked}
use Rattle.image_format.specs.declared.picture.ViewerPicture.{ViewerPicture}

-- ---- images

pub record Image : Type 0 where
  pub look : Look
  pub pattern : List ℕ
  pub marker : Option (ℕ × ℕ)
  pub texts : Texts (List Piece)
  pub files : Files (List Piece)
  pub copied : List Piece
  pub deleted : List Piece
  -- each with its caret and its selection
  pub viewers : List ViewerPicture
  -- the tracks of both columns, from the lowest up, each bottom up
  pub user : List (List Entry)
  pub system : List (List Entry)
  pub closed : Option ClosedViewer

-- ---- its sections

-- the look, the pattern and the marker
abbrev pub Front : Type 0
Front = Look × List ℕ × Option (ℕ × ℕ)

-- the texts, the files, and what the two buffers have
abbrev pub Held : Type 0
Held = Texts (List Piece) × Files (List Piece) × List Piece × List Piece

-- the tracks of both columns, and the viewer that was closed last
abbrev pub Shown : Type 0
Shown = List (List Entry) × List (List Entry) × Option ClosedViewer

abbrev pub image_with : Front → Held → List ViewerPicture → Shown → Image
image_with front held viewers shown = record {
  look = front.0;
  pattern = front.1;
  marker = front.2;
  texts = held.0;
  files = held.1;
  copied = held.2;
  deleted = held.3;
  viewers = viewers;
  user = shown.0;
  system = shown.1;
  closed = shown.2;
}

-- ---- what an image says of a desktop

-- the selection in viewer v and its rank, the first of these having the rank n
abbrev pub ranked_in : ℕ → List Selection → ℕ → Option Ranked
ranked_in n [] v = None
ranked_in n (s ∷ later) v =
    if s.viewer == v then Some (record { rank = n; beg = s.beg; end = s.end })
    else ranked_in (n + 1) later v

abbrev pub picture_of : Option Caret → List Selection → ℕ × Viewer → ViewerPicture
picture_of caret selections v = record {
  id = v.0;
  viewer = v.1;
  caret = caret_position v.0 caret;
  selection = ranked_in 1 selections v.0;
}

unfoldable pub image_of : KeptDesktop → Image
image_of d = record {
  look = d.look;
  pattern = d.pattern;
  marker = d.marker;
  texts = d.texts;
  files = d.files;
  copied = d.copied;
  deleted = d.deleted;
  viewers = map (picture_of d.caret d.selections) d.viewers;
  user = reverse (stack_of d.columns User);
  system = reverse (stack_of d.columns System);
  closed = d.closed;
}

-- ---- versions

-- images of this version have overlaid tracks, and ids of two bytes
abbrev pub has_overlays : ℕ → Bool
has_overlays version = nat_le FIRST_WITH_OVERLAYS version

-- how many tracks a column has at most
abbrev pub deepest : ℕ → ℕ
deepest version = if has_overlays version then DEPTH else 1

-- ---- its bytes, numbers with the highest byte first

-- four bytes
abbrev pub long : ℕ → List ℕ
long n = to_be_bytes w32 n

-- how many vertical offsets lie below 0, and how many there are
abbrev pub below_zero : ℕ
below_zero = unsigned_abs least_offset

abbrev pub offsets : ℕ
offsets = below_zero + unsigned_abs greatest_offset + 1

-- a vertical offset, counted from the least one
abbrev pub offset_code : ℤ → ℕ
offset_code (pos n) = n + below_zero
offset_code (negsuc n) = below_zero - (n + 1)

-- 0 where there is nothing, else 1 and the value
abbrev pub optional : {A : Type 0} → (A → List ℕ) → Option A → List ℕ
optional bytes None = byte 0
optional bytes (Some x) = 1 ∷ bytes x

-- items after their number
abbrev pub listed_bytes : {A : Type 0} → (ℕ → List ℕ) → (A → List ℕ) → List A → List ℕ
listed_bytes number bytes items = number (length items) ++ flat_map bytes items

abbrev pub look_bytes : Look → List ℕ
look_bytes l = byte l.font ++ (byte l.colour ++ byte (offset_code l.voff))

abbrev pub piece_bytes : Piece → List ℕ
piece_bytes p = long p.off ++ (long p.len ++ (look_bytes p.look ++ byte 0))

abbrev pub pieces_bytes : List Piece → List ℕ
pieces_bytes pieces = listed_bytes long piece_bytes pieces

-- a column and a row
abbrev pub cell_bytes : ℕ × ℕ → List ℕ
cell_bytes c = byte c.0 ++ byte c.1

abbrev pub text_bytes : ℕ × List Piece → List ℕ
text_bytes t = word_bytes t.0 ++ pieces_bytes t.1

abbrev pub file_bytes : List ℕ × List Piece → List ℕ
file_bytes f = counted_bytes byte f.0 ++ pieces_bytes f.1

abbrev pub ranked_bytes : Ranked → List ℕ
ranked_bytes r = byte r.rank ++ (long r.beg ++ long r.end)

-- an id, or a number of viewers
abbrev pub id_bytes : ℕ → ℕ → List ℕ
id_bytes version n = if has_overlays version then word_bytes n else byte n

abbrev pub viewer_bytes : ℕ → ViewerPicture → List ℕ
viewer_bytes version v =
    id_bytes version v.id
    ++ (word_bytes v.viewer.menu ++ (word_bytes v.viewer.main ++ (long v.viewer.org
    ++ (optional long v.caret ++ optional ranked_bytes v.selection))))

abbrev pub viewers_bytes : ℕ → List ViewerPicture → List ℕ
viewers_bytes version viewers = listed_bytes (id_bytes version) (viewer_bytes version) viewers

abbrev pub entry_bytes : ℕ → Entry → List ℕ
entry_bytes version e = id_bytes version e.viewer ++ byte e.height

abbrev pub track_bytes : ℕ → List Entry → List ℕ
track_bytes version track = listed_bytes byte (entry_bytes version) track

-- a number of tracks, which isn't said where there is one in each column
abbrev pub depth_bytes : ℕ → ℕ → List ℕ
depth_bytes version n = if has_overlays version then byte n else []

abbrev pub stack_bytes : ℕ → List (List Entry) → List ℕ
stack_bytes version stack = listed_bytes (depth_bytes version) (track_bytes version) stack

abbrev pub closed_bytes : ℕ → ClosedViewer → List ℕ
closed_bytes version k = id_bytes version k.viewer ++ (byte (left_of k.track) ++ byte k.top)

unfoldable pub image_bytes : ℕ → Image → List ℕ
image_bytes version i =
    look_bytes i.look ++ (counted_bytes byte i.pattern ++ (optional cell_bytes i.marker
    ++ (listed_bytes word_bytes text_bytes i.texts ++ (listed_bytes word_bytes file_bytes i.files
    ++ (pieces_bytes i.copied ++ (pieces_bytes i.deleted ++ (viewers_bytes version i.viewers
    ++ (stack_bytes version i.user ++ (stack_bytes version i.system
    ++ optional (closed_bytes version) i.closed)))))))))

-- ---- images of desktops

-- numbers of one, two and four bytes
abbrev pub InByte : ℕ → Type 0
InByte n = n < 2 ^ 8

abbrev pub InWord : ℕ → Type 0
InWord n = n < 2 ^ 16

abbrev pub InLong : ℕ → Type 0
InLong n = n < 2 ^ 32

-- how many numbers an id has to choose from
abbrev pub number_of_ids : ℕ → ℕ
number_of_ids version = if has_overlays version then 2 ^ 16 else 2 ^ 8

-- an id, or a number of viewers
abbrev pub InId : ℕ → ℕ → Type 0
InId version n = n < number_of_ids version

abbrev pub AreSome : List Piece → Type 0
AreSome pieces = All (λ p. 0 < p.len) pieces

-- No piece of a desktop is empty, and the numbers of its texts are small.
pub record AreSpellable (d : KeptDesktop) : Type 0 where
  pub texts : All AreSome (values_of d.texts)
  pub files : All AreSome (values_of d.files)
  pub copied : AreSome d.copied
  pub deleted : AreSome d.deleted
  pub numbers : All InWord (keys_of d.texts)

-- What a desktop has that an image of this version can say: its tables are such, the ids of viewers are small, and no
-- column has more tracks than the version knows. In the newest version every desktop in memory has this by the types of
-- its parts.
pub record IsSpellable (version : ℕ) (d : KeptDesktop) : Type 0 where
  pub tables : AreSpellable d
  pub ids : All (InId version) (keys_of d.viewers)
  pub user : length (stack_of d.columns User) ≤ deepest version
  pub system : length (stack_of d.columns System) ≤ deepest version

-- The bytes are the image, in this version, of a desktop for which so many characters were written. The desktop holds
-- together.
pub record Spells (version written : ℕ) (bytes : List ℕ) (d : KeptDesktop) : Type 0 where
  pub count : d.written ≡ written
  pub whole : IsKeptWhole d
  pub parts : IsSpellable version d
  pub exact : bytes ≡ image_bytes version (image_of d)
