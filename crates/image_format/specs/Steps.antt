-- Reading an image in the steps of the code: what `specs/Reading.antt` says at once, said in smaller parts.
use Rattle.std.specs.Prelude.{◌≡◌, ℕ, ◌-◌, nat_le, if◌then◌else◌, List, [], ◌∷◌, length, Option, Some, None}
use Rattle.std.specs.Prelude.{Result, IfOk}
use Rattle.event_bytes.specs.Parts.{Reader, ◌>>=◌, byte_at, bytes_at}
use Rattle.piece_ring.specs.declared.piece.Piece.{Piece}
use Rattle.desktop_definitions.specs.Limits.{most_held, most_pattern}
use Rattle.desktop_definitions.specs.Tables.{Texts, Files}
use Rattle.image_format.specs.declared.fault.ImageFault.{ImageFault}
use Rattle.image_format.specs.declared.source.ByteSource.{Ghosts as SourceGhosts}
use Rattle.image_format.specs.Fitting.{Chain, length_of_pieces, totals, FitsTexts, FitsFiles, FitsPieces}
use Rattle.image_format.specs.Image.{Image, Front, Held, Shown, image_with}
use Rattle.image_format.specs.Reading.{times, optional_at, image_look_at, pattern_at, image_cell_at, texts_at, files_at, pieces_at}
use Rattle.image_format.specs.Reading.{viewers_at, stack_at, closed_at}
use Rattle.image_format.specs.Streams.{Reads}

-- ---- bytes

-- the next byte, whatever number it is
abbrev pub any_at : Reader ℕ
any_at [] = None
any_at (b ∷ bs) = Some (b, bs)

-- the end
abbrev pub end_at : Reader ℕ
end_at [] = Some (0, [])
end_at (b ∷ bs) = None

-- bytes after their number, no more than a pattern may have
unfoldable pub short_at : Reader (List ℕ)
short_at bytes = do
  count ← byte_at bytes
  if nat_le count.0 most_pattern then bytes_at count.0 count.1 else None

-- the key of the last entry
abbrev pub last_key : {K X : Type 0} → List (K × X) → Option K
last_key [] = None
last_key (e ∷ []) = Some e.0
last_key (e ∷ (f ∷ es)) = last_key (f ∷ es)

-- ---- items

-- A call that reads so many items, each of which fits what those before it leave.
pub record ReadsItems {S T X A : Type 0} (s : SourceGhosts S) (view : X → List A)
    (result : Result X ImageFault)
    (item : T → Reader A) (Fits : T → A → Type 0) (next : T → A → T) (count : ℕ) (first : T)
    (old new : S) : Type 0
  where
    pub reads : Reads s view result (times item next count first) old new
    pub fits : IfOk result (λ x. Chain Fits next first (view x))
    pub many : IfOk result (λ x. length (view x) ≡ count)

-- ---- the sections of an image

unfoldable pub front_at : Reader Front
front_at bytes = do
  look ← image_look_at bytes
  pattern ← pattern_at look.1
  marker ← optional_at image_cell_at pattern.1
  Some ((look.0, pattern.0, marker.0), marker.1)

unfoldable pub held_at : ℕ → Reader Held
held_at written bytes = do
  texts ← texts_at written most_held bytes
  files ← files_at written (most_held - totals texts.0) texts.1
  copied ← pieces_at written (most_held - totals texts.0 - totals files.0) files.1
  deleted ← pieces_at written
      (most_held - totals texts.0 - totals files.0 - length_of_pieces copied.0) copied.1
  Some ((texts.0, files.0, copied.0, deleted.0), deleted.1)

-- each of these fits what those before it leave
abbrev pub FitHeld : ℕ → Texts (List Piece) → Files (List Piece) → List Piece → List Piece → Type 0
FitHeld written texts files copied deleted = FitsTexts written most_held texts
    × (FitsFiles written (most_held - totals texts) files
    × (FitsPieces written (most_held - totals texts - totals files) copied
    × FitsPieces written (most_held - totals texts - totals files - length_of_pieces copied)
    deleted))

unfoldable pub shown_at : ℕ → Reader Shown
shown_at version bytes = do
  user ← stack_at version bytes
  system ← stack_at version user.1
  closed ← optional_at (closed_at version) system.1
  Some ((user.0, system.0, closed.0), closed.1)

-- all sections, with the viewers between them
abbrev pub sections_at : ℕ → ℕ → Reader Image
sections_at version written bytes = do
  front ← front_at bytes
  held ← held_at written front.1
  viewers ← viewers_at version held.1
  shown ← shown_at version viewers.1
  Some (image_with front.0 held.0 viewers.0 shown.0, shown.1)
