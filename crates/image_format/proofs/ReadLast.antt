-- What is read last: the second buffer of what is held, and the end of an image.
use Rattle.std.proofs.Common.{◌≡◌, ℕ, ◌-◌, ◌==◌, List, [], ◌∷◌, length, if◌then◌else◌, Option, Some, None, Ok, Err, refl, ◌∙◌, ap, arith}
use Rattle.std.proofs.lemmas.Bool.{ne_eqb}
use Rattle.event_bytes.specs.Parts.{◌>>=◌}
use Rattle.piece_ring.specs.declared.piece.Piece.{Piece}
use Rattle.desktop_definitions.specs.Limits.{most_held}
use Rattle.desktop_definitions.specs.Tables.{Texts, Files}
use Rattle.image_format.specs.declared.fault.ImageFault.{ImageFault}
use Rattle.image_format.specs.declared.source.ByteSource.{Ghosts as SourceGhosts}
use Rattle.image_format.specs.Fitting.{length_of_pieces, totals}
use Rattle.image_format.specs.Image.{Image, Held}
use Rattle.image_format.specs.Reading.{texts_at, files_at, pieces_at, desktop_image_at, whole_image_at}
use Rattle.image_format.specs.Steps.{end_at, held_at}
use Rattle.image_format.specs.Streams.{Reads}
use Rattle.image_format.proofs.Parts.{follows_on, fails, makes}

-- what follows the texts, the files and the first buffer
abbrev with_copied : ℕ → Texts (List Piece) → Files (List Piece) → List Piece × List ℕ → Option (Held × List ℕ)
with_copied written texts files copied =
    pieces_at written (most_held - totals texts - totals files - length_of_pieces copied.0) copied.1 >>= λ deleted.
    Some ((texts, files, copied.0, deleted.0), deleted.1)

abbrev with_files : ℕ → Texts (List Piece) → Files (List Piece) × List ℕ → Option (Held × List ℕ)
with_files written texts files = pieces_at written (most_held - totals texts - totals files.0) files.1
    >>= with_copied written texts files.0

abbrev with_texts : ℕ → Texts (List Piece) × List ℕ → Option (Held × List ℕ)
with_texts written texts = files_at written (most_held - totals texts.0) texts.1 >>= with_files written texts.0

module _ {S T F K D Z : Type 0} {s : SourceGhosts S} {view_texts : T → Texts (List Piece)}
    {view_files : F → Files (List Piece)} {view_copied : K → List Piece} {view_deleted : D → List Piece} {t : T} {f : F}
    {k : K} {e : ImageFault} {old a b d new : S} where
  -- the second buffer was not read
  pub without_deleted : (all : Z → Held)
      → ((a b c : S) → s.same_ground a b → s.same_ground b c → s.same_ground a c) → (written : ℕ)
      → Reads s view_texts (Ok t) (texts_at written most_held) old a
      → Reads s view_files (Ok f) (files_at written (most_held - totals (view_texts t))) a b
      → Reads s view_copied (Ok k)
      (pieces_at written (most_held - totals (view_texts t) - totals (view_files f))) b d
      → Reads s view_deleted (Err e)
      (pieces_at written (most_held - totals (view_texts t) - totals (view_files f) - length_of_pieces (view_copied k)))
      d new
      → Reads s all (Err e) (held_at written) old new
  unfolding held_at
  without_deleted all through written texts files copied deleted =
      follows_on through (held_at written) texts (λ bytes after is. ap (λ r. r >>= with_texts written) is)
      (follows_on through (λ bytes. with_texts written (view_texts t, bytes)) files
      (λ bytes after is. ap (λ r. r >>= with_files written (view_texts t)) is)
      (follows_on through (λ bytes. with_files written (view_texts t) (view_files f, bytes)) copied
      (λ bytes after is. ap (λ r. r >>= with_copied written (view_texts t) (view_files f)) is)
      (fails all (λ bytes. with_copied written (view_texts t) (view_files f) (view_copied k, bytes)) deleted
      (λ bytes is. ap
      (λ r. r >>= λ last. Some ((view_texts t, view_files f, view_copied k, last.0), last.1)) is))))

-- the end after an image
abbrev at_end : Image × List ℕ → Option (Image × List ℕ)
at_end image = if length image.1 == 0 then Some image else None

abbrev after_image : Image → ℕ × List ℕ → Option (Image × List ℕ)
after_image image r = Some (image, r.1)

ended : (image : Image) (a b : ℕ × List ℕ) → Some a ≡ Some b → after_image image a ≡ after_image image b
ended image a b e = let same : a ≡ b = cc in ap (after_image image) same

end_is : (image : Image) (bytes after : List ℕ) → end_at bytes ≡ Some (0, after) → at_end (image, bytes)
    ≡ Some (image, after)
end_is image [] after is = ended image (0, []) (0, after) is
end_is image (byte ∷ bytes) after is = cc

no_end : (image : Image) (bytes : List ℕ) → end_at bytes ≡ None → at_end (image, bytes) ≡ None
no_end image [] is = cc
no_end image (byte ∷ bytes) is = rw (ne_eqb (length (byte ∷ bytes)) 0 (λ e. omega (arith, e))) refl

module _ {S X Y : Type 0} {s : SourceGhosts S} {view : X → Image} {x : X} {none : Y → ℕ} {old mid new : S}
    (through : (a b c : S) → s.same_ground a b → s.same_ground b c → s.same_ground a c) (version written : ℕ)
    (image : Reads s view (Ok x) (desktop_image_at version written) old mid) where
  -- it was there
  pub to_the_end : {y : Y} → ((y : Y) → none y ≡ 0) → Reads s none (Ok y) end_at mid new
      → Reads s view (Ok x) (whole_image_at version written) old new
  unfolding whole_image_at
  to_the_end {y} zero end = follows_on through (whole_image_at version written) image
      (λ bytes after is. ap (λ r. r >>= at_end) is)
      (makes view x (λ bytes. at_end (view x, bytes)) end
      (λ bytes after is. end_is (view x) bytes after (is ∙ ap (λ n. Some (n, after)) (zero y))))

  -- it wasn't, or couldn't be read
  pub not_to_the_end : {e : ImageFault} → Reads s none (Err e) end_at mid new
      → Reads s view (Err e) (whole_image_at version written) old new
  unfolding whole_image_at
  not_to_the_end end = follows_on through (whole_image_at version written) image
      (λ bytes after is. ap (λ r. r >>= at_end) is)
      (fails view (λ bytes. at_end (view x, bytes)) end (λ bytes is. no_end (view x) bytes is))
