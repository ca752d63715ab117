-- The image of the empty desktop, by computing.
use Rattle.std.proofs.Common.{◌≡◌, ℕ, ◌<◌, ◌≤◌, ◌^◌, Bool, true, false, List, [], ◌∷◌, ◌++◌, refl, sym, arith}
use Rattle.std.specs.Prelude.{if◌then◌else◌}
use Rattle.event_bytes.specs.Parts.{byte, word_bytes, counted_bytes}
use Rattle.viewer_tracks.specs.declared.display.TheConstants.{DEPTH}
use Rattle.desktop_definitions.specs.Desktop.{empty_desktop}
use Rattle.image_format.specs.declared.empty.TheConstants.{EMPTY_IMAGE, FLAT_EMPTY_IMAGE}
use Rattle.image_format.specs.Image.{Image, image_of, image_bytes, has_overlays, look_bytes, optional, cell_bytes}
use Rattle.image_format.specs.Image.{listed_bytes, text_bytes, file_bytes, pieces_bytes}
use Rattle.image_format.specs.Fitting.{FitsImage, FitsStack}
use Rattle.image_format.specs.Laws.{EmptyLaw, empty_bytes}
use Rattle.image_format.proofs.Images.{whole_again}

abbrev empty : Image
empty = image_of empty_desktop

-- its bytes, by whether there are overlays
abbrev bytes_in : Bool → List ℕ
bytes_in overlays = look_bytes empty.look ++ (counted_bytes byte empty.pattern ++ (optional cell_bytes empty.marker
    ++ (listed_bytes word_bytes text_bytes empty.texts ++ (listed_bytes word_bytes file_bytes empty.files
    ++ (pieces_bytes empty.copied ++ (pieces_bytes empty.deleted ++ (((if overlays then word_bytes 0 else byte 0) ++ [])
    ++ (((if overlays then byte 1 else []) ++ (0 ∷ [])) ++ (((if overlays then byte 1 else []) ++ (0 ∷ []))
    ++ (0 ∷ []))))))))))

empty_in : (overlays : Bool) → bytes_in overlays ≡ (if overlays then EMPTY_IMAGE else FLAT_EMPTY_IMAGE)
unfolding empty_desktop image_of
empty_in true = refl
empty_in false = refl

exact : (version : ℕ) → image_bytes version empty ≡ empty_bytes version
unfolding empty_desktop image_of image_bytes
exact version = empty_in (has_overlays version)

-- no number is as small as these
no_id : (overlays : Bool) → 0 < (if overlays then 2 ^ 16 else 2 ^ 8)
no_id true = omega arith
no_id false = omega arith

one_level : (overlays : Bool) → 1 ≤ (if overlays then DEPTH else 1)
one_level true = omega arith
one_level false = omega arith

fits : (version : ℕ) → FitsImage version 0 empty
unfolding empty_desktop image_of FitsImage
fits version =
    let stack : FitsStack version ([] ∷ []) = (omega arith, (one_level (has_overlays version), ((refl, tt), tt))) in (
      record { font = omega arith; colour = omega arith; least = refl; greatest = refl },
      (
        omega arith,
        (
          tt,
          (
            (omega arith, ((omega arith, (refl, (omega arith, tt))), tt)),
            (
              (omega arith, tt),
              (
                (omega arith, tt),
                (
                  (omega arith, tt),
                  ((no_id (has_overlays version), (omega arith, tt)), (stack, (stack, tt))),
                ),
              ),
            ),
          ),
        ),
      ),
    )

pub empty_law : EmptyLaw
empty_law version = (
  exact version,
  whole_again version 0 (empty_bytes version) empty (omega arith) (fits version) (sym (exact version)),
)
