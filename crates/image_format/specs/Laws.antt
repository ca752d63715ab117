-- What holds of images, whoever reads or writes them.
use Rattle.std.specs.Prelude.{◌≡◌, ℕ, ◌+◌, ◌%◌, ◌^◌, ◌<◌, ◌≤◌, ◌↔◌, if◌then◌else◌, List, [], length, Some}
use Rattle.desktop_definitions.specs.Desktop.{KeptDesktop, empty_desktop}
use Rattle.desktop_definitions.specs.Sound.{IsKeptWhole}
use Rattle.image_format.specs.declared.empty.TheConstants.{EMPTY_IMAGE, FLAT_EMPTY_IMAGE}
use Rattle.image_format.specs.declared.limits.TheConstants.{IMAGE_BYTES}
use Rattle.sector_disk.specs.declared.disk.TheConstants.{SECTOR_BYTES}
use Rattle.image_format.specs.Image.{Image, has_overlays, image_of, image_bytes, IsSpellable, Spells}
use Rattle.image_format.specs.Fitting.{FitsImage}
use Rattle.image_format.specs.Reading.{whole_image_at}

-- what is read is an image whose parts fit, and such an image is read
abbrev pub ReadingLaw : Type 0
ReadingLaw = (version written : ℕ) (bytes : List ℕ) (i : Image) → written < 2 ^ 32
    → (whole_image_at version written bytes ≡ Some (i, []))
    ↔ (FitsImage version written i × (bytes ≡ image_bytes version i))

-- the bytes of the empty desktop
abbrev pub empty_bytes : ℕ → List ℕ
empty_bytes version = if has_overlays version then EMPTY_IMAGE else FLAT_EMPTY_IMAGE

-- it is written so, and read again
abbrev pub EmptyLaw : Type 0
EmptyLaw = (version : ℕ) → (image_bytes version (image_of empty_desktop) ≡ empty_bytes version)
    × (whole_image_at version 0 (empty_bytes version) ≡ Some (image_of empty_desktop, []))

-- the parts of a desktop that holds together fit
abbrev pub FittingLaw : Type 0
FittingLaw = (version : ℕ) (d : KeptDesktop) → IsKeptWhole d → IsSpellable version d
    → FitsImage version d.written (image_of d)

-- two desktops that hold together have the same parts only if they are one
abbrev pub ImagingLaw : Type 0
ImagingLaw = (d e : KeptDesktop) → IsKeptWhole d → IsKeptWhole e → d.written ≡ e.written
    → image_of d ≡ image_of e
    → d ≡ e

-- in a version bytes are the image of one desktop at most
abbrev pub UniqueLaw : Type 0
UniqueLaw = (version written : ℕ) (bytes : List ℕ) (d e : KeptDesktop)
    → Spells version written bytes d
    → Spells version written bytes e → d ≡ e

-- an image has room in a slot, after the characters that fill no sector
abbrev pub RoomLaw : Type 0
RoomLaw = (version written : ℕ) (bytes : List ℕ) (d : KeptDesktop) → Spells version written bytes d
    → written % SECTOR_BYTES + length bytes ≤ IMAGE_BYTES
