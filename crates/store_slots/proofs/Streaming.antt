-- Bytes that were put into the sectors of an image.
use Rattle.std.proofs.Common.{◌≡◌, ℕ, ◌+◌, ◌*◌, ◌≤◌, List, ◌++◌, length, refl, sym, ◌∙◌, ap, subst, arith}
use Rattle.std.proofs.Common.{length-append}
use Rattle.sector_disk.specs.declared.disk.TheConstants.{SECTOR_BYTES}
use Rattle.sector_disk.specs.declared.disk.Disk.{Ghosts}
use Rattle.sector_disk.specs.Confined.{IsConfined}
use Rattle.sector_disk.specs.Trail.{Content}
use Rattle.sector_disk.proofs.Confinement.{joined}
use Rattle.store_layout.specs.declared.filling.Filling.{Filling}
use Rattle.store_layout.specs.Filling.{first_sector, most_sectors, SectorsOf, InRange}
use Rattle.store_layout.proofs.FillingLaws.{sectors_are}
use Rattle.sector_disk.specs.Stored.{HoldsBytes, stored}
use Rattle.sector_disk.proofs.StoredLaws.{stored_held}
use Rattle.command_table.specs.Versions.{newest_version}
use Rattle.desktop_definitions.specs.Desktop.{KeptDesktop}
use Rattle.desktop_definitions.specs.Sound.{IsKeptWhole}
use Rattle.image_format.specs.declared.limits.TheConstants.{IMAGE_BYTES}
use Rattle.image_format.specs.Image.{image_of, image_bytes, IsSpellable}
use Rattle.image_format.specs.Laws.{RoomLaw}
use Rattle.store_layout.specs.Meaning.{left_over}
use Rattle.store_layout.specs.declared.layout.TheConstants.{IMAGE_SECTORS}

-- the characters that are left over and the image have room in a slot
pub has_room : (d : KeptDesktop) (tail : List ℕ) (count : ℕ) → IsKeptWhole d → IsSpellable newest_version d
    → length tail ≡ left_over d.written → count ≡ length (image_bytes newest_version (image_of d)) → RoomLaw
    → length tail + count ≤ IMAGE_BYTES
has_room d tail count whole parts tail_is count_is law =
    let room = law newest_version d.written (image_bytes newest_version (image_of d)) d
    (record { count = refl; whole = whole; parts = parts; exact = refl }) in
    omega (arith, tail_is, count_is, room)

-- what was put into sectors and finished touched no others
pub put_within : {D : Type 0} (d : Ghosts D) (f f' : Filling) {from limit : ℕ} {old mid new : D}
    → first_sector f ≡ from → most_sectors f ≡ limit → first_sector f' ≡ first_sector f
    → most_sectors f' ≡ most_sectors f → IsConfined d.size d.honest d.trail (SectorsOf f) old mid
    → IsConfined d.size d.honest d.trail (SectorsOf f') mid new
    → IsConfined d.size d.honest d.trail (InRange from limit) old new
put_within d f f' from_is limit_is same_from same_limit put finished =
    joined d.size d.honest d.trail (sectors_are d f from_is limit_is put)
    (sectors_are d f' (same_from ∙ from_is) (same_limit ∙ limit_is) finished)

-- bytes that fit are stored there, where the last sector was written
pub all_stored : (c : Content) (f : Filling) (at count : ℕ) (tail bytes : List ℕ) → first_sector f ≡ at
    → most_sectors f ≡ IMAGE_SECTORS → count ≡ length tail + length bytes → count ≤ IMAGE_BYTES
    → (length (tail ++ bytes) ≤ SECTOR_BYTES * most_sectors f → HoldsBytes c (first_sector f) (tail ++ bytes))
    → stored c at count ≡ tail ++ bytes
all_stored c f at count tail bytes at_is limit_is count_is fits held =
    subst (λ n. stored c n count ≡ tail ++ bytes) at_is
    (ap (stored c (first_sector f)) long
    ∙ stored_held c (first_sector f) (tail ++ bytes) (held (omega (arith, limit_is, long, fits))))
  where
    long : count ≡ length (tail ++ bytes)
    long = count_is ∙ sym (length-append tail bytes)
