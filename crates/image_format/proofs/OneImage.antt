-- Bytes are the image of one desktop at most, since what they are read as says which desktop it is.
use Rattle.std.specs.Prelude.{◌≡◌, ℕ, ◌≤◌, List, [], Some}
use Rattle.std.proofs.Common.{sym, ap, subst, ◌∙◌, arith}
use Rattle.event_bytes.proofs.PartLaws.{some_is}
use Rattle.desktop_definitions.specs.Limits.{most_written}
use Rattle.desktop_definitions.specs.Desktop.{KeptDesktop}
use Rattle.desktop_definitions.specs.Seen.{seen}
use Rattle.desktop_definitions.specs.Sound.{IsKeptWhole}
use Rattle.image_format.specs.Image.{Image, image_of, Spells}
use Rattle.image_format.specs.Fitting.{FitsImage}
use Rattle.image_format.specs.Reading.{whole_image_at}
use Rattle.image_format.specs.Laws.{UniqueLaw}
use Rattle.image_format.proofs.DesktopFits.{desktop_fits}
use Rattle.image_format.proofs.Images.{whole_again}
use Rattle.image_format.proofs.OneDesktop.{same_desktop}

written_low : (d : KeptDesktop) → IsKeptWhole d → d.written ≤ most_written
unfolding seen
written_low d whole = (whole.sound []).written_within

-- the bytes of an image are read as it
pub read_back : (version written : ℕ) (bytes : List ℕ) (d : KeptDesktop) → Spells version written bytes d
    → whole_image_at version written bytes ≡ Some (image_of d, [])
read_back version written bytes d spells =
    let low = written_low d spells.whole in
    let count = spells.count in
    whole_again version written bytes (image_of d) (omega (arith, low, count))
    (subst (λ (n : ℕ). FitsImage version n (image_of d)) count (desktop_fits version d spells.whole spells.parts))
    spells.exact

pub one_image : UniqueLaw
one_image version written bytes d e first second = same_desktop d e first.whole second.whole
    (first.count ∙ sym second.count) (ap (λ (x : Image × List ℕ). x.0)
    (some_is {A = Image × List ℕ} (image_of d, []) (image_of e, [])
    (sym (read_back version written bytes d first) ∙ read_back version written bytes e second)))
