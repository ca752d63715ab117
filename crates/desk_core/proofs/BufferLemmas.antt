-- What is known of both buffers.
use Rattle.std.specs.Prelude.{◌≡◌, ◌≤◌, ℕ, List, length}
use Rattle.std.proofs.Common.{refl}
use Rattle.piece_ring.specs.Flat.{flat}
use Rattle.piece_ring.specs.Text.{AreWithin}
use Rattle.desktop_definitions.specs.Limits.{most_held}
use Rattle.desktop_definitions.specs.Desktop.{KeptDesktop}
use Rattle.desktop_definitions.specs.Looks.{AreLooks}
use Rattle.desktop_definitions.specs.Seen.{seen, seen_text}
use Rattle.desktop_definitions.specs.Sound.{IsOver}
use Rattle.desktop_definitions.proofs.RowLaws.{over_built}
use Rattle.desktop_definitions.proofs.KeyLaws.{copied_small, deleted_small}
use Rattle.desktop_definitions.proofs.LookedLaws.{kept_copied_looks, kept_deleted_looks}
use Rattle.desk_core.specs.declared.edits.DeskBuffer.{DeskBuffer}
use Rattle.desk_core.specs.declared.edits.DeskBuffer.TheVariants.{Copied, Deleted}
use Rattle.desk_core.specs.Buffers.{buffer_of}

pub buffer_seen : (old : List ℕ) (d : KeptDesktop) (buffer : DeskBuffer)
    → seen_text old (buffer_of d buffer) ≡ buffer_of (seen old d) buffer
unfolding seen
buffer_seen old d Copied = refl
buffer_seen old d Deleted = refl

pub buffer_within : (old : List ℕ) (d : KeptDesktop) (buffer : DeskBuffer) → IsOver old d
    → AreWithin (length old) (flat (buffer_of d buffer))
buffer_within old d Copied over = (over_built old d over).within.copied
buffer_within old d Deleted over = (over_built old d over).within.deleted

pub buffer_small : (old : List ℕ) (d : KeptDesktop) (buffer : DeskBuffer) → IsOver old d
    → length (flat (buffer_of d buffer)) ≤ most_held
buffer_small old d Copied over = copied_small old d over
buffer_small old d Deleted over = deleted_small old d over

pub buffer_looks : (old : List ℕ) (d : KeptDesktop) (buffer : DeskBuffer) → IsOver old d
    → AreLooks (flat (buffer_of d buffer))
buffer_looks old d Copied over = kept_copied_looks (length old) d (over_built old d over)
buffer_looks old d Deleted over = kept_deleted_looks (length old) d (over_built old d over)
