-- What a desktop holds, by the lengths of its parts.
use Rattle.std.proofs.Common.{◌≡◌, ℕ, ◌+◌, List, length, arith}
use Rattle.piece_ring.specs.Flat.{flat}
use Rattle.desktop_definitions.specs.Tables.{lengths}
use Rattle.desktop_definitions.proofs.TableLaws.{length_seen_text}
use Rattle.desktop_definitions.specs.Desktop.{KeptDesktop, characters_held}
use Rattle.desktop_definitions.specs.Seen.{seen, seen_table}

pub held_is : (d : KeptDesktop) (characters : List ℕ) (texts files copied deleted : ℕ)
    → texts ≡ lengths (seen_table characters d.texts) → files ≡ lengths (seen_table characters d.files)
    → copied ≡ length (flat d.copied) → deleted ≡ length (flat d.deleted)
    → texts + files + copied + deleted ≡ characters_held (seen characters d)
unfolding characters_held seen
held_is d characters texts files copied deleted t f c e =
    let c_long = length_seen_text characters d.copied in
    let e_long = length_seen_text characters d.deleted in
    omega (arith, t, f, c, e, c_long, e_long)
