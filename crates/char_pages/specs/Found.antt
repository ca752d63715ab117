-- What is known of where a byte occurs in sectors of a disk.
use Rattle.std.specs.Prelude.{◌+◌, ◌<◌, ℕ}
use Rattle.sector_disk.specs.Trail.{Content}
use Rattle.char_pages.specs.declared.occurrences.Occurrences.{Occurrences}
use Rattle.char_pages.specs.Occurrences.{AreIndices, EachKnown}

-- what is known of the sectors from `base` on is what the disk reads
abbrev pub AreFound : Content → ℕ → Occurrences → Type 0
AreFound c base found = EachKnown (λ n indices. AreIndices found.wanted (c (base + n)) indices)
    found.known.items

-- each sector of which something is known is one of the first so many
abbrev pub AreKnownBelow : ℕ → Occurrences → Type 0
AreKnownBelow many found = EachKnown (λ n indices. n < many) found.known.items
