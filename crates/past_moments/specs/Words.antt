-- What led to a moment of a past, in words.
use Rattle.std.specs.Prelude.{ℕ, ◌+◌, ◌-◌, nat_le, if◌then◌else◌, List, [], Option, Some, None, codes, length, slice_get}
use Rattle.desktop_definitions.specs.Desktop.{Desktop}
use Rattle.desk_past.specs.Deeds.{PastDeed}
use Rattle.desk_past.specs.Past.{Start, moment}
use Rattle.told_pasts.specs.Words.{deed_line}

abbrev pub told_at : Desktop → Option PastDeed → List ℕ
told_at d None = []
told_at d (Some deed) = deed_line d deed

-- the deed that led to moment k of a past, in words
abbrev pub led_words : Start → List PastDeed → ℕ → List ℕ
led_words start deeds k =
    if nat_le k start.before then codes "the oldest moment" else
    (if nat_le (start.before + length deeds) k then codes "the present"
    else told_at (moment start deeds (k - 1)) (slice_get deeds (k - 1 - start.before)))
