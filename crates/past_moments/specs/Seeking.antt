-- A word that stands on the screen at one moment of a past, and not at the next one. `d` is what is known of a disk.
use Rattle.std.specs.List.{list_any, starts_with}
use Rattle.std.specs.Prelude.{◌≡◌, ◌+◌, ◌<◌, ◌≤◌, ◌||◌, ℕ, nat_eq, Bool, true, false, List, [], ◌∷◌, map, Option, Some, None, ⊤}
use Rattle.sector_disk.specs.declared.disk.Disk.{Ghosts}
use Rattle.screen_pictures.specs.declared.cell.Cell.{Cell}
use Rattle.desktop_definitions.specs.Desktop.{Desktop}
use Rattle.desktop_definitions.specs.Shown.{shown_screen}
use Rattle.desk_journal.specs.View.{StoreView}
use Rattle.desk_past.specs.Deeds.{PastDeed}
use Rattle.desk_past.specs.Going.{LiesInPart}
use Rattle.desk_past.specs.Past.{Start, moment}
use Rattle.desk_past.specs.Turning.{PastOf}
use Rattle.past_moments.specs.declared.seeking.Sought.{Sought}
use Rattle.past_moments.specs.declared.seeking.Sought.TheVariants.{At, Before, Nowhere}

-- cells show a word from the first one on
abbrev pub begins_with : List Cell → List ℕ → Bool
begins_with cells word = starts_with nat_eq (map (λ cell. cell.ch) cells) word

-- or from one of them on
abbrev pub has_word : List Cell → List ℕ → Bool
has_word [] word = false
has_word (cell ∷ cells) word = begins_with (cell ∷ cells) word || has_word cells word

-- a row of the screen shows it
abbrev pub is_on_screen : List (List Cell) → List ℕ → Bool
is_on_screen screen word = list_any (λ row. has_word row word) screen

-- it stands on the screen of a desktop
unfoldable pub stands : List ℕ → Desktop → Bool
stands word desktop = is_on_screen (shown_screen desktop) word

-- ---- where it went, by whether it stands at each moment

-- it stands at this moment, and not at the next one
abbrev pub Goes : (ℕ → Bool) → ℕ → Type 0
Goes at i = (at i ≡ true) × (at (i + 1) ≡ false)

-- it goes at no moment from one up to another
abbrev pub Stays : (ℕ → Bool) → ℕ → ℕ → Type 0
Stays at from to = (i : ℕ) → from ≤ i → i < to → Goes at i → ⊥

-- the last such moment, if there is one
abbrev pub IsLastGone : (ℕ → Bool) → ℕ → Option ℕ → Type 0
IsLastGone at to None = Stays at 0 to
IsLastGone at to (Some i) = (i < to) × Goes at i × Stays at (i + 1) to

-- it went at that moment and not behind it, or at none from that moment on, of those before moment k
abbrev pub IsSoughtBy : (ℕ → Bool) → ℕ → Sought → Type 0
IsSoughtBy at k (At i) = Goes at i × Stays at (i + 1) k
IsSoughtBy at k (Before i) = Stays at i k
IsSoughtBy at k Nowhere = ⊤

-- that moment is one before moment k
abbrev pub IsBefore : ℕ → Sought → Type 0
IsBefore k (At i) = i < k
IsBefore k (Before i) = i < k
IsBefore k Nowhere = ⊤

-- ---- of a past

-- whether a word stands at each of its moments
abbrev pub stands_at_moment : Start → List PastDeed → List ℕ → ℕ → Bool
stands_at_moment start deeds word k = stands word (moment start deeds k)

-- so it is in each past that the store keeps in a part
abbrev pub IsSoughtOf : {D : Type 0} → Ghosts D → ℕ → List ℕ → Sought → StoreView D → Type 0
IsSoughtOf d k word sought store = (past : PastOf d store) → LiesInPart d past.keeps
    → IsSoughtBy (stands_at_moment past.start past.deeds word) k sought

-- it stands at its moment k
abbrev pub IsStandingAt : {D : Type 0} → Ghosts D → ℕ → List ℕ → StoreView D → Type 0
IsStandingAt d k word store = (past : PastOf d store) → LiesInPart d past.keeps
    → stands_at_moment past.start past.deeds word k ≡ true
