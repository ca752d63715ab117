-- The region that an event of the mouse means.
use Rattle.std.specs.Prelude.{ℕ, Option, Some, None, ◌≡◌, ◌&&◌, if◌then◌else◌, IfSome}
use Rattle.event_bytes.specs.declared.event.Event.{Event}
use Rattle.event_bytes.specs.declared.event.Event.TheVariants.{Typed, Key, Mark, Point, File}
use Rattle.desktop_definitions.specs.declared.region.Region.{Region}
use Rattle.desktop_definitions.specs.Desktop.{KeptDesktop}
use Rattle.desktop_definitions.specs.Gesture.{is_on_display, region_at, IsRegionOf}

-- The region of the cell where the keys of the mouse go down; none where one of both cells is outside the display.
pub record IsRegionBetween (d : KeptDesktop) (from to : ℕ × ℕ) (region : Option Region)
    : Type 0 where
  pub found : region ≡ (if is_on_display from.0 from.1 && is_on_display to.0 to.1
      then Some (region_at d from.0 from.1) else None)
  pub stands : IfSome region (IsRegionOf d from.1)

-- an event of another kind means none
abbrev pub IsRegionOfEvent : KeptDesktop → Event → Option Region → Type 0
IsRegionOfEvent d (Typed bytes) region = region ≡ None
IsRegionOfEvent d (Key key) region = region ≡ None
IsRegionOfEvent d (Mark x y) region = region ≡ None
IsRegionOfEvent d (Point keys x0 y0 x1 y1) region = IsRegionBetween d (x0, y0) (x1, y1) region
IsRegionOfEvent d (File name bytes) region = region ≡ None
