-- Which texts an event may change, by the desktop before it. Nothing of a text is read for it.
use Rattle.std.specs.Prelude.{ℕ, ◌==◌, ◌&&◌, Bool, true, false, if◌then◌else◌, List, Option, Some, None}
use Rattle.event_bytes.specs.declared.event.Event.{Event}
use Rattle.event_bytes.specs.declared.event.Event.TheVariants.{Typed, Key as Pressed, Mark, Point, File}
use Rattle.event_bytes.specs.declared.keys.Key.{Key}
use Rattle.event_bytes.specs.declared.keys.Key.TheVariants.{Back, Copy, Paste, Cut, Escape}
use Rattle.event_bytes.specs.declared.keys.Keys.{Keys}
use Rattle.event_bytes.specs.declared.keys.Keys.TheVariants.{LeftMiddle, LeftRight, Middle}
use Rattle.event_bytes.specs.declared.keys.Keys.TheVariants.{RightLeft, RightMiddle}
use Rattle.desktop_definitions.specs.declared.viewer.Caret.{Caret}
use Rattle.desktop_definitions.specs.declared.viewer.Selection.{Selection}
use Rattle.desktop_definitions.specs.declared.region.Region.{Region}
use Rattle.desktop_definitions.specs.declared.region.Region.TheVariants.{Filler, Menu, Body}
use Rattle.desktop_definitions.specs.Desktop.{DesktopOf}
use Rattle.desktop_definitions.specs.declared.viewer.Viewer.{Viewer}
use Rattle.desktop_definitions.specs.Viewers.{viewer_or_none, newest}
use Rattle.desktop_definitions.specs.Gesture.{is_on_display, region_at}
use Rattle.desk_input.specs.declared.stale.Stale.{Stale}
use Rattle.desk_input.specs.declared.stale.Stale.TheVariants.{Nothing, Text, All}

-- whether the text of that number is among them
abbrev pub is_stale : Stale → ℕ → Bool
is_stale Nothing n = false
is_stale (Text changed) n = changed == n
is_stale All n = true

-- the main text of a viewer
abbrev pub stale_in : List (ℕ × Viewer) → ℕ → Stale
stale_in viewers v = Text (viewer_or_none viewers v).main

-- the text in which the caret stands
abbrev pub stale_at_caret : List (ℕ × Viewer) → Option Caret → Stale
stale_at_caret viewers None = Nothing
stale_at_caret viewers (Some c) = stale_in viewers c.viewer

-- where the caret stands
abbrev pub position_or_zero : Option Caret → ℕ
position_or_zero None = 0
position_or_zero (Some c) = c.position

-- the text of a selection
abbrev pub stale_selected : List (ℕ × Viewer) → Option Selection → Stale
stale_selected viewers None = Nothing
stale_selected viewers (Some s) = stale_in viewers s.viewer

-- what a key of the keyboard changes, with this caret and this newest selection
unfoldable pub stale_by_key : List (ℕ × Viewer) → Option Caret → Option Selection → Key → Stale
stale_by_key viewers caret latest Back = stale_at_caret viewers caret
stale_by_key viewers caret latest Copy = Nothing
stale_by_key viewers caret latest Paste = stale_at_caret viewers caret
stale_by_key viewers caret latest Cut = stale_selected viewers latest
stale_by_key viewers caret latest Escape = Nothing

-- what the keys of the mouse change in a region: a call may change any text, and where a viewer is opened or carried
-- another may be gone; what is put in, taken out or gets a look changes one text; all else changes none
unfoldable pub stale_by_gesture : List (ℕ × Viewer) → Option Caret → Option Selection → Region
    → Keys → Stale
stale_by_gesture viewers caret latest Filler Middle = All
stale_by_gesture viewers caret latest (Menu v) LeftMiddle = All
stale_by_gesture viewers caret latest (Menu v) Middle = All
stale_by_gesture viewers caret latest (Body v) LeftMiddle = stale_in viewers v
stale_by_gesture viewers caret latest (Body v) LeftRight = stale_selected viewers latest
stale_by_gesture viewers caret latest (Body v) Middle = All
stale_by_gesture viewers caret latest (Body v) RightLeft = stale_in viewers v
stale_by_gesture viewers caret latest (Body v) RightMiddle = stale_at_caret viewers caret
stale_by_gesture viewers caret latest region keys = Nothing

unfoldable pub stale_of : {T : Type 0} → DesktopOf T → Event → Stale
stale_of d (Typed bytes) = stale_at_caret d.viewers d.caret
stale_of d (Pressed key) = stale_by_key d.viewers d.caret (newest d) key
stale_of d (Mark x y) = Nothing
stale_of d (Point keys x0 y0 x1 y1) =
    if is_on_display x0 y0 && is_on_display x1 y1
    then stale_by_gesture d.viewers d.caret (newest d) (region_at d x0 y0) keys else Nothing
stale_of d (File name bytes) = Nothing

-- from where on an event changes a text: what is typed comes in at the caret; all else may change it from its beginning
unfoldable pub stale_from : {T : Type 0} → DesktopOf T → Event → ℕ
stale_from d (Typed bytes) = position_or_zero d.caret
stale_from d (Pressed key) = 0
stale_from d (Mark x y) = 0
stale_from d (Point keys x0 y0 x1 y1) = 0
stale_from d (File name bytes) = 0
