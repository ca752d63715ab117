-- Which events read no character: all that they ask is told by what is kept beside the characters.
use Rattle.std.specs.Prelude.{ℕ, Bool, true, false, not, ◌&&◌, ◌||◌, is_none, List, [], ◌++◌, ◌≡◌, length, map, codes}
use Rattle.event_bytes.specs.declared.event.Event.{Event}
use Rattle.event_bytes.specs.declared.event.Event.TheVariants.{Typed, Key as Pressed, Mark, Point, File}
use Rattle.event_bytes.specs.declared.keys.Key.{Key}
use Rattle.event_bytes.specs.declared.keys.Key.TheVariants.{Back, Copy, Paste, Cut, Escape}
use Rattle.event_bytes.specs.declared.keys.Keys.{Keys}
use Rattle.event_bytes.specs.declared.keys.Keys.TheVariants.{Left, LeftMiddle, LeftRight, Middle}
use Rattle.event_bytes.specs.declared.keys.Keys.TheVariants.{Right, RightLeft, RightMiddle}
use Rattle.desktop_definitions.specs.declared.region.Region.{Region}
use Rattle.desktop_definitions.specs.declared.region.Region.TheVariants.{Filler, Menu, Bar, Body}
use Rattle.desktop_definitions.specs.declared.entry.Entry.{Entry}
use Rattle.desktop_definitions.specs.declared.entry.Entry.TheVariants.{Viewer, File as FileEntry, Over, Written}
use Rattle.desktop_definitions.specs.declared.reply.Reply.{Reply}
use Rattle.desktop_definitions.specs.declared.reply.Reply.TheVariants.{Done, No}
use Rattle.desktop_definitions.specs.Desktop.{DesktopOf, KeptDesktop}
use Rattle.desktop_definitions.specs.Viewers.{newest}
use Rattle.desktop_definitions.specs.Opening.{menu_line}
use Rattle.desktop_definitions.specs.Gesture.{is_on_display, region_at}
use Rattle.desktop_definitions.specs.Seen.{seen}
use Rattle.desktop_definitions.specs.Listing.{entries_of}
use Rattle.desktop_definitions.specs.Step.{step_in, outcome_of}

-- ---- events

module _ {T : Type 0} where
  -- what the keys of the mouse do in a region: the tool text opens, viewers move and change their height, a text is
  -- shown from its beginning, what takes the newest selection is refused without one, and what isn't in the table does
  -- nothing; a word that is called is read, and so is the place of a cell in a text
  unfoldable pub gesture_needs_no_byte : DesktopOf T → Region → Keys → Bool
  gesture_needs_no_byte d (Menu v) Middle = false
  gesture_needs_no_byte d (Bar v) Left = false
  gesture_needs_no_byte d (Bar v) Middle = false
  gesture_needs_no_byte d (Body v) Left = false
  gesture_needs_no_byte d (Body v) LeftMiddle = is_none (newest d)
  gesture_needs_no_byte d (Body v) LeftRight = is_none (newest d)
  gesture_needs_no_byte d (Body v) Middle = false
  gesture_needs_no_byte d (Body v) Right = false
  gesture_needs_no_byte d (Body v) RightLeft = false
  gesture_needs_no_byte d (Body v) RightMiddle = false
  gesture_needs_no_byte d region keys = true

  -- a key: one that needs the caret, and one that needs a selection, is refused without
  unfoldable pub key_needs_no_byte : DesktopOf T → Key → Bool
  key_needs_no_byte d Back = is_none d.caret
  key_needs_no_byte d Copy = true
  key_needs_no_byte d Paste = is_none d.caret
  key_needs_no_byte d Cut = is_none (newest d)
  key_needs_no_byte d Escape = true

  unfoldable pub needs_no_byte : DesktopOf T → Event → Bool
  needs_no_byte d (Typed bytes) = is_none d.caret
  needs_no_byte d (Pressed key) = key_needs_no_byte d key
  needs_no_byte d (Mark x y) = true
  needs_no_byte d (Point keys x0 y0 x1 y1) =
      not (is_on_display x0 y0 && is_on_display x1 y1)
      || gesture_needs_no_byte d (region_at d x0 y0) keys
  needs_no_byte d (File name bytes) = true

-- the characters that a gesture adds that reads none: the menu of the tool text
unfoldable pub gesture_brings : Region → Keys → List ℕ
gesture_brings Filler Middle = menu_line (codes "System.Tool")
gesture_brings region keys = []

-- the characters that such an event adds
unfoldable pub characters_brought : {T : Type 0} → DesktopOf T → Event → List ℕ
characters_brought d (Point keys x0 y0 x1 y1) = gesture_brings (region_at d x0 y0) keys
characters_brought d (File name bytes) = bytes
characters_brought d event = []

-- the characters after a reply: these are added where the event is done
abbrev pub characters_after : List ℕ → List ℕ → Reply → List ℕ
characters_after all bytes Done = all ++ bytes
characters_after all bytes (No code) = all

-- Where no character is read, reply and desktop are those of the step in a version of the table of commands, over every
-- list of as many characters, whatever the source tells.
unfoldable pub StepsUnread : ℕ → KeptDesktop → KeptDesktop → Event → Reply → Type 0
StepsUnread version before after event reply =
    needs_no_byte before event ≡ true → (all : List ℕ) → length all ≡ before.written
    → outcome_of (seen (characters_after all (characters_brought before event) reply) after) reply
    ≡ step_in version (seen all before) event

-- ---- the list

-- an entry without the name of a viewer, which is all that a list reads
abbrev pub without_name : Entry → Entry
without_name (Viewer x bottom top name size) = Viewer x bottom top [] size
without_name (FileEntry name size) = FileEntry name size
without_name (Over x depth) = Over x depth
without_name (Written n) = Written n

-- But for the names of viewers these are the entries over every list of as many characters as were written.
unfoldable pub ListsUnread : KeptDesktop → List Entry → Type 0
ListsUnread d entries =
    (all : List ℕ) → length all ≡ d.written → map without_name entries
    ≡ map without_name (entries_of (seen all d))
