-- What makes the desktop of a new store of the empty one.
use Rattle.std.specs.Prelude.{List, [], ◌∷◌}
use Rattle.event_bytes.specs.declared.event.Event.{Event}
use Rattle.event_bytes.specs.declared.event.Event.TheVariants.{File, Point}
use Rattle.event_bytes.specs.declared.keys.Keys.TheVariants.{Middle}
use Rattle.starter_desktop.specs.declared.TheConstants.{HELP_NAME, HELP_TEXT, TOOL_NAME, TOOL_TEXT}

-- the document of all commands is made
abbrev pub tool_event : Event
tool_event = File TOOL_NAME.now TOOL_TEXT.now

-- the document that says how the desktop is used is made
abbrev pub help_event : Event
help_event = File HELP_NAME.now HELP_TEXT.now

-- a click of the middle key on the empty display opens the first
abbrev pub opening_click : Event
opening_click = Point Middle 60 31 60 31

abbrev pub furnishing : List Event
furnishing = tool_event ∷ help_event ∷ opening_click ∷ []
