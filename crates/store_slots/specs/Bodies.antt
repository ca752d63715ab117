-- The events of a journal as bytes.
use Rattle.std.specs.Prelude.{ℕ, List, [], ◌∷◌, ◌++◌}
use Rattle.event_bytes.specs.declared.event.Event.{Event}
use Rattle.event_bytes.specs.Spelling.{spelling}

-- events as they are spelled, one behind another
abbrev pub spellings : List Event → List ℕ
spellings [] = []
spellings (event ∷ events) = spelling event ++ spellings events
