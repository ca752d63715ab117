-- What is done to a desktop: events that are posted, documents that come by an import, and turns back to what it was.
use Rattle.std.specs.Prelude.{List, [], ◌∷◌, fold}
use Rattle.event_bytes.specs.declared.event.Event.{Event}
use Rattle.desktop_definitions.specs.Desktop.{Desktop}
use Rattle.desktop_definitions.specs.Step.{step}
use Rattle.document_filing.specs.Bringing.{Documents, brought_in}

-- An event, all documents of one import, or a turn to a desktop of an earlier moment.
pub data PastDeed : Type 0 where
  posted : Event → PastDeed
  brought : Documents → PastDeed
  turned : Desktop → PastDeed

-- the desktop after it
abbrev pub after_deed : Desktop → PastDeed → Desktop
after_deed d (posted event) = (step d event).desktop
after_deed d (brought documents) = (brought_in d documents).desktop
after_deed d (turned to) = to

-- the desktop after deeds, one after another
abbrev pub after_deeds : Desktop → List PastDeed → Desktop
after_deeds d deeds = fold after_deed d deeds

-- these events, posted one after another
abbrev pub all_posted : List Event → List PastDeed
all_posted [] = []
all_posted (event ∷ events) = posted event ∷ all_posted events
