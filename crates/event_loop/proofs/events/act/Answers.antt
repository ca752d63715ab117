use Rattle.std.proofs.Common.{refl}
use Rattle.event_bytes.specs.declared.event.Event.TheVariants.{Typed, Key, Mark}
use Rattle.desktop_definitions.specs.Step.{raw}
use Rattle.desktop_definitions.specs.Unread.{needs_no_byte, characters_brought}
use Rattle.event_loop.proofs.UnreadEvents.{does_event, does_file}
use Rattle.event_loop.proofs.events.act.Goals as goal

pub returns-in-Typed : goal.returns-in-Typed
unfolding raw needs_no_byte characters_brought
returns-in-Typed g c = rw c.in-Typed.is (does_event g.S.CharSource _ (Typed _) (λ h. h) refl c.type_bytes.ensures)

pub returns-in-Key : goal.returns-in-Key
unfolding raw needs_no_byte characters_brought
returns-in-Key g c = rw c.in-Key.is (does_event g.S.CharSource _ (Key _) (λ h. h) refl c.press.ensures)

pub returns-in-Mark : goal.returns-in-Mark
unfolding raw needs_no_byte characters_brought
returns-in-Mark g c = rw c.in-Mark.is (does_event g.S.CharSource _ (Mark _ _) (λ h. tt) refl c.mark.ensures)

pub point-requires-clause-region : goal.point-requires-clause-region
point-requires-clause-region g c = rw c.in-Point.is at c.requires.region

pub returns-in-Point : goal.returns-in-Point
returns-in-Point g c = rw c.in-Point.is c.point.ensures

pub returns-in-File : goal.returns-in-File
returns-in-File g c = rw c.in-File.is (does_file g.S.CharSource _ _ _ c.do_file.ensures)
