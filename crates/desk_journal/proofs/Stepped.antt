-- What is acknowledged is the step of the newest version.
use Rattle.std.specs.Prelude.{◌≡◌}
use Rattle.std.proofs.Common.{◌∙◌}
use Rattle.sector_disk.specs.declared.disk.Disk.{Ghosts}
use Rattle.event_bytes.specs.declared.event.Event.{Event}
use Rattle.desktop_definitions.specs.declared.reply.Reply.{Reply}
use Rattle.desktop_definitions.specs.Step.{step, outcome_of}
use Rattle.store_slots.proofs.Recording.{in_newest}
use Rattle.desk_journal.specs.Posting.{IsAcknowledged}
use Rattle.desk_journal.specs.View.{StoreView}

pub stepped_newest : {D : Type 0} (d : Ghosts D) {event : Event} {reply : Reply} {old new : StoreView D}
    → IsAcknowledged d event reply old new → d.honest old.disk
    → outcome_of new.desktop reply ≡ step old.desktop event
stepped_newest d {event = event} {old = old} told honest =
    told.stepped.done honest ∙ in_newest old.desktop event
