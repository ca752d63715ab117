-- A post to a store where a checkpoint is due: one of an older version, or with a full journal.
use Rattle.std.specs.Prelude.{◌≡◌, ⊤, Result, Err, OnOk, IfErr}
use Rattle.sector_disk.specs.declared.disk.Disk.{Ghosts}
use Rattle.event_bytes.specs.declared.event.Event.{Event}
use Rattle.desktop_definitions.specs.declared.reply.Reply.{Reply}
use Rattle.store_slots.specs.declared.error.Error.{Error}
use Rattle.desk_journal.specs.Checkpointing.{IsCheckpointed}
use Rattle.desk_journal.specs.Posting.{HasJournalRoom, IsPosted}
use Rattle.desk_journal.specs.View.{StoreView}

-- The call is a checkpoint up to a store between, and from there, if that is done, a post to a store of the newest
-- version with room in its journal. So until the checkpoint's last sync every image means the desktop before, and no
-- record of the event is written before that.
pub record ChecksFirst {D : Type 0} (d : Ghosts D) (event : Event) (answer : Result Reply Error)
    (old new : StoreView D)
    : Type 0 where
  pub between : StoreView D
  pub outcome : Result ⊤ Error
  pub before : IsCheckpointed d outcome old between
  pub room : OnOk outcome (HasJournalRoom between)
  pub behind : OnOk outcome (IsPosted d event answer between new)
  pub refused : IfErr outcome (λ e. (answer ≡ Err e) × (new ≡ between))
