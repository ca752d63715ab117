-- What a call promises that does an event.
use Rattle.std.specs.Prelude.{ℕ, Result, IfOk}
use Rattle.char_file.specs.declared.source.CharSource.{Ghosts}
use Rattle.event_bytes.specs.declared.event.Event.{Event}
use Rattle.desktop_definitions.specs.declared.reply.Reply.{Reply}
use Rattle.desktop_definitions.specs.Desktop.{KeptDesktop}
use Rattle.desktop_definitions.specs.Step.{raw}
use Rattle.desktop_definitions.specs.Unread.{StepsUnread}
use Rattle.desk_core.specs.declared.stop.Stop.{Stop}
use Rattle.desk_core.specs.Doing.{Settles, Uses}

module _ {S : Type 0} (s : Ghosts S) where
  -- Reply and desktop are those of the event in a version of the table of commands, also over a source that isn't
  -- honest where the event reads no character.
  pub record DoesEvent (version : ℕ) (event : Event) (result : Result Reply Stop) (old new : S)
      (before after : KeptDesktop) : Type 0 where
    pub answered : IfOk result (Settles s (λ d. raw version d event) old new before after)
    pub unread : IfOk result (StepsUnread version before after event)
    pub uses : Uses s result old new
