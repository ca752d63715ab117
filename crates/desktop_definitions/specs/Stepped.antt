-- That an event was stepped: what every call says that does one, from the desktop in memory up to the store.
use Rattle.std.specs.Prelude.{◌≡◌, ℕ}
use Rattle.event_bytes.specs.declared.event.Event.{Event}
use Rattle.desktop_definitions.specs.declared.reply.Reply.{Reply}
use Rattle.desktop_definitions.specs.declared.reply.Reply.TheVariants.{No}
use Rattle.desktop_definitions.specs.Desktop.{Desktop, KeptDesktop}
use Rattle.desktop_definitions.specs.Outcome.{IsReply}
use Rattle.desktop_definitions.specs.Step.{step_in, outcome_of}
use Rattle.desktop_definitions.specs.Unread.{StepsUnread}

-- The event was stepped with this reply, by the commands of this version: from one desktop to another, each as it is
-- kept and as it is seen. `honest`: what was read of the characters is what stands there.
pub record IsStep (honest : Type 0) (version : ℕ) (event : Event) (before after : KeptDesktop)
    (old new : Desktop) (reply : Reply) : Type 0 where
  -- desktop and reply are those of the step
  pub done : honest → outcome_of new reply ≡ step_in version old event
  -- where the event reads no character, they are so whatever was read
  pub unread : StepsUnread version before after event reply
  -- the reply is one that there is
  pub known : IsReply reply
  -- and a refusal leaves the desktop as it is kept
  pub refusal : (code : ℕ) → reply ≡ No code → after ≡ before
