-- What an event owes, and one that reads no character.
use Rattle.std.specs.Prelude.{◌≡◌, ℕ, true, List, [], Result, Ok, Err, IfOk}
use Rattle.std.proofs.Common.{sym, ap, ◌∙◌}
use Rattle.char_file.specs.declared.source.CharSource.{Ghosts}
use Rattle.event_bytes.specs.declared.event.Event.{Event}
use Rattle.event_bytes.specs.declared.event.Event.TheVariants.{File}
use Rattle.desktop_definitions.specs.declared.reply.Reply.{Reply}
use Rattle.desktop_definitions.specs.Limits.{newest_version}
use Rattle.desktop_definitions.specs.Desktop.{Desktop, KeptDesktop}
use Rattle.desktop_definitions.specs.Seen.{seen}
use Rattle.desktop_definitions.specs.Step.{raw, step_in, outcome_of}
use Rattle.desktop_definitions.specs.Unread.{needs_no_byte, characters_brought, characters_after, StepsUnread}
use Rattle.desk_core.specs.declared.stop.Stop.{Stop}
use Rattle.desk_core.specs.Doing.{SettlesUnread, SettlesBringing, DoesUnread}
use Rattle.desk_core.proofs.UnreadLemmas.{brings_none}
use Rattle.event_loop.specs.Doing.{DoesEvent}

-- one whose effect brings these characters
pub bringing_event : (version : ℕ) (d after : KeptDesktop) (event : Event) (bytes : List ℕ) (result : Result Reply Stop)
    → bytes ≡ characters_brought d event
    → (needs_no_byte d event ≡ true
    → IfOk result (SettlesBringing bytes (λ all. raw version (seen all d) event) d after))
    → IfOk result (StepsUnread version d after event)
unfolding step_in StepsUnread
bringing_event version d after event bytes (Ok reply) is settles = λ h all long.
    ap (λ (l : List ℕ). outcome_of (seen (characters_after all l reply) after) reply) (sym is) ∙ settles h all long
bringing_event version d after event bytes (Err stop) is settles = tt

-- one whose effect brings none
pub unread_event : (version : ℕ) (d after : KeptDesktop) (event : Event) (result : Result Reply Stop)
    → [] ≡ characters_brought d event
    → (needs_no_byte d event ≡ true → IfOk result (SettlesUnread (λ x. raw version x event) d after))
    → IfOk result (StepsUnread version d after event)
unread_event version d after event result is settles =
    bringing_event version d after event [] result is
    (λ h. brings_none (λ (x : Desktop). raw version x event) d after result (settles h))

module _ {S : Type 0} (s : Ghosts S) {old new : S} {d after : KeptDesktop} {result : Result Reply Stop} where
  -- an event is done by a call that does what is said of it, where it brings no characters
  pub does_event : {calm : Type 0} (version : ℕ) (event : Event) → (needs_no_byte d event ≡ true → calm)
      → [] ≡ characters_brought d event → DoesUnread s calm (λ x. raw version x event) result old new d after
      → DoesEvent s version event result old new d after
  does_event version event where_calm is does = record {
    answered = does.answered;
    unread = unread_event version d after event result is (λ h. does.unread (where_calm h));
    uses = does.uses;
  }

  -- a file is put in every version alike
  pub does_file : (version : ℕ) (name bytes : List ℕ) → DoesEvent s newest_version (File name bytes) result old new d after
      → DoesEvent s version (File name bytes) result old new d after
  unfolding StepsUnread step_in raw
  does_file version name bytes does = record { answered = does.answered; unread = does.unread; uses = does.uses }
