-- What a call of the desktop says of an event, and of documents, from what the calls below it settle.
use Rattle.std.specs.Prelude.{◌≡◌, ℕ, Result, Ok, Err, IfOk}
use Rattle.std.proofs.Common.{subst}
use Rattle.char_file.specs.declared.source.CharSource.{Ghosts}
use Rattle.event_bytes.specs.declared.event.Event.{Event}
use Rattle.desktop_definitions.specs.declared.reply.Reply.{Reply}
use Rattle.desktop_definitions.specs.Desktop.{KeptDesktop}
use Rattle.desktop_definitions.specs.Seen.{seen}
use Rattle.desktop_definitions.specs.Step.{raw, step_in}
use Rattle.desktop_definitions.specs.Unread.{StepsUnread}
use Rattle.document_filing.specs.Bringing.{Documents, all_brought, all_bytes, brought_in}
use Rattle.desk_core.specs.declared.stop.Stop.{Stop}
use Rattle.desk_core.specs.Doing.{Settles, SettlesBringing}
use Rattle.desktop_definitions.specs.Stepped.{IsStep}
use Rattle.document_filing.specs.Bringing.{IsBringing}

module _ {S : Type 0} (s : Ghosts S) where
  pub event_stepped : (version : ℕ) (event : Event) (result : Result Reply Stop) (d before after : KeptDesktop)
      (old new : S) → d ≡ before → IfOk result (Settles s (λ x. raw version x event) old new d after)
      → IfOk result (StepsUnread version d after event)
      → IfOk result (IsStep (s.honest old) version event before after (seen (s.characters old) before)
      (seen (s.characters new) after))
  unfolding step_in
  event_stepped version event (Ok reply) d before after old new is settled unread =
      subst (λ (x : KeptDesktop). IsStep (s.honest old) version event x after (seen (s.characters old) x)
      (seen (s.characters new) after) reply) is (record {
        done = settled.exact;
        unread = unread;
        known = settled.known;
        refusal = λ code refused. (settled.refusal code refused).desktop;
      })
  event_stepped version event (Err stop) d before after old new is settled unread = tt

  pub documents_brought : (documents : Documents) (result : Result Reply Stop) (d before after : KeptDesktop)
      (old new : S) → d ≡ before → IfOk result (Settles s (λ x. all_brought x documents) old new d after)
      → IfOk result (SettlesBringing (all_bytes documents) (λ all. all_brought (seen all d) documents) d after)
      → IfOk result (IsBringing (s.honest old) documents before after (seen (s.characters old) before)
      (seen (s.characters new) after))
  unfolding brought_in
  documents_brought documents (Ok reply) d before after old new is settled unread =
      subst (λ (x : KeptDesktop). IsBringing (s.honest old) documents x after (seen (s.characters old) x)
      (seen (s.characters new) after) reply) is (record {
        done = settled.exact;
        unread = unread;
        known = settled.known;
        refusal = λ code refused. (settled.refusal code refused).desktop;
      })
  documents_brought documents (Err stop) d before after old new is settled unread = tt
