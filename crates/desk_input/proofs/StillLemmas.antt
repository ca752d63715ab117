-- What a call owes that leaves the source as it was: what it answers is answered over any list of characters.
use Rattle.std.specs.Prelude.{ℕ, List, ⊤, Result, Ok}
use Rattle.std.proofs.Common.{rules}
use Rattle.char_file.specs.declared.source.CharSource.{Ghosts}
use Rattle.desktop_definitions.specs.declared.reply.Reply.{Reply}
use Rattle.desktop_definitions.specs.Desktop.{Desktop, KeptDesktop}
use Rattle.desktop_definitions.specs.Seen.{seen}
use Rattle.desktop_definitions.specs.Step.{outcome_after}
use Rattle.desktop_definitions.specs.Sound.{IsOver}
use Rattle.desktop_definitions.specs.Outcome.{IsAnswered}
use Rattle.desk_core.specs.declared.stop.Stop.{Stop}
use Rattle.desk_core.specs.Doing.{Uses, Does, DoesUnread}
use Rattle.desk_core.proofs.UnreadLemmas.{over_all}

-- that it answers so of this desktop over any list of characters
abbrev pub Answers : (Desktop → Result Desktop ℕ) → KeptDesktop → KeptDesktop → Reply → Type 1
Answers effect before after reply =
    (H : Type 0) (all : List ℕ) → IsOver all before
    → IsAnswered H all all before after (outcome_after (seen all before) (effect (seen all before))) reply

module _ {S : Type 0} (s : Ghosts S) (ground_self : (a : S) → s.same_ground a a) (source : S) where
  uses_none : (reply : Reply) → Uses s {T = Reply} (Ok reply) source source
  uses_none reply = search (rules, ground_self)

  pub does_still : (effect : Desktop → Result Desktop ℕ) (before after : KeptDesktop) (reply : Reply)
      → IsOver (s.characters source) before → Answers effect before after reply
      → Does s effect (Ok reply) source source before after
  does_still effect before after reply over answers = record {
    answered = answers (s.honest source) (s.characters source) over;
    uses = uses_none reply;
  }

  pub does_unread : {calm : Type 0} (effect : Desktop → Result Desktop ℕ) (before after : KeptDesktop) (reply : Reply)
      → IsOver (s.characters source) before → Answers effect before after reply
      → DoesUnread s calm effect (Ok reply) source source before after
  does_unread effect before after reply over answers = record {
    answered = answers (s.honest source) (s.characters source) over;
    unread = λ calm all long. (answers ⊤ all (over_all over all long)).exact tt;
    uses = uses_none reply;
  }

-- what holds where no character is read holds under a premise that says so
pub unread_where : {S : Type 0} (s : Ghosts S) {calm known : Type 0} {effect : Desktop → Result Desktop ℕ} {old new : S}
    {before after : KeptDesktop} {result : Result Reply Stop} → (known → calm)
    → DoesUnread s calm effect result old new before after → DoesUnread s known effect result old new before after
unread_where s why does = record { answered = does.answered; unread = λ k. does.unread (why k); uses = does.uses }
