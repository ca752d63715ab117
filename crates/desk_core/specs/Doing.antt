-- What a method promises that does an event, or the rest of one.
use Rattle.std.specs.Prelude.{◌≡◌, ℕ, List, length, Result, IfOk}
use Rattle.sector_disk.specs.Faults.{FailsAs}
use Rattle.char_file.specs.declared.source.CharSource.{Ghosts}
use Rattle.desktop_definitions.specs.declared.reply.Reply.{Reply}
use Rattle.desktop_definitions.specs.Desktop.{Desktop, KeptDesktop}
use Rattle.desktop_definitions.specs.Seen.{seen}
use Rattle.desktop_definitions.specs.Step.{outcome_after, outcome_of}
use Rattle.desktop_definitions.specs.Unread.{characters_after}
use Rattle.desktop_definitions.specs.Outcome.{IsAnswered, IsSameSource}
use Rattle.desk_core.specs.declared.stop.Stop.{Stop}
use Rattle.desk_core.specs.declared.stop.Stop.TheVariants.{Fault}
use Rattle.desk_core.specs.Stops.{IsStop}

-- Of an effect that reads no character: reply and desktop are what is settled of it over every list of as many
-- characters, whatever the source tells.
abbrev pub SettlesUnread : (Desktop → Result Desktop ℕ) → KeptDesktop → KeptDesktop → Reply → Type 0
SettlesUnread effect before after reply =
    (all : List ℕ) → length all ≡ before.written
    → outcome_of (seen all after) reply ≡ outcome_after (seen all before) (effect (seen all before))

-- Of an effect that reads none and adds these: the same, with what comes of it over each such list.
abbrev pub SettlesBringing : List ℕ → (List ℕ → Result Desktop ℕ) → KeptDesktop → KeptDesktop
    → Reply → Type 0
SettlesBringing bytes outcome before after reply =
    (all : List ℕ) → length all ≡ before.written
    → outcome_of (seen (characters_after all bytes reply) after) reply
    ≡ outcome_after (seen all before) (outcome all)

module _ {S : Type 0} (s : Ghosts S) where
  -- The reply, and the desktop that is kept after it, are what is settled of the effect, which says what becomes of a
  -- desktop as it is seen.
  abbrev pub Settles : (Desktop → Result Desktop ℕ) → S → S → KeptDesktop → KeptDesktop → Reply
      → Type 0
  Settles effect old new before after reply =
      IsAnswered (s.honest old) (s.characters old) (s.characters new) before after
      (outcome_after (seen (s.characters old) before) (effect (seen (s.characters old) before)))
      reply

  -- Of the source of characters, whatever is returned.
  pub record Uses {T : Type 0} (result : Result T Stop) (old new : S) : Type 0 where
    pub source : IsSameSource s.failures s.honest s.same_ground old new
    -- which errors there are, and that it failed exactly where the call says so
    pub faults : FailsAs Fault IsStop result (s.failures old) (s.failures new)

  -- What a call promises that does an event, or the rest of one, which is this effect.
  pub record Does (effect : Desktop → Result Desktop ℕ) (result : Result Reply Stop) (old new : S)
      (before after : KeptDesktop) : Type 0 where
    pub answered : IfOk result (Settles effect old new before after)
    pub uses : Uses result old new

  -- The same of an effect that reads no character where this holds.
  pub record DoesUnread (calm : Type 0) (effect : Desktop → Result Desktop ℕ)
      (result : Result Reply Stop) (old new : S)
      (before after : KeptDesktop) : Type 0 where
    pub answered : IfOk result (Settles effect old new before after)
    pub unread : calm → IfOk result (SettlesUnread effect before after)
    pub uses : Uses result old new

  -- The same of an effect over these characters that reads none and adds these bytes.
  pub record DoesBringing (bytes : List ℕ) (effect : List ℕ → Desktop → Result Desktop ℕ)
      (result : Result Reply Stop)
      (old new : S) (before after : KeptDesktop) : Type 0 where
    pub answered : IfOk result (Settles (effect (s.characters old)) old new before after)
    pub unread : IfOk result
        (SettlesBringing bytes (λ all. effect all (seen all before)) before after)
    pub uses : Uses result old new
