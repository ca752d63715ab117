-- What a call that does an event promises: of its reply, of the desktop after it, and of the source of characters.
use Rattle.std.specs.Prelude.{◌≡◌, ◌↔◌, ◌≤◌, ⊤, ℕ, List, [], ◌∷◌, length}
use Rattle.sector_disk.specs.Faults.{OneOf}
use Rattle.desktop_definitions.specs.declared.reply.Reply.{Reply}
use Rattle.desktop_definitions.specs.declared.reply.Reply.TheVariants.{Done, No}
use Rattle.desktop_definitions.specs.Limits.{no_caret, no_selection, no_command, no_file, full, too_many_files}
use Rattle.desktop_definitions.specs.Limits.{outside, wrong_symbol, no_viewer, not_found, bad_value, too_deep, too_low}
use Rattle.desktop_definitions.specs.Desktop.{KeptDesktop}
use Rattle.desktop_definitions.specs.Seen.{seen}
use Rattle.desktop_definitions.specs.Sound.{IsOver}
use Rattle.desktop_definitions.specs.Step.{Outcome, outcome_of}

-- the codes that there are
abbrev pub reply_codes : List ℕ
reply_codes =
    no_caret ∷ no_selection ∷ no_command ∷ no_file ∷ full ∷ too_many_files ∷ outside ∷
    wrong_symbol ∷ no_viewer ∷ not_found ∷ bad_value ∷ too_deep ∷ too_low ∷ []

-- Done, or a refusal with one of the codes
abbrev pub IsReply : Reply → Type 0
IsReply Done = ⊤
IsReply (No code) = OneOf reply_codes code

-- What a refusal leaves: the desktop as it was, over as many characters.
pub record IsUnchanged (old new : List ℕ) (before after : KeptDesktop) : Type 0 where
  pub desktop : after ≡ before
  pub as_long : length new ≡ length old

-- What a call leaves of a source of characters, whatever it returns.
pub record IsSameSource {S : Type 0} (failures : S → ℕ) (honest : S → Type 0)
    (same_ground : S → S → Type 0)
    (old new : S) : Type 0 where
  -- it is honest exactly if it was
  pub premise : honest new ↔ honest old
  -- it stands on what it stood on
  pub stands : same_ground old new
  pub no_fewer : failures old ≤ failures new

-- A reply, with the desktop and the characters after it, where the definitions say that they are to be this outcome.
pub record IsAnswered (honest : Type 0) (old new : List ℕ) (before after : KeptDesktop)
    (outcome : Outcome)
    (reply : Reply) : Type 0 where
  -- what was read stood there, so desktop and reply are just this outcome
  pub exact : honest → outcome_of (seen new after) reply ≡ outcome
  -- whatever was read:
  pub over : IsOver new after
  pub known : IsReply reply
  pub refusal : (code : ℕ) → reply ≡ No code → IsUnchanged old new before after
