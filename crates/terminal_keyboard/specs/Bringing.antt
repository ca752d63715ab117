-- A host file on its way in: whether it is, what is told of it next, and how it begins and ends.
use Rattle.std.specs.Prelude.{◌≡◌, ◌<◌, ◌⊎◌, ℕ, Bool, true, false, List, Option, Some, None, Result, Ok, Err, ⊤}
use Rattle.host_files.specs.declared.HostFault.{HostFault}
use Rattle.std.specs.Io.KnownBytes.{IsAtEnd}
use Rattle.terminal_presses.specs.declared.press.Heard.{Heard}
use Rattle.terminal_keyboard.specs.declared.paste.HostPaste.{HostPaste}
use Rattle.terminal_keyboard.specs.declared.paste.Stage.{Stage}
use Rattle.terminal_keyboard.specs.declared.paste.Stage.TheVariants.{Begins, GoesOn, Ended, Broken}
use Rattle.terminal_keyboard.specs.HostPastes.{TakesText}

-- whether something of it is still to be told
abbrev pub goes_on : Stage → Bool
goes_on Begins = true
goes_on GoesOn = true
goes_on Ended = false
goes_on Broken = false

abbrev pub is_coming : {R : Type 0} → Option (HostPaste R) → Bool
is_coming None = false
is_coming (Some paste) = goes_on paste.stage

-- The host was asked for it by this name, nothing of it is told, and so many bytes of it may be read.
abbrev pub IsUntold : {R : Type 0} → ℕ → List ℕ → Option (HostPaste R) → Type 0
IsUntold most name None = ⊥
IsUntold most name (Some paste) =
    (paste.name.items ≡ name) × (paste.stage ≡ Begins) × (paste.left ≡ most)

-- what is answered where this is the text of a file, or why there is none
abbrev pub answer_of : {R : Type 0} → Result (HostPaste R) HostFault → Result ⊤ HostFault
answer_of (Ok paste) = Ok tt
answer_of (Err why) = Err why

module _ {R : Type 0} (remaining : R → Option (List ℕ)) where
  -- What is told next of a text, and the bytes that are read for it. The text ends where no more may be read or the
  -- reader is at its end, and it breaks off only where a read has failed.
  pub record TellsNext (old new : HostPaste R) (told : List Heard) : Type 0 where
    pub takes : TakesText old.stage new.stage old.left new.left (remaining old.reader)
        (remaining new.reader) told
    pub ended : new.stage ≡ Ended → (old.left ≡ 0) ⊎ IsAtEnd (remaining new.reader)
    pub broken : new.stage ≡ Broken → old.failed < new.failed

  -- the same of the file that is on its way in
  abbrev pub TellsFile : Option (HostPaste R) → Option (HostPaste R) → List Heard → Type 0
  TellsFile (Some old) (Some new) told = TellsNext old new told
  TellsFile (Some old) None told = ⊥
  TellsFile None new told = ⊥
