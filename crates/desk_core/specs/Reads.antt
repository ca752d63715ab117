-- What a call promises that reads a desktop, over the source of its characters.
use Rattle.std.specs.Prelude.{◌≡◌, Result, IfOk}
use Rattle.sector_disk.specs.Trail.{CountsFault}
use Rattle.char_file.specs.Source.{OnlyReads}
use Rattle.char_file.specs.declared.source.CharSource.{Ghosts}
use Rattle.desktop_definitions.specs.Desktop.{Desktop, KeptDesktop}
use Rattle.desktop_definitions.specs.Seen.{seen}

module _ {S : Type 0} (s : Ghosts S) where
  -- What is told means what is said of the desktop as it is seen among the characters of an honest source.
  pub record TellsAs {A T E : Type 0} (meaning : A → T) (result : Result A E) (said : Desktop → T)
      (old new : S)
      (d : KeptDesktop) : Type 0 where
    pub exact : IfOk result (λ told. s.honest old → meaning told ≡ said (seen (s.characters old) d))
    -- the source is only read
    pub reads : OnlyReads s.characters s.failures s.honest s.same_ground old new
    -- and failed exactly where the call did
    pub cause : CountsFault result (s.failures old) (s.failures new)

  -- What is told is what is said.
  abbrev pub TellsValue : {T E : Type 0} → Result T E → (Desktop → T) → S → S → KeptDesktop → Type 0
  TellsValue result said old new d = TellsAs (λ told. told) result said old new d
