-- What a page gives out, and that this leaves it as it is. `d` is what is known of a disk.
use Rattle.std.specs.Prelude.{◌≡◌, List, ℕ, Option, option_map, map}
use Rattle.sector_disk.specs.declared.disk.Disk.{Ghosts}
use Rattle.piece_ring.specs.Text.{Text}
use Rattle.desktop_definitions.specs.Desktop.{Desktop, file_of}
use Rattle.desktop_definitions.specs.Viewers.{newest, selected}
use Rattle.desk_journal.specs.Device.{IsOnlyRead}
use Rattle.desk_journal.specs.Session.{session_of}
use Rattle.store_documents.specs.HostText.{exported}
use Rattle.desk_journal.specs.View.{StoreView}

-- characters as a file of the host's: without their looks, and each CR is LF
abbrev pub given_out : Option (Text ℕ) → Option (List ℕ)
given_out characters = option_map
    (λ those. exported (map (λ character. character.0) those)) characters

-- the text of a document, where there is one
abbrev pub given_text : List ℕ → Desktop → Option (List ℕ)
given_text name desktop = given_out (file_of desktop name)

-- what is selected, where something is: all of it
abbrev pub selected_text : Desktop → Option (List ℕ)
selected_text desktop = given_out (option_map (selected desktop) (newest desktop))

-- Somebody looks at a store: nothing is written, and it is as it was.
pub record LooksAtStore {D : Type 0} (d : Ghosts D) (old new : StoreView D) : Type 0 where
  pub session : d.honest old.disk → session_of new ≡ session_of old
  pub disk : IsOnlyRead d old.disk new.disk
  pub usable : new.must_reopen ≡ old.must_reopen
