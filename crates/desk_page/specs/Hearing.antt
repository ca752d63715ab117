-- What a page hears, and what comes of it. `d` is what is known of a disk.
use Rattle.std.specs.Prelude.{◌≡◌, ℕ, List, [], ◌∷◌, Err}
use Rattle.host_files.specs.declared.HostFault.TheVariants.{Refused}
use Rattle.sector_disk.specs.declared.disk.Disk.{Ghosts}
use Rattle.desk_journal.specs.View.{StoreView}
use Rattle.terminal_presses.specs.declared.press.Heard.{Heard}
use Rattle.terminal_presses.specs.declared.press.Heard.TheVariants.{Byte, Quiet}
use Rattle.terminal_presses.specs.declared.press.Press.{Press}
use Rattle.desk_sitting.specs.declared.sitting.Sitting.{Sitting}
use Rattle.desk_sitting.specs.Doing.{DoesPresses}
use Rattle.desk_sitting.specs.Sittings.{after_fetch}
use Rattle.desk_sitting.specs.TheDesk.{the_desk}

-- bytes, and then a quiet while
abbrev pub heard_of : List ℕ → List Heard
heard_of [] = Quiet ∷ []
heard_of (byte ∷ bytes) = Byte byte ∷ heard_of bytes

-- These presses are done, one after another, and then a host file that is asked for is told as unread.
pub record Hears {D : Type 0} (d : Ghosts D) (presses : List Press) (s s' : Sitting)
    (old new : StoreView D)
    : Type 0 where
  pub sitting : Sitting
  pub does : DoesPresses the_desk d presses s sitting old new
  pub unread : s' ≡ after_fetch (Err Refused) sitting
