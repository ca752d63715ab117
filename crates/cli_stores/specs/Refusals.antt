-- What each call that opens or makes a store is refused for.
use Rattle.std.specs.Prelude.{⊤}
use Rattle.sector_disk.specs.declared.host_file.HostFile.{Ghosts}
use Rattle.desk_journal.specs.Errors.{OfOpen}
use Rattle.host_stores.specs.Found.{IsNoneIn}
use Rattle.cli_stores.specs.declared.trouble.Trouble.{Trouble}
use Rattle.cli_stores.specs.declared.trouble.Trouble.TheVariants.{Memory, Making, JustMade, Unsynced, Store}

-- the store in a file isn't opened: for an error of an opening, which says truly what stands there
abbrev pub IsNotOpened : {F : Type 0} → Ghosts F → F → Trouble → Type 0
IsNotOpened f file (Store error) = OfOpen error × IsNoneIn f file error
IsNotOpened f file _ = ⊥

-- a store isn't made
abbrev pub OfMaking : Trouble → Type 0
OfMaking Memory = ⊤
OfMaking (Making fault) = ⊤
OfMaking JustMade = ⊤
OfMaking Unsynced = ⊤
OfMaking _ = ⊥
