-- Why the host did not do what it was asked.
use Rattle.std.specs.Prelude.{ℕ}
use Rattle.std_io.specs.declared.io.kind.ErrorKind.{ErrorKind}
use Rattle.std_io.specs.declared.io.kind.ErrorKind.TheVariants.{NotFound, AlreadyExists, OutOfMemory, IsADirectory}
use Rattle.std_io.specs.declared.io.kind.ErrorKind.TheVariants.{PermissionDenied, ReadOnlyFilesystem}
use Rattle.std.specs.declared.fs.locks.TryLockError.{TryLockError}
use Rattle.std.specs.declared.fs.locks.TryLockError.TheVariants.{WouldBlock, Error}
use Rattle.host_files.specs.declared.HostFault.{HostFault}
use Rattle.host_files.specs.declared.HostFault.TheVariants.{Missing, InUse, Taken, Folder, NoRight, ReadOnly, Refused, NoMemory}
use Rattle.host_files.specs.declared.HostFault.TheVariants.{Special, TooLong, NoHome}

-- by the kind of its error
abbrev pub fault_of_kind : ErrorKind → HostFault
fault_of_kind NotFound = Missing
fault_of_kind AlreadyExists = Taken
fault_of_kind OutOfMemory = NoMemory
fault_of_kind IsADirectory = Folder
fault_of_kind PermissionDenied = NoRight
fault_of_kind ReadOnlyFilesystem = ReadOnly
fault_of_kind _ = Refused

-- where a lock isn't taken
abbrev pub fault_of_lock : TryLockError → HostFault
fault_of_lock WouldBlock = InUse
fault_of_lock (Error why) = Refused

-- its number, from 1 on
abbrev pub fault_number : HostFault → ℕ
fault_number Missing = 1
fault_number InUse = 2
fault_number Taken = 3
fault_number Folder = 4
fault_number NoRight = 5
fault_number ReadOnly = 6
fault_number Special = 7
fault_number TooLong = 8
fault_number NoHome = 9
fault_number Refused = 10
fault_number NoMemory = 11
