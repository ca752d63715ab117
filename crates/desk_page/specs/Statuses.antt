-- What a call comes to, as the host is told: 0 where it is done, and else why not. After 1 to 5 a host has to begin anew,
-- and after 6 to 11 it goes on.
use Rattle.std.specs.Prelude.{ℕ}
use Rattle.desk_journal.specs.Errors.{Error, NotAStore, Damaged, TooSmall, Worn, Fault, NoMemory, MustReopen}
use Rattle.store_documents.specs.declared.file_bytes.Unfit.{Unfit}
use Rattle.store_documents.specs.declared.file_bytes.Unfit.TheVariants as unfit

abbrev pub status_of_error : Error → ℕ
status_of_error NotAStore = 2
status_of_error (Damaged sector) = 3
status_of_error TooSmall = 2
status_of_error Worn = 4
status_of_error Fault = 1
status_of_error NoMemory = 1
status_of_error MustReopen = 5

-- no page is kept
abbrev pub gone : ℕ
gone = 5

-- the bytes are no document's name, the file is no document, there is no such document, there is no room for it
abbrev pub no_name : ℕ
no_name = 6

abbrev pub unfit_file : ℕ
unfit_file = 7

abbrev pub not_there : ℕ
not_there = 8

abbrev pub no_room : ℕ
no_room = 9

-- the store keeps no past that can be read
abbrev pub without_past : ℕ
without_past = 10

-- the past isn't forgotten
abbrev pub past_stays : ℕ
past_stays = 11

abbrev pub status_of_file : Unfit → ℕ
status_of_file unfit.NoMemory = 1
status_of_file _ = unfit_file
