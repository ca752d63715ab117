-- Versions of the table of commands, and their numbers.
use Rattle.std.specs.Prelude.{ℕ, ◌==◌, if◌then◌else◌, Option, Some, None}
use Rattle.command_table.specs.declared.version.Version.{Version}
use Rattle.command_table.specs.declared.version.Version.TheVariants.{V1, V2, V3}

abbrev pub first_version : ℕ
first_version = 1

abbrev pub newest_version : ℕ
newest_version = 3

abbrev pub version_number : Version → ℕ
version_number V1 = 1
version_number V2 = 2
version_number V3 = 3

-- the version of a number, if one has it
abbrev pub version_of : ℕ → Option Version
version_of n =
    if n == 1 then Some V1 else (if n == 2 then Some V2 else (if n == 3 then Some V3 else None))
