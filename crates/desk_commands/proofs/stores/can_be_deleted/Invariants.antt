use Rattle.std.proofs.Common.{◌≡◌, drop}
use Rattle.std.specs.Map.{keys_of}
use Rattle.command_table.specs.Deciding.{can_be_deleted}
use Rattle.desk_commands.proofs.stores.can_be_deleted.Given as goal

-- the names to come decide
abbrev pub invariant-loop-at : goal.invariant-loop-at
invariant-loop-at l =
    can_be_deleted (keys_of l.files.entries) l.names ≡ can_be_deleted (keys_of l.files.entries) (drop l.at l.names)
