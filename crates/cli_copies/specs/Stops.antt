-- Why an order over a store was not done, and the status of the program then.
use Rattle.std.specs.Prelude.{ℕ}
use Rattle.cli_stores.specs.Statuses.{trouble_status}
use Rattle.cli_copies.specs.declared.sentences.Stop.{Stop}
use Rattle.cli_copies.specs.declared.sentences.Stop.TheVariants.{Trouble, Refused, Host, Cut}

-- the status of the program
abbrev pub stop_status : Stop → ℕ
stop_status (Trouble trouble) = trouble_status trouble
stop_status Refused = 1
stop_status Host = 4
stop_status Cut = 3
