-- The codes with which parameters are refused.
use Rattle.std.specs.Prelude.{ℕ}

-- the parameter is taken from the selection, and there is none
abbrev pub no_selection : ℕ
no_selection = 2

-- a symbol is of another kind than the command takes, or a list has no name
abbrev pub wrong_symbol : ℕ
wrong_symbol = 3

-- no viewer is at the marker
abbrev pub no_viewer : ℕ
no_viewer = 7
