-- The word of a call: the longest run of letters, digits and periods that holds the byte at a position.
use Rattle.std.specs.Prelude.{ℕ, zero, suc, ◌≡◌, ◌+◌, ◌-◌, ◌<◌, ◌≤◌, ◌==◌, false, IsTrue, if◌then◌else◌, List}
use Rattle.std.specs.Prelude.{[], length, drop, slice_index, slice_range, Option}
use Rattle.std.specs.Option.{option_map}
use Rattle.std.specs.List.{prefix_len}
use Rattle.event_bytes.specs.Bytes.{is_name_byte}
use Rattle.command_table.specs.declared.command.Command.{Command}
use Rattle.command_table.specs.Commands.{command_named}

-- how many such bytes stand together from a position on
abbrev pub run_from : List ℕ → ℕ → ℕ
run_from bs p = prefix_len is_name_byte (drop p bs)

-- where those that stand together before a position begin
unfoldable pub word_begin : List ℕ → ℕ → ℕ
word_begin bs zero = 0
word_begin bs (suc p) = if is_name_byte (slice_index bs p) then word_begin bs p else suc p

abbrev pub word_end : List ℕ → ℕ → ℕ
word_end bs p = p + run_from bs p

-- the word; empty where the byte at the position is no part of one
abbrev pub word_at : List ℕ → ℕ → List ℕ
word_at bs p = if run_from bs p == 0 then [] else slice_range bs (word_begin bs p) (word_end bs p)

-- the command whose word that is in a version of the table, and the position where its parameters begin
unfoldable pub called_at : ℕ → List ℕ → ℕ → Option (Command × ℕ)
called_at version bs p =
    option_map (λ command. (command, word_end bs p)) (command_named version (word_at bs p))

-- The bytes from `begin` up to before `end` are a run that holds p, and the run can't be longer.
pub record IsLongestRun (bs : List ℕ) (p begin end : ℕ) : Type 0 where
  pub before : begin ≤ p
  pub after : p < end
  pub within : end ≤ length bs
  pub run : (k : ℕ) → begin ≤ k → k < end → IsTrue (is_name_byte (slice_index bs k))
  pub first : 0 < begin → is_name_byte (slice_index bs (begin - 1)) ≡ false
  pub last : end < length bs → is_name_byte (slice_index bs end) ≡ false

abbrev pub WordIsLongest : Type 0
WordIsLongest = (bs : List ℕ) (p : ℕ) → p < length bs → IsTrue (is_name_byte (slice_index bs p))
    → IsLongestRun bs p (word_begin bs p) (word_end bs p)
