-- Texts by number and files by name. T is the type of a text. A table rises by its keys, and has one text of a key.
use Rattle.std.specs.Prelude.{ℕ, ◌||◌, nat_lt, Bool, List, map, sum_by, length, Option, is_some}
use Rattle.std.specs.Map.{lookup, values_of}
use Rattle.std.specs.declared.cmp.Ordering.{Ordering}
use Rattle.std.specs.Cmp.Lexicographic.{slice_cmp}
use Rattle.std.specs.BTreeMap.{insert_entry}
use Rattle.desktop_definitions.specs.Words.{nat_cmp, is_at}
use Rattle.desktop_definitions.specs.Limits.{most_files}

abbrev pub Texts : Type 0 → Type 0
Texts T = List (ℕ × T)

abbrev pub Files : Type 0 → Type 0
Files T = List (List ℕ × T)

-- byte by byte, a name before its longer ones
abbrev pub name_cmp : List ℕ → List ℕ → Ordering
name_cmp = slice_cmp nat_cmp

module _ {T : Type 0} where
  -- the text of a number
  abbrev pub text_numbered : Texts T → ℕ → Option T
  text_numbered texts n = lookup (is_at (nat_cmp n)) texts

  -- the text of the file of a name
  abbrev pub file_named : Files T → List ℕ → Option T
  file_named files name = lookup (is_at (name_cmp name)) files

  -- the file of that name has this text, and each other file its own
  abbrev pub file_put : Files T → List ℕ → T → Files T
  file_put files name text = insert_entry name_cmp files name text

  -- there is a file of that name, or room for one more
  abbrev pub has_file_room : Files T → List ℕ → Bool
  has_file_room files name = is_some (file_named files name) || nat_lt (length files) most_files

-- a table with f of each text
abbrev pub with_values : {K T U : Type 0} → (T → U) → List (K × T) → List (K × U)
with_values f table = map (λ e. (e.0, f e.1)) table

-- how many characters its texts have
abbrev pub lengths : {K X : Type 0} → List (K × List X) → ℕ
lengths table = sum_by length (values_of table)
