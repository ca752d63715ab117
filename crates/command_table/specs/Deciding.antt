-- How many names of a list decide whether its files can be deleted.
use Rattle.std.specs.Prelude.{ℕ, ◌≡◌, ◌+◌, ◌≤◌, Bool, true, ◌&&◌, not, List, [], ◌∷◌, length, take}
use Rattle.std.specs.List.{list_any, list_all}
use Rattle.std.specs.Str.{bytes_eq}

-- how many files a desktop may have
abbrev pub most_files : ℕ
most_files = 256

-- how many names of a list are read: one more, so that they can't all be names of files
abbrev pub most_names : ℕ
most_names = most_files + 1

abbrev pub is_among : List (List ℕ) → List ℕ → Bool
is_among names name = list_any (bytes_eq name) names

abbrev pub are_distinct : List (List ℕ) → Bool
are_distinct [] = true
are_distinct (name ∷ names) = not (is_among names name) && are_distinct names

-- each name is a file's, and none is named twice
abbrev pub can_be_deleted : List (List ℕ) → List (List ℕ) → Bool
can_be_deleted files names = list_all (is_among files) names && are_distinct names

-- of as many files as there may be, the first names of a list decide as all of them do
abbrev pub FirstNamesDecide : Type 0
FirstNamesDecide = (files names : List (List ℕ)) → length files ≤ most_files
    → can_be_deleted files (take most_names names) ≡ can_be_deleted files names
