-- Sums over the names of files.
use Rattle.std.proofs.Common.{◌≡◌, ◌+◌, ◌<◌, ◌≤◌, ◌∙◌, ℕ, List, length, get_or, sum_by, drop, ap}
use Rattle.std.proofs.Math.ListN.{drop_of_length-le}
use Rattle.std.proofs.lemmas.List.Sums.{sum_by-cons}
use Rattle.desktop_definitions.proofs.StoreLaws.{next_at}

-- nothing is to come behind the last name
pub sum_end : (size : List ℕ → ℕ) (names : List (List ℕ)) (at : ℕ) → length names ≤ at → sum_by size (drop at names) ≡ 0
sum_end size names at low = ap (sum_by size) (drop_of_length-le names low)

-- what is to come is the next name's share and what comes after it
pub sum_from : (size : List ℕ → ℕ) (names : List (List ℕ)) (at : ℕ) (name : List ℕ) → at < length names
    → name ≡ get_or names at name
    → sum_by size (drop at names) ≡ size name + sum_by size (drop (at + 1) names)
sum_from size names at name low is =
    ap (sum_by size) (next_at names at name low is) ∙ sum_by-cons size name (drop (at + 1) names)
