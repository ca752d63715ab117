-- A list whose first elements have been changed in their places.
use Rattle.std.proofs.Common.{◌≡◌, ℕ, zero, suc, ◌+◌, ◌<◌, List, [], ◌∷◌, ◌++◌, length, take, drop, set, get_or, map}
use Rattle.std.proofs.Common.{refl, sym, ap, arith, add-one, ◌∙◌}

-- the first n are what f makes of them
abbrev pub changed_to : (f : ℕ → ℕ) → ℕ → List ℕ → List ℕ
changed_to f n xs = map f (take n xs) ++ drop n xs

at_next : (f : ℕ → ℕ) (xs : List ℕ) (i : ℕ) → i < length xs
    → set (changed_to f i xs) i (f (get_or (changed_to f i xs) i 0)) ≡ changed_to f (suc i) xs
at_next f [] i within = absurd (omega arith)
at_next f (x ∷ xs) zero within = refl
at_next f (x ∷ xs) (suc i) within = ap (λ l. f x ∷ l) (at_next f xs i (omega arith))

pub next_changed : (f : ℕ → ℕ) (xs ys : List ℕ) (i : ℕ) → i < length xs → ys ≡ changed_to f i xs
    → set ys i (f (get_or ys i 0)) ≡ changed_to f (i + 1) xs
next_changed f xs ys i within so_far =
    ap (λ l. set l i (f (get_or l i 0))) so_far ∙ at_next f xs i within ∙ ap (λ n. changed_to f n xs) (sym (add-one i))

pub all_changed : (f : ℕ → ℕ) (xs : List ℕ) → changed_to f (length xs) xs ≡ map f xs
all_changed f [] = refl
all_changed f (x ∷ xs) = ap (λ l. f x ∷ l) (all_changed f xs)
