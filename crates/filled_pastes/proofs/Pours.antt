-- What is typed for a paste, byte by byte.
use Rattle.std.proofs.Common.{◌≡◌, ◌≤◌, ◌<◌, ◌+◌, ℕ, Bool, List, [], ◌∷◌, ◌++◌, length, drop, get_or, refl, sym, ap, ◌∙◌}
use Rattle.std.proofs.Common.{append_assoc}
use Rattle.std.specs.Prelude.{nat_lt, not, ◌&&◌}
use Rattle.std.proofs.lemmas.List.{drop_more, drop_all}
use Rattle.filled_pastes.specs.Poured.{column_then, column_from, ended, parts_words, poured, turns}

poured_first : (w c : ℕ) (g : Bool) (b : ℕ) (bs : List ℕ) → poured w c g (b ∷ bs)
    ≡ ended (turns w c g (b ∷ bs)) ++ b ∷ poured w (column_then w (column_from (turns w c g (b ∷ bs)) c) b) (parts_words b) bs
unfolding poured
poured_first w c g b bs = refl

poured_none : (w c : ℕ) (g : Bool) → poured w c g [] ≡ ended (g && not (nat_lt c w))
unfolding poured
poured_none w c g = refl

-- a byte more
pub pours_on : (w c i : ℕ) (g : Bool) (bs : List ℕ) (b next : ℕ) (t begins : Bool) (out more typed all : List ℕ) → i < length bs
    → b ≡ get_or bs i 0 → t ≡ turns w c g (drop i bs) → more ≡ out ++ ended t → typed ≡ more ++ b ∷ []
    → out ++ poured w c g (drop i bs) ≡ all
    → next ≡ column_then w (column_from t c) b → begins ≡ parts_words b
    → typed ++ poured w next begins (drop (i + 1) bs) ≡ all
pours_on w c i g bs b next t begins out more typed all low here turn more_is typed_is was next_is begins_is =
    let rest : List ℕ = poured w (column_then w (column_from t c) b) (parts_words b) (drop (i + 1) bs) in
    let split : drop i bs ≡ b ∷ drop (i + 1) bs =
    drop_more bs i 0 low ∙ ap (λ (x : ℕ). x ∷ drop (i + 1) bs) (sym here) in
    let turned : turns w c g (b ∷ drop (i + 1) bs) ≡ t = ap (turns w c g) (sym split) ∙ sym turn in
    let whole : poured w c g (drop i bs) ≡ ended t ++ b ∷ rest = ap (poured w c g) split
    ∙ poured_first w c g b (drop (i + 1) bs)
    ∙ (λ k. ended (turned k) ++ b ∷ poured w (column_then w (column_from (turned k) c) b) (parts_words b) (drop (i + 1) bs)) in
    (λ k. typed ++ poured w (next_is k) (begins_is k) (drop (i + 1) bs))
    ∙ ap (λ (l : List ℕ). l ++ rest) typed_is
    ∙ append_assoc more (b ∷ []) rest
    ∙ ap (λ (l : List ℕ). l ++ b ∷ rest) more_is
    ∙ append_assoc out (ended t) (b ∷ rest)
    ∙ ap (λ (l : List ℕ). out ++ l) (sym whole)
    ∙ was

-- and the end
pub all_poured : (w c i : ℕ) (g : Bool) (bs out typed all : List ℕ) (t : Bool) → length bs ≤ i
    → t ≡ (g && not (nat_lt c w)) → typed ≡ out ++ ended t → out ++ poured w c g (drop i bs) ≡ all → typed ≡ all
all_poured w c i g bs out typed all t high turn typed_is was =
    typed_is ∙ ap (λ (b : Bool). out ++ ended b) turn
    ∙ ap (λ (l : List ℕ). out ++ l) (sym (poured_none w c g))
    ∙ ap (λ (l : List ℕ). out ++ poured w c g l) (sym (drop_all i bs high))
    ∙ was
