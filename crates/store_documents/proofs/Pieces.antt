-- Pieces that are added one after another.
use Rattle.std.proofs.Common.{◌≡◌, ℕ, List, ◌++◌, ap, ◌∙◌, append_assoc}

pub three_added : (old a b c one two three : List ℕ) → one ≡ old ++ a → two ≡ one ++ b → three ≡ two ++ c
    → three ≡ old ++ (a ++ (b ++ c))
three_added old a b c one two three first second third =
    third ∙ ap (λ (l : List ℕ). l ++ c) (second ∙ ap (λ (l : List ℕ). l ++ b) first ∙ append_assoc old a b)
    ∙ append_assoc old (a ++ b) c ∙ ap (λ (l : List ℕ). old ++ l) (append_assoc a b c)

pub five_added : (old a b c d e one two three four five : List ℕ) → one ≡ old ++ a → two ≡ one ++ b
    → three ≡ two ++ c → four ≡ three ++ d → five ≡ four ++ e
    → five ≡ old ++ (a ++ (b ++ (c ++ (d ++ e))))
five_added old a b c d e one two three four five first second third fourth fifth =
    three_added old (a ++ (b ++ c)) d e three four five
    (three_added old a b c one two three first second third) fourth fifth
    ∙ ap (λ (l : List ℕ). old ++ l)
    (append_assoc a (b ++ c) (d ++ e) ∙ ap (λ (l : List ℕ). a ++ l) (append_assoc b c (d ++ e)))
