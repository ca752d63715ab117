-- Parts of a line, one behind another.
use Rattle.std.proofs.Common.{◌≡◌, ℕ, List, ◌++◌, ◌∙◌, ap, append_assoc}

pub three_parts : (a b c : List ℕ) {one two all : List ℕ} → one ≡ a → two ≡ one ++ b → all ≡ two ++ c
    → all ≡ a ++ (b ++ c)
three_parts a b c one two all = all ∙ ap (λ l. l ++ c) (two ∙ ap (λ l. l ++ b) one) ∙ append_assoc a b c

pub six_parts : (a b c d e f : List ℕ) {one two three four five all : List ℕ} → one ≡ a → two ≡ one ++ b
    → three ≡ two ++ c → four ≡ three ++ d → five ≡ four ++ e → all ≡ five ++ f
    → all ≡ a ++ (b ++ (c ++ (d ++ (e ++ f))))
six_parts a b c d e f one two three four five all =
    all ∙ ap (λ l. l ++ f) (five ∙ ap (λ l. l ++ e) (four ∙ ap (λ l. l ++ d)
    (three ∙ ap (λ l. l ++ c) (two ∙ ap (λ l. l ++ b) one))))
    ∙ append_assoc (((a ++ b) ++ c) ++ d) e f ∙ append_assoc ((a ++ b) ++ c) d (e ++ f)
    ∙ append_assoc (a ++ b) c (d ++ (e ++ f)) ∙ append_assoc a b (c ++ (d ++ (e ++ f)))
