-- Parts of a line, one behind another.
use Rattle.std.proofs.Common.{◌≡◌, ℕ, List, ◌++◌, ◌∙◌, ap, append_assoc}

pub five_parts : (a b c d e : List ℕ) {one two three all : List ℕ} → one ≡ a ++ b → two ≡ one ++ c → three ≡ two ++ d
    → all ≡ three ++ e → all ≡ a ++ (b ++ (c ++ (d ++ e)))
five_parts a b c d e one two three all =
    all ∙ ap (λ l. l ++ e) (three ∙ ap (λ l. l ++ d) (two ∙ ap (λ l. l ++ c) one))
    ∙ append_assoc ((a ++ b) ++ c) d e ∙ append_assoc (a ++ b) c (d ++ e) ∙ append_assoc a b (c ++ (d ++ e))
