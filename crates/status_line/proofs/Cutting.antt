-- Where the words and the parts of a line end.
use Rattle.std.proofs.Common.{◌≡◌, ◌≤◌, ◌+◌, ℕ, suc, Bool, true, false, List, refl, sym, subst, ◌∙◌, arith}
use Rattle.std.specs.Prelude.{if◌then◌else◌}
use Rattle.std.proofs.lemmas.Bool.{cond-true, cond-false}
use Rattle.status_line.specs.Fitting.{ends, last_cut}

next : (n : ℕ) → n + 1 ≡ suc n
next n = omega arith

suc_end : (parts : Bool) (line : List ℕ) (n : ℕ)
    → last_cut parts line (suc n) ≡ (if ends parts line (suc n) then suc n else last_cut parts line n)
unfolding last_cut
suc_end parts line n = refl

-- one place further
next_end : (parts : Bool) (line : List ℕ) (n : ℕ)
    → last_cut parts line (n + 1) ≡ (if ends parts line (n + 1) then n + 1 else last_cut parts line n)
next_end parts line n =
    subst (λ m. last_cut parts line m ≡ (if ends parts line m then m else last_cut parts line n)) (sym (next n))
    (suc_end parts line n)

pub ends_there : (parts : Bool) (line : List ℕ) (n : ℕ) → ends parts line (n + 1) ≡ true
    → last_cut parts line (n + 1) ≡ n + 1
ends_there parts line n is = next_end parts line n ∙ cond-true (ends parts line (n + 1)) _ _ is

pub ends_before : (parts : Bool) (line : List ℕ) (n : ℕ) → ends parts line (n + 1) ≡ false
    → last_cut parts line (n + 1) ≡ last_cut parts line n
ends_before parts line n is = next_end parts line n ∙ cond-false (ends parts line (n + 1)) _ _ is

pub none_first : (parts : Bool) (line : List ℕ) → last_cut parts line 0 ≡ 0
unfolding last_cut
none_first parts line = refl

pub one_more : (m n : ℕ) → m ≤ n → m ≤ n + 1
one_more m n le = omega arith
