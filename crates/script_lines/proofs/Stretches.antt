-- The stretches of one look, one after another.
use Rattle.std.proofs.Common.{◌≡◌, ℕ, suc, ◌+◌, ◌<◌, Bool, true, false, cond, List, [], ◌∷◌, ◌++◌, take}
use Rattle.std.proofs.Common.{drop, length, Option, Some, None, position, nat_lt, ◌≤◌, slice_get, refl, sym, ap, subst}
use Rattle.std.proofs.Common.{◌∙◌, append_assoc, arith}
use Rattle.std.specs.Prelude.{not, ◌&&◌}
use Rattle.std.specs.Cmp.{unsigned_Decides, signed_Decides}
use Rattle.std.proofs.lemmas.Bool.{ltb-false}
use Rattle.std.proofs.lemmas.List.Sums.{prefix_len-le-length}
use Rattle.piece_ring.specs.declared.piece.Look.{Look}
use Rattle.piece_ring.specs.Text.{Text}
use Rattle.screen_pictures.specs.Bytes.{line_feed}
use Rattle.screen_pictures.specs.Printed.{ended_line}
use Rattle.script_lines.specs.Answer.{answer_byte, behind_look, escaped_answer, is_same_look, look_words, show_lines}
use Rattle.script_lines.specs.Stretch.{stretch_bytes, is_in_another_look, count_in}

both : (a b : Bool) → a && b ≡ true → (a ≡ true) × (b ≡ true)
both true b h = (refl, h)
both false b h = absurd cc

-- looks that are told to be the same are
same_is : (a b : Look) → is_same_look a b ≡ true → a ≡ b
same_is a b same =
    let (font, rest) = both _ _ same in
    let (colour, voff) = both _ _ rest in
    λ k. record {
      font = (unsigned_Decides a.font b.font).0 font k;
      colour = (unsigned_Decides a.colour b.colour).0 colour k;
      voff = (signed_Decides a.voff b.voff).0 voff k;
    }

is_itself : (a : Look) → is_same_look a a ≡ true
is_itself a = λ k. (unsigned_Decides a.font a.font).1 refl k && ((unsigned_Decides a.colour a.colour).1 refl k &&
    (signed_Decides a.voff a.voff).1 refl k)

-- where no character is in another look, all are counted
pub none_other : (look : Look) (text : Text ℕ) → position (is_in_another_look look) text ≡ None
    → length text ≡ count_in look text
none_other look text none =
    let most : count_in look text ≤ length text = prefix_len-le-length _ text in
    let least : length text ≤ count_in look text = past (count_in look text) (length text) none in
    omega arith
  where
    past : (n m : ℕ) → (let found : Option ℕ = cond (nat_lt n m) (Some n) None in found) ≡ None → m ≤ n
    past n m is = ltb-false n m (not_found (nat_lt n m) n is)
      where
        not_found : (b : Bool) (n : ℕ) → (let found : Option ℕ = cond b (Some n) None in found) ≡ None → b ≡ false
        not_found true n is = absurd cc
        not_found false n is = refl

counted : (look : Look) (d : ℕ × Look) (text : Text ℕ)
    → count_in look (d ∷ text) ≡ (let n : ℕ = cond (is_same_look look d.1) (suc (count_in look text)) 0 in n)
counted look d text = elim (is_same_look look d.1) as
    (λ b. (let n : ℕ = cond (not (not b)) (1 + count_in look text) 0 in n)
    ≡ (let n : ℕ = cond b (suc (count_in look text)) 0 in n)) [ true ↦ omega arith | false ↦ refl ]

-- the lines of a text
abbrev pub lines_of : Text ℕ → List ℕ
lines_of text = show_lines (Some text)

-- What follows a character in a look, when the beginning of the text in that look is so long: its bytes, and the lines of
-- what is left.
abbrev cut_at : Text ℕ → ℕ → List ℕ
cut_at text n = escaped_answer (stretch_bytes (take n text)) ++ line_feed ∷ lines_of (drop n text)

follows : (look : Look) (text : Text ℕ) → behind_look look text ≡ cut_at text (count_in look text)
follows look [] = refl
follows look (d ∷ text) =
    let more = follows look text in
    (elim (is_same_look look d.1) as (λ b. is_same_look look d.1 ≡ b
    → (let l : List ℕ = cond b [] (line_feed ∷ look_words d.1) ++ answer_byte d.0 ++ behind_look d.1 text in l)
    ≡ cut_at (d ∷ text) (cond b (suc (count_in look text)) 0)) [
      | true ↦ λ same. ap (λ l. answer_byte d.0 ++ l) (ap (λ x. behind_look x text) (sym (same_is look d.1 same))
          ∙ more)
          ∙ sym (append_assoc (answer_byte d.0) (escaped_answer (stretch_bytes (take (count_in look text) text)))
          (line_feed ∷ lines_of (drop (count_in look text) text)))
      | false ↦ λ other. refl
    ]) refl ∙ ap (cut_at (d ∷ text)) (sym (counted look d text))

itself_counted : (c : ℕ × Look) (text : Text ℕ) → count_in c.1 (c ∷ text) ≡ suc (count_in c.1 text)
itself_counted c text = counted c.1 c text ∙ ap (λ b. (let n : ℕ = cond b (suc (count_in c.1 text)) 0 in n))
    (is_itself c.1)

-- the first character is in its own look
pub some_counted : (text : Text ℕ) (c : ℕ × Look) → slice_get text 0 ≡ Some c → 0 < count_in c.1 text
some_counted [] c is = absurd cc
some_counted (d ∷ text) c is =
    let same : d ≡ c = cc is in
    let some : count_in d.1 (d ∷ text) ≡ suc (count_in d.1 text) = itself_counted d text in
    subst (λ (x : ℕ × Look). 0 < count_in x.1 (d ∷ text)) same (omega (arith, some))

-- the line of the first stretch, and those of what is left
abbrev first_line : Look → Text ℕ → ℕ → List ℕ
first_line look text n = ended_line (look_words look ++ escaped_answer (stretch_bytes (take n text)))

-- a text and a line feed behind it, before more
ends : (front bytes more : List ℕ) → front ++ (bytes ++ line_feed ∷ more) ≡ ended_line (front ++ bytes) ++ more
ends front bytes more = sym (append_assoc (front ++ bytes) (line_feed ∷ []) more
    ∙ append_assoc front bytes (line_feed ∷ more))

begins : (text : Text ℕ) (c : ℕ × Look) → slice_get text 0 ≡ Some c
    → lines_of text ≡ first_line c.1 text (count_in c.1 text) ++ lines_of (drop (count_in c.1 text) text)
begins [] c is = absurd cc
begins (d ∷ text) c is =
    let same : d ≡ c = cc is in
    let n = count_in d.1 text in
    let bytes = escaped_answer (stretch_bytes (take n text)) in
    let rest = lines_of (drop n text) in
    let front = look_words d.1 ++ answer_byte d.0 in
    let cut : lines_of (d ∷ text) ≡ first_line d.1 (d ∷ text) (suc n) ++ rest
    = ap (λ l. front ++ l) (follows d.1 text) ∙ ends front bytes rest
    ∙ ap (λ l. ended_line l ++ rest) (append_assoc (look_words d.1) (answer_byte d.0) bytes) in
    subst (λ (x : ℕ × Look). lines_of (d ∷ text)
    ≡ first_line x.1 (d ∷ text) (count_in x.1 (d ∷ text)) ++ lines_of (drop (count_in x.1 (d ∷ text)) (d ∷ text))) same
    (cut ∙ (λ k. first_line d.1 (d ∷ text) (sym (itself_counted d text) k)
    ++ lines_of (drop (sym (itself_counted d text) k) (d ∷ text))))

-- one more line
pub line_more : (before after : List ℕ) (text : Text ℕ) (c : ℕ × Look) (n : ℕ) (all : List ℕ)
    → slice_get text 0 ≡ Some c → n ≡ count_in c.1 text → after ≡ before ++ first_line c.1 text n
    → before ++ lines_of text ≡ all → after ++ lines_of (drop n text) ≡ all
line_more before after text c n all first count grown was =
    let rest = lines_of (drop n text) in
    let parts : lines_of text ≡ first_line c.1 text n ++ rest = begins text c first
    ∙ (λ k. first_line c.1 text (sym count k) ++ lines_of (drop (sym count k) text)) in
    ap (λ l. l ++ rest) grown ∙ append_assoc before (first_line c.1 text n) rest
    ∙ ap (λ l. before ++ l) (sym parts) ∙ was
