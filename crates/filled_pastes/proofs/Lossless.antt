-- Nothing of a paste is lost, and what is typed for it stays short.
use Rattle.std.proofs.Common.{◌≡◌, ◌≤◌, ◌<◌, ◌+◌, ◌-◌, ◌*◌, ℕ, Bool, true, false, List, [], ◌∷◌, ◌++◌, length, refl, sym, ap}
use Rattle.std.proofs.Common.{arith, ◌∙◌, lt-ltb, true≢false}
use Rattle.std.specs.Prelude.{◌&&◌, if◌then◌else◌, not, nat_lt, Some, None, unwrap_or}
use Rattle.std.specs.List.{position_or_len, prefix_len}
use Rattle.std.proofs.lemmas.Bool.{and_parts, cond-false}
use Rattle.filled_pastes.specs.Poured.{HasEnds, none, byte, line_end, PastesLoseNothing, PastesStayShort}
use Rattle.filled_pastes.specs.Poured.{column_from, column_then, ended, parts_words, poured, text_left, text_right, turns}
use Rattle.filled_pastes.specs.Poured.{word_length}

ended_ends : (t : Bool) {bs typed : List ℕ} → HasEnds bs typed → HasEnds bs (ended t ++ typed)
ended_ends true ends = line_end ends
ended_ends false ends = ends

only_end : (t : Bool) → HasEnds [] (ended t)
only_end true = line_end none
only_end false = none

pours_all : (w c : ℕ) (g : Bool) (bs : List ℕ) → HasEnds bs (poured w c g bs)
unfolding poured
pours_all w c true [] = only_end (not (nat_lt c w))
pours_all w c false [] = none
pours_all w c g (b ∷ bs) = let t = turns w c g (b ∷ bs) in
    ended_ends t (byte b (pours_all w (column_then w (column_from t c) b) (parts_words b) bs))

pub has_ends : PastesLoseNothing
has_ends x bs = pours_all (text_right x - text_left x) (x - text_left x) false bs

-- ---- how much it is

abbrev extra : Bool → ℕ
extra true = 1
extra false = 0

extra_few : (g : Bool) → extra g ≤ 1
extra_few true = omega arith
extra_few false = omega arith

no_word : (b : ℕ) (bs : List ℕ) → parts_words b ≡ true → word_length (b ∷ bs) ≡ 0
no_word b bs is =
    let none_is : position_or_len parts_words (b ∷ bs) ≡ 0 =
    cond-false (not (parts_words b)) (1 + (prefix_len (λ x. not (parts_words x)) bs)) 0 (ap not is) in
    let first : 0 < length (b ∷ bs) = omega arith in
    ap (λ (n : ℕ). unwrap_or (if nat_lt n (length (b ∷ bs)) then Some n else None) (length (b ∷ bs))) none_is
    ∙ ap (λ (t : Bool). unwrap_or (if t then Some 0 else None) (length (b ∷ bs))) (lt-ltb 0 (length (b ∷ bs)) first)

-- where a line ends before a byte, a word begins with it
begins_word : (b : ℕ) (bs : List ℕ) (gap : Bool) → parts_words b ≡ gap → nat_lt 0 (word_length (b ∷ bs)) ≡ true → extra gap ≡ 0
begins_word b bs false is some = refl
begins_word b bs true is some =
    absurd (true≢false (sym some ∙ ap (nat_lt 0) (no_word b bs is)))

turned : (w c : ℕ) (g : Bool) (b : ℕ) (bs : List ℕ) → turns w c g (b ∷ bs) ≡ true
    → (extra g ≡ 1) × (extra (parts_words b) ≡ 0)
turned w c true b bs is =
    let two = and_parts (true && nat_lt 0 c) (nat_lt 0 (word_length (b ∷ bs)) && not (nat_lt (c + word_length (b ∷ bs)) w)) is in
    let some = and_parts (nat_lt 0 (word_length (b ∷ bs))) (not (nat_lt (c + word_length (b ∷ bs)) w)) two.1 in
    (refl, begins_word b bs (parts_words b) refl some.0)
turned w c false b bs is = absurd (true≢false (sym is))

-- one byte more, before which a line ends or doesn't
one_more : (t : Bool) (b l n more before : ℕ) (rest : List ℕ) → l ≡ length rest → 2 * l ≤ 3 * n + 1 + more → more ≤ 1
    → (t ≡ true → (before ≡ 1) × (more ≡ 0)) → 2 * length (ended t ++ b ∷ rest) ≤ 3 * (1 + n) + 1 + before
one_more true b l n more before rest is few one turn =
    let (g, no_more) = turn refl in
    let long : length (ended true ++ b ∷ rest) ≡ 1 + (1 + length rest) = omega arith in
    omega (arith, is, few, one, g, no_more, long)
one_more false b l n more before rest is few one turn =
    let long : length (ended false ++ b ∷ rest) ≡ 1 + length rest = omega arith in
    omega (arith, is, few, one, long)

last_short : (t : Bool) → length (ended t) ≤ 1
last_short true = omega arith
last_short false = omega arith

short_from : (w c : ℕ) (g : Bool) (bs : List ℕ) → 2 * length (poured w c g bs) ≤ 3 * length bs + 1 + extra g
unfolding poured
short_from w c true [] = omega (arith, last_short (not (nat_lt c w)))
short_from w c false [] = omega arith
short_from w c g (b ∷ bs) =
    let t = turns w c g (b ∷ bs) in
    let next = column_then w (column_from t c) b in
    let bound : 2 * length (ended t ++ b ∷ poured w next (parts_words b) bs) ≤ 3 * (1 + length bs) + 1 + extra g =
    one_more t b _ (length bs) (extra (parts_words b)) (extra g) (poured w next (parts_words b) bs) refl
    (short_from w next (parts_words b) bs) (extra_few (parts_words b)) (turned w c g b bs) in
    let long : 1 + length bs ≡ length (b ∷ bs) = omega arith in
    omega (arith, bound, long)

pub is_short : PastesStayShort
is_short x bs =
    let bound = short_from (text_right x - text_left x) (x - text_left x) false bs in omega (arith, bound)
