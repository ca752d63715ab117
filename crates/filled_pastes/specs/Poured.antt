-- What is pasted where lines are filled: an end of line comes before each word for which its line has no room.
use Rattle.std.specs.Prelude.{ℕ, ◌≤◌, ◌+◌, ◌-◌, ◌*◌, ◌/◌, Bool, false, ◌==◌, ◌&&◌, ◌||◌, not, nat_lt, min, if◌then◌else◌}
use Rattle.std.specs.Prelude.{List, [], ◌∷◌, ◌++◌, length, position, unwrap_or}
use Rattle.event_bytes.specs.Bytes.{tabulator, carriage_return}
use Rattle.viewer_tracks.specs.declared.display.TheConstants.{COLUMNS, SYSTEM_LEFT}
use Rattle.screen_pictures.specs.Bytes.{space}

abbrev pub is_gap : ℕ → Bool
is_gap b = (b == space) || (b == tabulator)

-- what stands between words: a blank, or the end of a line
abbrev pub parts_words : ℕ → Bool
parts_words b = is_gap b || (b == carriage_return)

-- how many characters the word has that begins there
abbrev pub word_length : List ℕ → ℕ
word_length bs = unwrap_or (position parts_words bs) (length bs)

-- the column behind a character that stands in column c of w; behind the last one it is w
abbrev pub column_then : ℕ → ℕ → ℕ → ℕ
column_then w c b = if b == carriage_return then 0
    else min (if b == tabulator then c / 4 * 4 + 4 else c + 1) w

-- Whether a word begins there that would pass the edge, and it isn't the first one of its line.
abbrev pub turns : ℕ → ℕ → Bool → List ℕ → Bool
turns w c begins bs = (begins && nat_lt 0 c)
    && (nat_lt 0 (word_length bs) && not (nat_lt (c + word_length bs) w))

-- then a line ends before it, and it stands in the first column
abbrev pub ended : Bool → List ℕ
ended turns = if turns then carriage_return ∷ [] else []

abbrev pub column_from : Bool → ℕ → ℕ
column_from turns c = if turns then 0 else c

-- What is typed from column c on, where a word may begin, or one goes on. Where that ends with a blank in the last column
-- its line ends.
unfoldable pub poured : ℕ → ℕ → Bool → List ℕ → List ℕ
poured w c begins [] = ended (begins && not (nat_lt c w))
poured w c begins (b ∷ bs) = let t = turns w c begins (b ∷ bs) in
    ended t ++ b ∷ poured w (column_then w (column_from t c) b) (parts_words b) bs

-- the first column of the text of a viewer that has column x, and the one behind its last
abbrev pub text_left : ℕ → ℕ
text_left x = if nat_lt x SYSTEM_LEFT then 1 else SYSTEM_LEFT + 1

abbrev pub text_right : ℕ → ℕ
text_right x = if nat_lt x SYSTEM_LEFT then SYSTEM_LEFT else COLUMNS

-- how many columns of text it has
abbrev pub text_columns : ℕ → ℕ
text_columns x = text_right x - text_left x

-- what is typed from column x of the display on, where a word goes on
abbrev pub poured_at : ℕ → List ℕ → List ℕ
poured_at x bs = poured (text_right x - text_left x) (x - text_left x) false bs

-- ---- what it means

-- bytes into which ends of lines were put: without these they are `bs`
pub data HasEnds : List ℕ → List ℕ → Type 0 where
  none : HasEnds [] []
  byte : {bs typed : List ℕ} (b : ℕ) → HasEnds bs typed → HasEnds (b ∷ bs) (b ∷ typed)
  line_end : {bs typed : List ℕ} → HasEnds bs typed → HasEnds bs (carriage_return ∷ typed)

-- nothing of a paste is lost
abbrev pub PastesLoseNothing : Type 0
PastesLoseNothing = (x : ℕ) (bs : List ℕ) → HasEnds bs (poured_at x bs)

-- and what is typed for it is at most half as long again, and a byte
abbrev pub PastesStayShort : Type 0
PastesStayShort = (x : ℕ) (bs : List ℕ) → 2 * length (poured_at x bs) ≤ 3 * length bs + 1
