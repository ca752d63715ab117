-- Words of a text: what stands between them, and where they begin and end.
use Rattle.std.specs.Prelude.{ℕ, zero, suc, ◌+◌, Bool, true, false, ◌==◌, ◌||◌, not, List, drop, Option, Some, None, slice_get}
use Rattle.std.specs.List.{prefix_len}
use Rattle.event_bytes.specs.Bytes.{tabulator}
use Rattle.screen_pictures.specs.Bytes.{space}
use Rattle.text_frames.specs.Lines.{is_return, greatest_where}

-- what stands between words: a blank, a tabulator, or the end of a line
abbrev pub separates_words : ℕ → Bool
separates_words b = (b == space) || ((b == tabulator) || is_return b)

-- a byte is of a run: of what stands between words, or of a word
unfoldable pub is_of_run : Bool → ℕ → Bool
is_of_run true b = separates_words b
is_of_run false b = not (separates_words b)

-- where a run ends that begins at p; it may have no byte
abbrev pub run_end : Bool → List ℕ → ℕ → ℕ
run_end gaps bs p = p + prefix_len (is_of_run gaps) (drop p bs)

-- no run goes on over a place where the byte before it is of another kind
abbrev pub stops_run : Bool → Option ℕ → Bool
stops_run gaps None = true
stops_run gaps (Some b) = not (is_of_run gaps b)

abbrev pub begins_run : Bool → List ℕ → ℕ → Bool
begins_run gaps bs zero = true
begins_run gaps bs (suc k) = stops_run gaps (slice_get bs k)

-- where a run begins that ends before p
abbrev pub run_start : Bool → List ℕ → ℕ → ℕ
run_start gaps bs p = greatest_where (begins_run gaps bs) p

-- Where the next word begins: behind the one that stands there and what follows it. Behind the last one it is the end of
-- the text.
abbrev pub next_word : List ℕ → ℕ → ℕ
next_word bs p = run_end true bs (run_end false bs p)

-- where the word before begins; before the first one it is the beginning of the text
abbrev pub word_before : List ℕ → ℕ → ℕ
word_before bs p = run_start false bs (run_start true bs p)
