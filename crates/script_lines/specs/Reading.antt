-- How lines come from a reader.
use Rattle.std.specs.Prelude.{◌≡◌, ℕ, ◌+◌, ◌*◌, ◌<◌, ◌≤◌, List, [], ◌++◌, length, true, false, Option, Some, MatchOption}
use Rattle.std.specs.Io.KnownBytes.{Consumes, IsAtEnd}
use Rattle.script_lines.specs.Request.{longest_line}
use Rattle.screen_pictures.specs.Printed.{ended_line}
use Rattle.script_lines.specs.Script.{IsLine}
use Rattle.script_lines.specs.declared.line.Line.{Line}
use Rattle.script_lines.specs.declared.line.TheConstants.{LONGEST_PIECE}

-- A line is held whole, or it is known that it is too long to be one of the language.
pub record HoldsLine (held : Line) (line : List ℕ) : Type 0 where
  pub long : held.is_long ≡ true → longest_line < length line
  pub short : held.is_long ≡ false → held.bytes.items ≡ line

-- A script on its way: the bytes that were read and stand in no line yet, and how many reads may follow.
pub record Unplayed : Type 0 where
  pub pending : List ℕ
  pub reads : ℕ

-- how many bytes a read gives at most
abbrev pub longest_piece : ℕ
longest_piece = LONGEST_PIECE

-- a bound on the bytes that so many reads give
abbrev pub most_bytes : ℕ → ℕ
most_bytes reads = reads * longest_piece

-- What was read came in at most so many pieces.
pub record ComesInPieces (reads : ℕ) (left left' : Option (List ℕ)) : Type 0 where
  pub read : List ℕ
  pub came : Consumes left left' read
  pub few : length read ≤ reads * LONGEST_PIECE

-- A piece was read, of so many bytes: none at the end of the script. No number: the read failed, or would be one too many.
pub record ReadsPiece (result : Option ℕ) (left left' : Option (List ℕ))
    (pending : List ℕ) : Type 0 where
  pub came : Consumes left left' pending
  pub count : MatchOption result (pending ≡ []) (λ n. (length pending ≡ n))
  pub most : length pending ≤ longest_piece
  pub end : result ≡ Some 0 → IsAtEnd left'

-- a bound on the lines that can still come
abbrev pub most_lines : Unplayed → ℕ
most_lines u = u.reads * (longest_piece + 1) + length u.pending

-- A line came first, in what was pending and what then was read; left is what the reader had left.
pub record TakesLine (old new : Unplayed) (left left' : Option (List ℕ))
    (held : Line) : Type 0 where
  pub line : List ℕ
  pub read : List ℕ
  pub came : Consumes left left' read
  pub plain : IsLine line
  pub parts : old.pending ++ read ≡ ended_line line ++ new.pending
  pub few : length read + most_bytes new.reads ≤ most_bytes old.reads
  pub holds : HoldsLine held line

-- No line feed came any more: this rest is all that was pending and read.
pub record TakesRest (old new : Unplayed) (left left' : Option (List ℕ))
    (held : Line) : Type 0 where
  pub rest : List ℕ
  pub read : List ℕ
  pub came : Consumes left left' read
  pub plain : IsLine rest
  pub parts : old.pending ++ read ≡ rest
  pub none : new.pending ≡ []
  pub few : length read + most_bytes new.reads ≤ most_bytes old.reads
  pub holds : HoldsLine held rest
