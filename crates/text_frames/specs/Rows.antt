-- How far the rows of a frame have been read.
use Rattle.std.specs.Prelude.{ℕ, List}
use Rattle.piece_ring.specs.Text.{Text}
use Rattle.text_frames.specs.declared.rows.FrameRows.{FrameRows}
use Rattle.text_frames.specs.Reading.{IsReadTo}

-- They are rows of the text from org on, and what is known of them is true where the source is honest.
pub record AreRows (honest : Type 0) (characters : List ℕ) (text : Text ℕ) (org : ℕ)
    (rows : FrameRows) : Type 0 where
  pub read : IsReadTo honest characters text org rows.next rows.reader rows.place.row
      rows.place.column
