-- What is known of rows that are read stays so where a call leaves the characters.
use Rattle.std.specs.Prelude.{◌≡◌, ℕ, List}
use Rattle.std.proofs.Common.{sym, ◌∙◌}
use Rattle.piece_ring.specs.Text.{Text}
use Rattle.readers_scanners.specs.Reading.{bytes_of_text, Reading}
use Rattle.text_frames.specs.declared.rows.FrameRows.{FrameRows}
use Rattle.text_frames.specs.Cells.{row_of, column_of}
use Rattle.text_frames.specs.Reading.{IsReadTo}
use Rattle.text_frames.specs.Rows.{AreRows}

-- the same over characters that a call has left as they were
pub read_still : (honest later : Type 0) (characters rest : List ℕ) (text : Text ℕ) (org next : ℕ) (reader : Reading)
    (r column : ℕ) → (later → honest) → (honest → rest ≡ characters)
    → IsReadTo honest characters text org next reader r column
    → IsReadTo later rest text org next reader r column
read_still honest later characters rest text org next reader r column already same is = record {
  same = is.same;
  from = is.from;
  within = is.within;
  few = is.few;
  short = is.short;
  high = is.high;
  in_row = λ h. is.in_row (already h)
      ∙ (λ k. row_of (bytes_of_text (sym (same (already h)) k) text) org reader.position);
  in_column = λ h. is.in_column (already h)
      ∙ (λ k. column_of (bytes_of_text (sym (same (already h)) k) text) org reader.position);
  passed = λ h p low high. rw (same (already h)) (is.passed (already h) p low high);
}

-- a call that has left the characters as they were has left this
pub rows_still : (honest later : Type 0) (characters rest : List ℕ) (text : Text ℕ) (org : ℕ) (rows : FrameRows)
    → (later → honest) → (honest → rest ≡ characters) → AreRows honest characters text org rows
    → AreRows later rest text org rows
rows_still honest later characters rest text org rows already same are = record {
  read = read_still honest later characters rest text org rows.next rows.reader rows.place.row rows.place.column
      already same are.read;
}
