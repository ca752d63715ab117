-- The parts of a desktop that holds together fit.
use Rattle.std.specs.Prelude.{ℕ, ◌+◌, ◌-◌, ◌<◌, ◌≤◌, List, [], length, All, IfSome, Option, Some, None}
use Rattle.std.specs.Option.{ForSome}
use Rattle.std.specs.List.Sorted.{IsStrictlySortedBy}
use Rattle.std.specs.Ordering.{nat_cmp}
use Rattle.std.proofs.Common.{refl, sym, subst, arith}
use Rattle.std.proofs.lemmas.Map.Made.{keys_of-map_values}
use Rattle.viewer_tracks.specs.declared.display.TheConstants.{ROWS, COLUMNS}
use Rattle.viewer_tracks.specs.declared.display.Track.TheVariants.{User, System}
use Rattle.desktop_definitions.specs.Limits.{most_held}
use Rattle.desktop_definitions.specs.Tables.{name_cmp, lengths}
use Rattle.desktop_definitions.specs.Desktop.{Desktop, KeptDesktop, characters_held}
use Rattle.desktop_definitions.specs.Seen.{seen, seen_text, seen_table}
use Rattle.desktop_definitions.specs.Sound.{IsKeptWhole, IsSound, HasLooks}
use Rattle.image_format.specs.Image.{InWord, IsSpellable, image_of}
use Rattle.image_format.specs.Fitting.{FitsCell, FitsTexts, FitsFiles, FitsImage, length_of_pieces, totals}
use Rattle.image_format.proofs.PieceFits.{pieces_fit}
use Rattle.image_format.proofs.Room.{IsShort, short_image, most_texts}
use Rattle.image_format.proofs.TableFits.{text_fits, table_fits, texts_fit, files_fit}
use Rattle.image_format.proofs.ViewersFit.{AreSmall, viewers_fit, column_fits, closed_fits}

cell_fits : (marker : Option (ℕ × ℕ)) → ForSome marker (λ m. (m.0 < COLUMNS) × (m.1 < ROWS)) → IfSome marker FitsCell
cell_fits None within = tt
cell_fits (Some m) within = within m refl

-- the texts of a table have no more characters than the desktop holds
texts_low : (e : Desktop) → characters_held e ≤ most_held → lengths e.texts ≤ most_held
unfolding characters_held
texts_low e low = omega (arith, low)

small : (version : ℕ) (d : KeptDesktop) → IsKeptWhole d → IsSpellable version d
    → AreSmall version (seen_table [] d.texts) d.viewers d.columns d.closed d.caret d.selections
unfolding seen
small version d whole parts =
    let sound : IsSound (seen [] d) = whole.sound [] in
    let shaped = sound.shaped in
    record {
      numbers = subst (λ (numbers : List ℕ). All InWord numbers) (sym (keys_of-map_values (seen_text []) d.texts))
          parts.tables.numbers;
      ids = parts.ids;
      user = parts.user;
      system = parts.system;
      low = texts_low (seen [] d) sound.held_within;
      viewers_hold = shaped.viewers;
      places = shaped.places;
      marks = shaped.marks;
    }

pub desktop_fits : (version : ℕ) (d : KeptDesktop) → IsKeptWhole d → IsSpellable version d
    → FitsImage version d.written (image_of d)
unfolding FitsImage image_of seen
desktop_fits version d whole parts =
    let sound : IsSound (seen [] d) = whole.sound [] in
    let shaped = sound.shaped in
    let looks : HasLooks (seen [] d) = shaped.looks in
    let within = whole.within in
    let are = small version d whole parts in
    let short : IsShort (image_of d) = short_image version d whole parts in
    let few : length d.texts ≤ most_texts = short.texts in
    let low : totals d.texts + totals d.files + length_of_pieces d.copied + length_of_pieces d.deleted ≤ most_held = short.low in
    let numbers = subst (λ (numbers : List ℕ). IsStrictlySortedBy nat_cmp numbers)
    (keys_of-map_values (seen_text []) d.texts) shaped.viewers.numbers in
    let rising = subst (λ (names : List (List ℕ)). IsStrictlySortedBy name_cmp names)
    (keys_of-map_values (seen_text []) d.files) shaped.files.rising in
    let texts : FitsTexts d.written most_held d.texts = (
      omega (arith, few),
      texts_fit d.written most_held d.texts parts.tables.numbers numbers
          (table_fits [] d.written d.texts parts.tables.texts within.texts looks.texts) (omega (arith, low)) (omega arith),
    ) in
    let files : FitsFiles d.written (most_held - totals d.texts) d.files = (
      short.files,
      files_fit d.written (most_held - totals d.texts) d.files short.names rising
          (table_fits [] d.written d.files parts.tables.files within.files looks.files) (omega (arith, low)) (omega arith),
    ) in
    let copied = pieces_fit d.written (most_held - totals d.texts - totals d.files) d.copied
    (text_fits [] d.written d.copied parts.tables.copied within.copied looks.copied) (omega (arith, low)) (omega arith) in
    let deleted = pieces_fit d.written (most_held - totals d.texts - totals d.files - length_of_pieces d.copied) d.deleted
    (text_fits [] d.written d.deleted parts.tables.deleted within.deleted looks.deleted) (omega (arith, low)) (omega arith) in
    let viewers = viewers_fit version (seen_table [] d.texts) d.viewers d.columns d.closed d.caret d.selections are in
    let user = column_fits version (seen_table [] d.texts) d.viewers d.columns d.closed d.caret d.selections are User in
    let system =
    column_fits version (seen_table [] d.texts) d.viewers d.columns d.closed d.caret d.selections are System in
    let closed = closed_fits version (seen_table [] d.texts) d.viewers d.columns d.closed d.caret d.selections are in
    let marker = cell_fits d.marker shaped.marker in
    (looks.look, (shaped.pattern, (marker, (texts, (files, (copied, (deleted, (viewers, (user, (system, closed))))))))))
