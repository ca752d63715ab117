-- Going over the parts of a desktop that stand in its image.
use Rattle.std.proofs.Common.{◌≡◌, ℕ, ◌+◌, ◌-◌, ◌<◌, ◌≤◌, ◌^◌, List, [], ◌∷◌, length, drop, Some, ap, sym, ◌∙◌}
use Rattle.std.proofs.Common.{add-one, arith}
use Rattle.std.proofs.Common.{slice_index_or, ◌++◌, map, refl}
use Rattle.std.proofs.lemmas.List.{append_assoc, length-reverse}
use Rattle.event_bytes.specs.Parts.{byte, word_bytes, counted_bytes}
use Rattle.viewer_tracks.specs.declared.display.Track.{Track}
use Rattle.viewer_tracks.specs.declared.display.Track.TheVariants.{User, System}
use Rattle.viewer_tracks.specs.Viewers.{Entry}
use Rattle.viewer_tracks.specs.Columns.{stack_of, track_on}
use Rattle.std.specs.Prelude.{slice_get, reverse}
use Rattle.std.proofs.Math.Seq.{drop-cons}
use Rattle.std.proofs.lemmas.Option.{slice_get_within, get_or_from_slice_get}
use Rattle.desktop_definitions.specs.Limits.{newest_version}
use Rattle.desktop_definitions.specs.Desktop.{KeptDesktop}
use Rattle.desktop_definitions.specs.Seen.{seen, seen_text, seen_table}
use Rattle.desktop_definitions.specs.Sound.{IsKeptWhole}
use Rattle.desktop_definitions.proofs.FewLaws.{few_texts}
use Rattle.desktop_definitions.proofs.OpeningDone.{kept_viewers}
use Rattle.desktop_definitions.proofs.TableLaws.{length_seen}
use Rattle.desk_core.proofs.ViewLemmas.{few}
use Rattle.image_format.specs.declared.limits.TheConstants.{IMAGE_BYTES}
use Rattle.image_format.specs.Image.{look_bytes, cell_bytes, optional, listed_bytes, text_bytes, file_bytes, pieces_bytes}
use Rattle.image_format.specs.Image.{viewers_bytes, stack_bytes, closed_bytes, picture_of, image_of, image_bytes, deepest}
use Rattle.image_format.specs.Image.{IsSpellable}
use Rattle.image_format.specs.Laws.{RoomLaw}
use Rattle.desktop_image.specs.Images.{CanBeImaged, settings_long, tables_long, display_long}
use Rattle.image_format.proofs.Counting.{long_image}

-- ---- one element after another

pub from_here : {X : Type 0} (xs : List X) (i : ℕ) (d : X) → i < length xs
    → drop i xs ≡ slice_index_or xs i d ∷ drop (i + 1) xs
from_here xs i d low = rw add-one (drop-cons xs i d low)

pub from_there : {X : Type 0} (xs : List X) (i : ℕ) (x : X) → slice_get xs i ≡ Some x → drop i xs ≡ x ∷ drop (i + 1) xs
from_there {X} xs i x is =
    from_here xs i x (slice_get_within xs i x is)
    ∙ ap (λ (y : X). y ∷ drop (i + 1) xs) (get_or_from_slice_get xs i x x is)

-- the track of a level, from the lowest up
pub level_from : (s : List (List Entry)) (below : ℕ) → below < length s
    → drop below (reverse s) ≡ track_on s (below + 1) ∷ drop (below + 1) (reverse s)
level_from s below low =
    let same = length-reverse s in
    let place : below + 1 - 1 ≡ below = omega arith in
    from_here (reverse s) below [] (omega (arith, same, low))
    ∙ ap (λ (n : ℕ). slice_index_or (reverse s) n [] ∷ drop (below + 1) (reverse s)) (sym place)

-- ---- what of a desktop's parts their writers ask for

module _ (d : KeptDesktop) (whole : IsKeptWhole d) where
  pub short_pattern : length d.pattern < 2 ^ 8
  unfolding seen
  short_pattern = let short : length d.pattern ≤ 31 = (whole.sound []).shaped.pattern in omega (arith, short)

  some_texts : length d.texts < 2 ^ 16
  unfolding seen
  some_texts =
      let few = few_texts (seen [] d) (whole.sound []).shaped.viewers.numbers (whole.sound []).shown in
      let same = length_seen (seen_text []) d.texts in
      let viewers = kept_viewers d whole in
      omega (arith, few, same, viewers)

  some_files : length d.files < 2 ^ 16
  unfolding seen
  some_files =
      let few : length (seen_table [] d.files) ≤ 256 = (whole.sound []).shaped.files.few in
      let same = length_seen (seen_text []) d.files in
      omega (arith, few, same)

  few_levels : (k : Track) → length (stack_of d.columns k) ≤ deepest newest_version
  unfolding seen
  few_levels User = (whole.sound []).shaped.places.columns_hold.user.few
  few_levels System = (whole.sound []).shaped.places.columns_hold.system.few

  pub are_ready : CanBeImaged d
  unfolding seen
  are_ready =
      let shaped = (whole.sound []).shaped in
      let viewers_few = kept_viewers d whole in
      record {
        look = shaped.looks.look;
        pattern = short_pattern;
        texts = record { few = some_texts; looks = shaped.looks.texts };
        files = record { few = some_files; looks = shaped.looks.files };
        copied = shaped.looks.copied;
        deleted = shaped.looks.deleted;
        viewers = omega (arith, viewers_few);
        selections = few d whole;
        levels = few_levels;
      }

-- ---- the whole image, in three groups

abbrev pub settings_bytes : KeptDesktop → List ℕ
settings_bytes d = look_bytes d.look ++ (counted_bytes byte d.pattern ++ optional cell_bytes d.marker)

abbrev pub tables_bytes : KeptDesktop → List ℕ
tables_bytes d = listed_bytes word_bytes text_bytes d.texts ++ (listed_bytes word_bytes file_bytes d.files
    ++ (pieces_bytes d.copied ++ pieces_bytes d.deleted))

abbrev pub display_bytes : KeptDesktop → List ℕ
display_bytes d = viewers_bytes newest_version (map (picture_of d.caret d.selections) d.viewers)
    ++ (stack_bytes newest_version (reverse (stack_of d.columns User))
    ++ (stack_bytes newest_version (reverse (stack_of d.columns System))
    ++ optional (closed_bytes newest_version) d.closed))

grouped : (a b c d e f g h k l m : List ℕ)
    → (a ++ (b ++ c)) ++ ((d ++ (e ++ (f ++ g))) ++ (h ++ (k ++ (l ++ m))))
    ≡ a ++ (b ++ (c ++ (d ++ (e ++ (f ++ (g ++ (h ++ (k ++ (l ++ m)))))))))
grouped a b c d e f g h k l m = simp append_assoc

pub image_in_three : (d : KeptDesktop)
    → settings_bytes d ++ (tables_bytes d ++ display_bytes d) ≡ image_bytes newest_version (image_of d)
unfolding image_bytes image_of
image_in_three d =
    grouped (look_bytes d.look) (counted_bytes byte d.pattern) (optional cell_bytes d.marker)
    (listed_bytes word_bytes text_bytes d.texts) (listed_bytes word_bytes file_bytes d.files)
    (pieces_bytes d.copied) (pieces_bytes d.deleted)
    (viewers_bytes newest_version (map (picture_of d.caret d.selections) d.viewers))
    (stack_bytes newest_version (reverse (stack_of d.columns User)))
    (stack_bytes newest_version (reverse (stack_of d.columns System)))
    (optional (closed_bytes newest_version) d.closed)

-- how long it is, as its parts are counted
pub image_long : (d : KeptDesktop)
    → length (image_bytes newest_version (image_of d)) ≡ settings_long d + (tables_long d + display_long d)
unfolding image_of
image_long d = let long = long_image newest_version (image_of d) in omega (arith, long)

pub has_room : (d : KeptDesktop) → IsKeptWhole d → IsSpellable newest_version d → RoomLaw
    → length (image_bytes newest_version (image_of d)) ≤ IMAGE_BYTES
has_room d whole parts room =
    let low = room newest_version d.written (image_bytes newest_version (image_of d)) d
    (record { count = refl; whole = whole; parts = parts; exact = refl }) in
    omega (arith, low)
