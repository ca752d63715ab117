-- The parts of an image that are lists, and the image.
use Rattle.std.proofs.Common.{◌≡◌, ℕ, ◌-◌, ◌<◌, ◌≤◌, ◌^◌, Bool, true, false, List, [], ◌∷◌, ◌++◌, length, Option, Some, None}
use Rattle.std.proofs.Common.{refl, sym, ap, subst, ◌∙◌, arith}
use Rattle.std.specs.Prelude.{cond, if◌then◌else◌, ◌&&◌, nat_le, nat_lt, nat_eq}
use Rattle.std.proofs.lemmas.Bool.{eqb-true}
use Rattle.std.proofs.lemmas.Bool.Decides.{nat_tests}
use Rattle.std.proofs.lemmas.List.{append-nil}
use Rattle.event_bytes.specs.Parts.{Reader, byte, word_bytes, byte_at, pair_at, TakesValue, IsPart}
use Rattle.event_bytes.proofs.EventParts.{name_part}
use Rattle.event_bytes.proofs.PartLaws.{given, some_is, bind_some, test_some, Nothing, whole, field, last, only, recast}
use Rattle.event_bytes.proofs.PartLaws.{byte_part, word_part}
use Rattle.piece_ring.specs.declared.piece.Piece.{Piece}
use Rattle.viewer_tracks.specs.declared.display.Track.{Track}
use Rattle.viewer_tracks.specs.declared.display.Track.TheVariants.{User, System}
use Rattle.viewer_tracks.specs.declared.display.TheConstants.{ROWS, DEPTH, SYSTEM_LEFT}
use Rattle.viewer_tracks.specs.Display.{left_of}
use Rattle.viewer_tracks.specs.Viewers.{Entry}
use Rattle.desktop_definitions.specs.declared.viewer.ClosedViewer.{ClosedViewer}
use Rattle.desktop_definitions.specs.Limits.{most_files, most_held}
use Rattle.desktop_definitions.specs.Tables.{Files}
use Rattle.image_format.specs.declared.picture.Ranked.{Ranked}
use Rattle.image_format.specs.declared.picture.ViewerPicture.{ViewerPicture}
use Rattle.image_format.specs.declared.limits.TheConstants.{MOST_VIEWERS}
use Rattle.image_format.specs.Image.{Image, image_with, listed_bytes, pieces_bytes, text_bytes, file_bytes, ranked_bytes}
use Rattle.image_format.specs.Image.{has_overlays, id_bytes, viewer_bytes, viewers_bytes, entry_bytes}
use Rattle.image_format.specs.Image.{track_bytes, depth_bytes}
use Rattle.image_format.specs.Image.{stack_bytes, closed_bytes, image_bytes, InByte, InLong, InId}
use Rattle.image_format.specs.Fitting.{Chain, FitsPieces, less, length_of_pieces, totals, FitsText, after_text, FitsTexts, follows}
use Rattle.image_format.specs.Fitting.{FitsFile, after_file, FitsFiles, FitsRanked, FitsViewer, after_viewer, FitsViewers}
use Rattle.image_format.specs.Fitting.{FitsEntry, above, FitsTrack, FitsLevel, overlaid, FitsStack, FitsClosed, FitsImage}
use Rattle.image_format.specs.Reading.{keyed_at}
use Rattle.image_format.specs.Reading.{pieces_at, text_at, texts_at, image_file_at, files_at, ranked_at, id_at, image_viewer_at}
use Rattle.image_format.specs.Reading.{viewers_at, raw_entry_at, is_entry, entry_at, image_track_at, level_at, depth_at}
use Rattle.image_format.specs.Reading.{stack_at, side_at, raw_closed_at, is_closed, closed_at, desktop_image_at, whole_image_at}
use Rattle.image_format.proofs.Lists.{tested, ruled, items, listed_part, optional_part}
use Rattle.image_format.proofs.Fields.{long_part, look_part, piece_part, pattern_part, cell_part}

pub pieces_part : (written room : ℕ) → InLong written
    → IsPart pieces_bytes (FitsPieces written room) (pieces_at written room)
unfolding pieces_at
pieces_part written room small = listed_part less (λ r. piece_part written r small) room long_part

-- ---- texts and files

keyed_part : {K : Type 0} {write : K → List ℕ} {Fits : K → Type 0} {read : Reader K} → IsPart write Fits read
    → (test : K → Bool) (written room : ℕ) → InLong written
    → IsPart (λ (t : K × List Piece). write t.0 ++ pieces_bytes t.1)
    (λ t. Fits t.0 × ((test t.0 ≡ true) × FitsPieces written room t.1)) (keyed_at read test written room)
keyed_part {K} part test written room small = whole (
    field _ (λ (t : K × List Piece). t.0) part (λ key _.
    tested (λ (t : K × List Piece). test t.0) (test key) (λ t known. ap test known.1) (λ _.
    last (λ (t : K × List Piece). t.1) (λ pieces. (key, pieces)) (pieces_part written room small)
    (λ pieces. (tt, refl)) (λ pieces. refl) (λ t known. ap (λ (k : K). (k, t.1)) (sym known.1)))))

pub text_part : (written : ℕ) → InLong written → (s : ℕ × ℕ)
    → IsPart text_bytes (FitsText written s) (text_at written s)
text_part written small s = keyed_part word_part (nat_le s.0) written s.1 small

pub texts_part : (written room : ℕ) → InLong written
    → IsPart (listed_bytes word_bytes text_bytes) (FitsTexts written room) (texts_at written room)
unfolding texts_at
texts_part written room small = listed_part after_text (text_part written small) (0, room) word_part

pub file_part : (written : ℕ) → InLong written → (s : Option (List ℕ) × ℕ)
    → IsPart file_bytes (FitsFile written s) (image_file_at written s)
file_part written small s = keyed_part name_part (follows s.0) written s.1 small

pub files_part : (written room : ℕ) → InLong written
    → IsPart (listed_bytes word_bytes file_bytes) (FitsFiles written room) (files_at written room)
unfolding files_at
files_part written room small =
    recast (λ files fits. (grind (arith, nat_tests, fits.1.0), fits.1.1))
    (λ files fits. (omega (arith, fits.0), (grind (arith, nat_tests, fits.0), fits.1)))
    (whole (
    field _ (λ (files : Files (List Piece)). length files) word_part (λ count _.
    tested (λ files. nat_le (length files) most_files) (nat_le count most_files)
    (λ files known. ap (λ n. nat_le n most_files) known.1)
    (λ _. items after_file (file_part written small) count (None, room)))))

-- ---- viewers

pub ranked_part : IsPart ranked_bytes FitsRanked ranked_at
unfolding ranked_at
ranked_part = whole (
    field _ (λ (r : Ranked). r.rank) byte_part (λ rank _.
    field _ (λ (r : Ranked). r.beg) long_part (λ beg _.
    last (λ (r : Ranked). r.end) (λ end. record { rank = rank; beg = beg; end = end }) long_part
    (λ end. ((tt, refl), refl)) (λ end. refl) (λ r known. rw (← known.0.1, ← known.1) refl))))

id_part_in : (overlays : Bool) → IsPart (λ n. if overlays then word_bytes n else byte n)
    (λ n. n < (if overlays then 2 ^ 16 else 2 ^ 8)) (λ bytes. if overlays then pair_at bytes else byte_at bytes)
id_part_in true = word_part
id_part_in false = byte_part

pub id_part : (version : ℕ) → IsPart (id_bytes version) (InId version) (id_at version)
unfolding id_at
id_part version = id_part_in (has_overlays version)

pub viewer_part : (version least : ℕ)
    → IsPart (viewer_bytes version) (FitsViewer version least) (image_viewer_at version least)
viewer_part version least = whole (
    field _ (λ (v : ViewerPicture). v.id) (id_part version) (λ id _.
    tested (λ (v : ViewerPicture). nat_le least v.id) (nat_le least id) (λ v known. ap (nat_le least) known.1) (λ _.
    field _ (λ (v : ViewerPicture). v.viewer.menu) word_part (λ menu _.
    field _ (λ (v : ViewerPicture). v.viewer.main) word_part (λ main _.
    field _ (λ (v : ViewerPicture). v.viewer.org) long_part (λ org _.
    field _ (λ (v : ViewerPicture). v.caret) (optional_part long_part) (λ caret _.
    last (λ (v : ViewerPicture). v.selection) (picture id menu main org caret) (optional_part ranked_part)
    (λ selection. (((((tt, refl), refl), refl), refl), refl)) (λ selection. refl)
    (λ v known. rw (← known.0.0.0.0.1, ← known.0.0.0.1, ← known.0.0.1, ← known.0.1, ← known.1) refl))))))))
  where
    picture : ℕ → ℕ → ℕ → ℕ → Option ℕ → Option Ranked → ViewerPicture
    picture id menu main org caret selection = record {
      id = id;
      viewer = record { menu = menu; main = main; org = org };
      caret = caret;
      selection = selection;
    }

pub viewers_part : (version : ℕ) → IsPart (viewers_bytes version) (FitsViewers version) (viewers_at version)
unfolding viewers_at
viewers_part version =
    recast (λ viewers fits. (fits.0, (grind (arith, nat_tests, fits.1.0), fits.1.1)))
    (λ viewers fits. (fits.0, (grind (arith, nat_tests, fits.1.0), fits.1.1)))
    (whole (
    field _ (λ (viewers : List ViewerPicture). length viewers) (id_part version) (λ count _.
    tested (λ viewers. nat_le (length viewers) MOST_VIEWERS) (nat_le count MOST_VIEWERS)
    (λ viewers known. ap (λ n. nat_le n MOST_VIEWERS) known.1)
    (λ _. items after_viewer (viewer_part version) count 0))))

-- ---- tracks

-- what an entry has that is read where so many rows are left
abbrev ReadEntry : ℕ → ℕ → Entry → Type 0
ReadEntry version room e = (InId version e.viewer × InByte e.height) × (is_entry room e ≡ true)

entry_part : (version room : ℕ) → IsPart (entry_bytes version) (ReadEntry version room) (entry_at version room)
unfolding entry_at raw_entry_at
entry_part version room = only (is_entry room) (whole (
    field _ (λ (e : Entry). e.viewer) (id_part version) (λ viewer _.
    last (λ (e : Entry). e.height) (λ height. record { viewer = viewer; height = height }) byte_part
    (λ height. (tt, refl)) (λ height. refl) (λ e known. rw (← known.1) refl))))

entries_fit : (version room : ℕ) (track : List Entry) → Chain (ReadEntry version) above room track
    → Chain (FitsEntry version) above room track
entries_fit version room [] fits = tt
entries_fit version room (e ∷ track) fits = (
  record {
    viewer = fits.0.0.0;
    some = grind (arith, nat_tests, fits.0.1);
    short = grind (arith, nat_tests, fits.0.1);
  },
  entries_fit version (above room e) track fits.1,
)

-- each entry has a row at least, so there are no more of them than rows
fits_entries : (version room : ℕ) (track : List Entry) → room ≤ ROWS → Chain (FitsEntry version) above room track
    → (length track ≤ room) × Chain (ReadEntry version) above room track
fits_entries version room [] small fits = (omega arith, tt)
fits_entries version room (e ∷ track) small fits =
    let some : 0 < e.height = fits.0.some in
    let short : e.height ≤ room = fits.0.short in
    let (count, others) = fits_entries version (above room e) track (omega (arith, small)) fits.1 in
    let height : InByte e.height = omega (arith, short, small) in
    (omega (arith, count, some, short), (((fits.0.viewer, height), grind (arith, nat_tests, some, short)), others))

pub track_part : (version : ℕ) → IsPart (track_bytes version) (FitsTrack version) (image_track_at version)
unfolding image_track_at
track_part version =
    recast (λ track fits. entries_fit version ROWS track fits.1)
    (λ track fits. let (count, others) = fits_entries version ROWS track (omega arith) fits in
    (omega (arith, count), others))
    (listed_part above (entry_part version) ROWS byte_part)

-- ---- columns

level_part : (version least : ℕ) → IsPart (track_bytes version) (FitsLevel version least) (level_at version least)
unfolding level_at
level_part version least =
    recast (λ track fits. (fits.1, fits.0)) (λ track fits. (fits.1, fits.0))
    (only (λ track. nat_le least (length track)) (track_part version))

-- what a number of tracks has that is read
abbrev IsDepth : Bool → ℕ → Type 0
IsDepth true n = InByte n
IsDepth false n = n ≡ 1

depth_part_in : (overlays : Bool) → IsPart (λ n. if overlays then byte n else []) (IsDepth overlays)
    (λ bytes. if overlays then byte_at bytes else Some (1, bytes))
depth_part_in true = byte_part
depth_part_in false = record {
  takes = λ bytes n rest e.
      subst (λ (y : ℕ × List ℕ). TakesValue (λ m. []) (IsDepth false) bytes y.0 y.1)
      (some_is {A = ℕ × List ℕ} (1, bytes) (n, rest) e) (record { fits = refl; parts = refl });
  again = λ n rest fits. ap (λ m. given {A = ℕ × List ℕ} (m, rest)) (sym fits);
}

depth_part : (version : ℕ) → IsPart (depth_bytes version) (IsDepth (has_overlays version)) (depth_at version)
unfolding depth_at
depth_part version = depth_part_in (has_overlays version)

-- as many tracks as a column may have
abbrev is_depth : ℕ → Bool
is_depth n = nat_lt 0 n && nat_le n DEPTH

some_deep : (overlays : Bool) (n : ℕ) → IsDepth overlays n → is_depth n ≡ true
    → (0 < n) × (n ≤ (if overlays then DEPTH else 1))
some_deep true n small test = (grind (arith, nat_tests, test), grind (arith, nat_tests, test))
some_deep false n one test = (omega (arith, one), omega (arith, one))

deep_enough : (overlays : Bool) (n : ℕ) → 0 < n → n ≤ (if overlays then DEPTH else 1)
    → IsDepth overlays n × (is_depth n ≡ true)
deep_enough true n some few = (omega (arith, few), grind (arith, nat_tests, some, few))
deep_enough false n some few =
    let one : n ≡ 1 = omega (arith, some, few) in
    (one, grind (arith, nat_tests, one))

pub stack_part : (version : ℕ) → IsPart (stack_bytes version) (FitsStack version) (stack_at version)
unfolding stack_at
stack_part version =
    recast
    (λ stack fits. let (some, few) = some_deep (has_overlays version) (length stack) fits.0 fits.1.0 in
    (some, (few, fits.1.1)))
    (λ stack fits. let (depth, test) = deep_enough (has_overlays version) (length stack) fits.0 fits.1.0 in
    (depth, (test, fits.1.1)))
    (whole (
    field _ (λ (stack : List (List Entry)). length stack) (depth_part version) (λ depth _.
    tested (λ stack. is_depth (length stack)) (is_depth depth) (λ stack known. ap is_depth known.1)
    (λ _. items overlaid (level_part version) depth 0))))

-- ---- the viewer that was closed last

-- by what the column says
sided : (n : ℕ) (user system : Bool) (bytes : List ℕ) (y : Track × List ℕ) → (user ≡ true → n ≡ 0)
    → (system ≡ true → n ≡ SYSTEM_LEFT)
    → cond user (given {A = Track × List ℕ} (User, bytes)) (cond system (given (System, bytes)) None) ≡ Some y
    → n ∷ bytes ≡ left_of y.0 ∷ y.1
sided n true system bytes y left right e =
    subst (λ (y : Track × List ℕ). n ∷ bytes ≡ left_of y.0 ∷ y.1)
    (some_is {A = Track × List ℕ} (User, bytes) y e) (ap (λ m. m ∷ bytes) (left refl))
sided n false true bytes y left right e =
    subst (λ (y : Track × List ℕ). n ∷ bytes ≡ left_of y.0 ∷ y.1)
    (some_is {A = Track × List ℕ} (System, bytes) y e) (ap (λ m. m ∷ bytes) (right refl))
sided n false false bytes y left right e = absurd cc

side_again : (t : Track) (rest : List ℕ) → Unit {0} → side_at (byte (left_of t) ++ rest) ≡ Some (t, rest)
unfolding side_at byte_at
side_again User rest fits = refl
side_again System rest fits = refl

side_part : IsPart (λ t. byte (left_of t)) Nothing side_at
unfolding side_at
side_part = record {
  takes = λ bytes t rest e.
      let (x, x_is, e1) = bind_some (byte_at bytes) _ _ e in
      let first = byte_part.takes bytes x.0 x.1 x_is in
      record {
        fits = tt;
        parts = first.parts
            ∙ sided x.0 (nat_eq x.0 0) (nat_eq x.0 SYSTEM_LEFT) x.1 (t, rest) (eqb-true x.0 0)
            (eqb-true x.0 SYSTEM_LEFT) e1;
      };
  again = side_again;
}

abbrev RawClosed : ℕ → ClosedViewer → Type 0
RawClosed version k = InId version k.viewer × (Unit {0} × InByte k.top)

closed_fits : (version : ℕ) (k : ClosedViewer) → RawClosed version k × (is_closed k ≡ true) → FitsClosed version k
closed_fits version k (raw, test) = (raw.0, (grind (arith, nat_tests, test), grind (arith, nat_tests, test)))

fits_closed : (version : ℕ) (k : ClosedViewer) → FitsClosed version k → RawClosed version k × (is_closed k ≡ true)
fits_closed version k (viewer, (some, top)) = ((viewer, (tt, omega (arith, top))), grind (arith, nat_tests, some, top))

pub closed_part : (version : ℕ) → IsPart (closed_bytes version) (FitsClosed version) (closed_at version)
unfolding closed_at raw_closed_at
closed_part version =
    recast (closed_fits version) (fits_closed version) (only is_closed (whole (
    field _ (λ (k : ClosedViewer). k.viewer) (id_part version) (λ viewer _.
    field _ (λ (k : ClosedViewer). k.track) side_part (λ track _.
    last (λ (k : ClosedViewer). k.top) (λ top. record { viewer = viewer; track = track; top = top }) byte_part
    (λ top. ((tt, refl), refl)) (λ top. refl) (λ k known. rw (← known.0.1, ← known.1) refl))))))

-- ---- images

pub image_part : (version written : ℕ) → InLong written
    → IsPart (image_bytes version) (FitsImage version written) (desktop_image_at version written)
unfolding image_bytes FitsImage desktop_image_at
image_part version written small = whole (
    field _ (λ (i : Image). i.look) look_part (λ look _.
    field _ (λ (i : Image). i.pattern) pattern_part (λ pattern _.
    field _ (λ (i : Image). i.marker) (optional_part cell_part) (λ marker _.
    field _ (λ (i : Image). i.texts) (texts_part written most_held small) (λ texts _.
    let room = most_held - totals texts in
    ruled (FitsFiles written) _ (λ (i : Image). i.files) (λ i. most_held - totals i.texts) room
    (λ i known. ap (λ t. most_held - totals t) known.1) (files_part written room small) (λ files _.
    let room = most_held - totals texts - totals files in
    ruled (FitsPieces written) _ (λ (i : Image). i.copied) (λ i. most_held - totals i.texts - totals i.files) room
    (λ i known. rw (known.0.1, known.1) refl) (pieces_part written room small) (λ copied _.
    let room = most_held - totals texts - totals files - length_of_pieces copied in
    ruled (FitsPieces written) _ (λ (i : Image). i.deleted)
    (λ i. most_held - totals i.texts - totals i.files - length_of_pieces i.copied) room
    (λ i known. rw (known.0.0.1, known.0.1, known.1) refl) (pieces_part written room small) (λ deleted _.
    field _ (λ (i : Image). i.viewers) (viewers_part version) (λ viewers _.
    field _ (λ (i : Image). i.user) (stack_part version) (λ user _.
    field _ (λ (i : Image). i.system) (stack_part version) (λ system _.
    last (λ (i : Image). i.closed) (λ closed. image_with (look, pattern, marker)
    (texts, files, copied, deleted) viewers (user, system, closed))
    (optional_part (closed_part version))
    (λ closed. ((((((((((tt, refl), refl), refl), refl), refl), refl), refl), refl), refl), refl)) (λ closed. refl)
    (λ i known. rw (
      ← known.0.0.0.0.0.0.0.0.0.1,
      ← known.0.0.0.0.0.0.0.0.1,
      ← known.0.0.0.0.0.0.0.1,
      ← known.0.0.0.0.0.0.1,
      ← known.0.0.0.0.0.1,
      ← known.0.0.0.0.1,
      ← known.0.0.0.1,
      ← known.0.0.1,
      ← known.0.1,
      ← known.1,
    ) refl))))))))))))

-- ---- an image, and no byte after it

pub whole_takes : (version written : ℕ) (bytes : List ℕ) (i : Image) → InLong written
    → whole_image_at version written bytes ≡ Some (i, [])
    → FitsImage version written i × (bytes ≡ image_bytes version i)
unfolding whole_image_at
whole_takes version written bytes i small e =
    let (x, x_is, e1) = bind_some (desktop_image_at version written bytes) _ _ e in
    let (none_left, e2) = test_some (nat_eq (length x.1) 0) (given {A = Image × List ℕ} x) (i, []) e1 in
    let t = (image_part version written small).takes bytes i [] (x_is ∙ e2) in
    (t.fits, t.parts ∙ append-nil (image_bytes version i))

pub whole_again : (version written : ℕ) (bytes : List ℕ) (i : Image) → InLong written → FitsImage version written i
    → bytes ≡ image_bytes version i → whole_image_at version written bytes ≡ Some (i, [])
unfolding whole_image_at
whole_again version written bytes i small fits exact =
    let read : desktop_image_at version written bytes ≡ Some (i, []) =
    ap (desktop_image_at version written) (exact ∙ sym (append-nil (image_bytes version i)))
    ∙ (image_part version written small).again i [] fits in
    rw read refl
