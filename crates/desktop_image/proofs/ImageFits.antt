-- What holds of the parts of an image that fit.
use Rattle.std.proofs.Common.{◌≡◌, ℕ, suc, zero, ◌+◌, ◌-◌, ◌<◌, ◌≤◌, ◌∙◌, Bool, true, false, List, [], ◌∷◌, length, sum_by}
use Rattle.std.proofs.Common.{Option, Some, refl, sym, ap, subst, arith, length-append, get_or}
use Rattle.std.specs.Prelude.{All, IsTrue, nat_le, reverse, if◌then◌else◌}
use Rattle.std.specs.List.{AllByRecursion}
use Rattle.std.specs.List.Sorted.{IsStrictlySortedBy}
use Rattle.std.specs.Map.{keys_of, values_of}
use Rattle.std.specs.Ordering.{nat_cmp, is_lt}
use Rattle.std.specs.declared.cmp.Ordering.{Ordering}
use Rattle.std.specs.declared.cmp.Ordering.TheVariants.{Less, Equal, Greater}
use Rattle.std.proofs.lemmas.Bool.{leb-true}
use Rattle.std.proofs.lemmas.Bool.Decides.{nat_tests}
use Rattle.std.proofs.lemmas.Cmp.{nat_cmp_total, lists_total}
use Rattle.std.proofs.lemmas.List.{length-reverse, reverse-reverse}
use Rattle.std.proofs.lemmas.List.Elements.{All-nil, All-cons, All-append}
use Rattle.std.proofs.lemmas.List.Sums.{sum_by-cons}
use Rattle.event_bytes.specs.Bytes.{is_name}
use Rattle.piece_ring.specs.declared.piece.Look.{Look}
use Rattle.piece_ring.specs.declared.piece.Piece.{Piece}
use Rattle.piece_ring.specs.Flat.{flat, run, characters_of}
use Rattle.piece_ring.proofs.Lengths.{length-run}
use Rattle.piece_ring.proofs.Offsets.{run-AreWithin, append-AreWithin}
use Rattle.piece_ring.specs.Text.{Text, AreWithin, renamed}
use Rattle.viewer_tracks.specs.declared.display.TheConstants.{ROWS, DEPTH}
use Rattle.viewer_tracks.specs.Viewers.{Entry, IsTrack}
use Rattle.viewer_tracks.specs.Columns.{IsStack}
use Rattle.desktop_definitions.specs.Looks.{IsLook, AreLooks}
use Rattle.desktop_definitions.specs.Tables.{Texts, Files, name_cmp}
use Rattle.desktop_definitions.proofs.TableLaws.{kept_lengths}
use Rattle.image_format.specs.declared.picture.ViewerPicture.{ViewerPicture}
use Rattle.image_format.specs.Image.{InWord, InId, AreSome, has_overlays}
use Rattle.image_format.specs.Fitting.{Chain, FitsPiece, FitsText, FitsFile, FitsViewer, FitsEntry, less, length_of_pieces, totals}
use Rattle.image_format.specs.Fitting.{FitsTrack, FitsLevel, FitsStack, after_text, after_file, after_viewer, above}
use Rattle.image_format.specs.Fitting.{overlaid, follows}
use Rattle.image_format.proofs.Lists.{all_reversed}
use Rattle.desktop_image.specs.Images.{viewers_of}

-- ---- pieces

run_looks : (off len : ℕ) (look : Look) → IsLook look → AreLooks (run off len look)
run_looks off zero look is = All-nil (λ (c : ℕ × Look). IsLook c.1)
run_looks off (suc len) look is = All-cons (λ (c : ℕ × Look). IsLook c.1) (off, look) (run (suc off) len look) is
    (run_looks (suc off) len look is)

-- What is known of pieces that fit.
pub record AreFit (written : ℕ) (pieces : List Piece) : Type 0 where
  pub some : AreSome pieces
  pub within : AreWithin written (flat pieces)
  pub looks : AreLooks (flat pieces)

pub pieces_fit : (written room : ℕ) (pieces : List Piece) → Chain (FitsPiece written) less room pieces
    → AreFit written pieces
pieces_fit written room [] chain = record {
  some = All-nil (λ (p : Piece). 0 < p.len);
  within = All-nil (λ (c : ℕ × Look). c.0 < written);
  looks = All-nil (λ (c : ℕ × Look). IsLook c.1);
}
pieces_fit written room (p ∷ ps) chain =
    let rest = pieces_fit written (less room p) ps chain.1 in
    record {
      some = All-cons (λ (q : Piece). 0 < q.len) p ps chain.0.some rest.some;
      within = append-AreWithin written (characters_of p) (flat ps)
          (run-AreWithin written p.off p.len p.look chain.0.inside) rest.within;
      looks = All-append (λ (c : ℕ × Look). IsLook c.1) (characters_of p) (flat ps)
          (run_looks p.off p.len p.look chain.0.look) rest.looks;
    }

pub total_fits : (written room : ℕ) (pieces : List Piece) → Chain (FitsPiece written) less room pieces
    → length_of_pieces pieces ≤ room
total_fits written room [] chain = omega arith
total_fits written room (p ∷ ps) chain =
    let rest = total_fits written (less room p) ps chain.1 in
    let sum = sum_by-cons (λ (q : Piece). q.len) p ps in
    let short = chain.0.short in
    omega (arith, rest, sum, short)

pub length_flat : (pieces : List Piece) → length (flat pieces) ≡ length_of_pieces pieces
length_flat [] = refl
length_flat (p ∷ ps) = length-append (characters_of p) (flat ps)
    ∙ (λ k. length-run p.off p.len p.look k + length_flat ps k)
    ∙ sym (sum_by-cons (λ (q : Piece). q.len) p ps)

pub kept_totals : {K : Type 0} (table : List (K × List Piece)) → kept_lengths table ≡ totals table
kept_totals [] = refl
kept_totals {K} (e ∷ es) = sum_by-cons (λ (pieces : List Piece). length (flat pieces)) e.1 (values_of es)
    ∙ (λ k. length_flat e.1 k + kept_totals es k) ∙ sym (sum_by-cons (λ (x : K × List Piece). length_of_pieces x.1) e es)

-- looks are seen as they are kept
pub seen_looks : {X Y : Type 0} (f : X → Y) (text : Text X) → AreLooks text → AreLooks (renamed f text)
seen_looks {X} {Y} f [] looks = All-nil (λ (c : Y × Look). IsLook c.1)
seen_looks {X} {Y} f (c ∷ text) looks = All-cons (λ (d : Y × Look). IsLook d.1) (f c.0, c.1) (renamed f text)
    (looks 0 c (omega arith)) (seen_looks f text (λ i d low. looks (suc i) d (omega (arith, low))))

-- ---- keys that rise

lower : (m n : ℕ) → m < n → nat_cmp m n ≡ Less
lower m n low = grind (arith, nat_tests)

-- Keys rise, each above all of which this holds.
pub record RiseAbove {K : Type 0} (compare : K → K → Ordering) (Low : K → Type 0) (keys : List K) : Type 0 where
  pub above : (low : K) → Low low → AllByRecursion (λ key. compare low key ≡ Less) keys
  pub rising : IsStrictlySortedBy compare keys

none_rise : {K : Type 0} (compare : K → K → Ordering) (Low : K → Type 0) → RiseAbove compare Low []
unfolding IsStrictlySortedBy
none_rise compare Low = record { above = λ low is. tt; rising = tt }

more_rise : {K : Type 0} (compare : K → K → Ordering) (Low Later : K → Type 0) (key : K) (keys : List K)
    → RiseAbove compare Later keys → Later key
    → ((low : K) → Low low → AllByRecursion (λ k. compare low k ≡ Less) (key ∷ keys))
    → RiseAbove compare Low (key ∷ keys)
unfolding IsStrictlySortedBy
more_rise compare Low Later key keys rest here above = record {
  above = above;
  rising = (rest.above key here, rest.rising);
}

-- of numbers, from one on
numbers_rise : (least n : ℕ) (numbers : List ℕ) → nat_le least n ≡ true
    → RiseAbove nat_cmp (λ low. low < n + 1) numbers → RiseAbove nat_cmp (λ low. low < least) (n ∷ numbers)
numbers_rise least n numbers test rest =
    let from : least ≤ n = leb-true least n test in
    more_rise nat_cmp (λ low. low < least) (λ low. low < n + 1) n numbers rest (omega arith) (λ low is. (
      lower low n (omega (arith, is, from)),
      rest.above low (omega (arith, is, from)),
    ))

-- ---- texts and files

-- What is known of a table of pieces that fit.
pub record AreTableFit {K : Type 0} (written room : ℕ) (table : List (K × List Piece)) : Type 0 where
  pub each : All (AreFit written) (values_of table)
  pub fits : totals table ≤ room

none_fit : {K : Type 0} (written room : ℕ) → AreTableFit {K = K} written room []
none_fit written room = record { each = All-nil (AreFit written); fits = omega arith }

more_fit : {K : Type 0} (written room : ℕ) (e : K × List Piece) (table : List (K × List Piece))
    → Chain (FitsPiece written) less room e.1 → AreTableFit written (room - length_of_pieces e.1) table
    → AreTableFit written room (e ∷ table)
more_fit {K} written room e table chain rest =
    let short = total_fits written room e.1 chain in
    let sum = sum_by-cons (λ (x : K × List Piece). length_of_pieces x.1) e table in
    let fewer = rest.fits in
    record {
      each = All-cons (AreFit written) e.1 (values_of table) (pieces_fit written room e.1 chain) rest.each;
      fits = omega (arith, short, sum, fewer);
    }

-- What is known of a table of texts that fit.
pub record AreTextsFit (written least room : ℕ) (texts : Texts (List Piece)) : Type 0 where
  pub pieces : AreTableFit written room texts
  pub numbers : RiseAbove nat_cmp (λ low. low < least) (keys_of texts)
  pub words : All InWord (keys_of texts)

pub texts_fit : (written least room : ℕ) (texts : Texts (List Piece))
    → Chain (FitsText written) after_text (least, room) texts → AreTextsFit written least room texts
texts_fit written least room [] chain = record {
  pieces = none_fit written room;
  numbers = none_rise nat_cmp (λ low. low < least);
  words = All-nil InWord;
}
texts_fit written least room (t ∷ texts) chain =
    let here = chain.0 in
    let word : InWord t.0 = here.0 in
    let rest = texts_fit written (t.0 + 1) (room - length_of_pieces t.1) texts chain.1 in
    record {
      pieces = more_fit written room t texts here.1.1.1 rest.pieces;
      numbers = numbers_rise least t.0 (keys_of texts) here.1.0 rest.numbers;
      words = All-cons InWord t.0 (keys_of texts) word rest.words;
    }

is_less : (o : Ordering) → is_lt o ≡ true → o ≡ Less
is_less Less is = refl
is_less Equal is = absurd cc
is_less Greater is = absurd cc

-- What is known of a table of files that fit.
pub record AreFilesFit (written : ℕ) (before : Option (List ℕ)) (room : ℕ) (files : Files (List Piece)) : Type 0 where
  pub pieces : AreTableFit written room files
  pub rise : RiseAbove name_cmp (λ low. before ≡ Some low) (keys_of files)
  pub names : All (λ name. IsTrue (is_name name)) (keys_of files)

all_above : (low first : List ℕ) (names : List (List ℕ)) → name_cmp low first ≡ Less
    → AllByRecursion (λ name. name_cmp first name ≡ Less) names
    → AllByRecursion (λ name. name_cmp low name ≡ Less) names
all_above low first [] less above = tt
all_above low first (n ∷ names) less above =
    ((lists_total nat_cmp_total).trans low first n less above.0, all_above low first names less above.1)

pub files_fit : (written : ℕ) (before : Option (List ℕ)) (room : ℕ) (files : Files (List Piece))
    → Chain (FitsFile written) after_file (before, room) files → AreFilesFit written before room files
files_fit written before room [] chain = record {
  pieces = none_fit written room;
  rise = none_rise name_cmp (λ low. before ≡ Some low);
  names = All-nil (λ name. IsTrue (is_name name));
}
files_fit written before room (f ∷ files) chain =
    let here = chain.0 in
    let rest = files_fit written (Some f.0) (room - length_of_pieces f.1) files chain.1 in
    record {
      pieces = more_fit written room f files here.1.1.1 rest.pieces;
      rise = more_rise name_cmp (λ low. before ≡ Some low) (λ low. Some f.0 ≡ Some low) f.0 (keys_of files) rest.rise
          refl (λ low is.
          let less : name_cmp low f.0 ≡ Less = is_less (name_cmp low f.0)
          (ap (λ (b : Option (List ℕ)). follows b f.0) (sym is) ∙ here.1.0) in
          (less, all_above low f.0 (keys_of files) less (rest.rise.above f.0 refl)));
      names = All-cons (λ name. IsTrue (is_name name)) f.0 (keys_of files) here.0 rest.names;
    }

-- ---- viewers

-- What is known of viewers that fit.
pub record AreViewersFit (version least : ℕ) (pictures : List ViewerPicture) : Type 0 where
  pub numbers : RiseAbove nat_cmp (λ low. low < least) (keys_of (viewers_of pictures))
  pub ids : All (InId version) (keys_of (viewers_of pictures))

pub viewers_fit : (version least : ℕ) (pictures : List ViewerPicture)
    → Chain (FitsViewer version) after_viewer least pictures → AreViewersFit version least pictures
viewers_fit version least [] chain = record {
  numbers = none_rise nat_cmp (λ low. low < least);
  ids = All-nil (InId version);
}
viewers_fit version least (p ∷ pictures) chain =
    let here = chain.0 in
    let rest = viewers_fit version (p.id + 1) pictures chain.1 in
    record {
      numbers = numbers_rise least p.id (keys_of (viewers_of pictures)) here.1.0 rest.numbers;
      ids = All-cons (InId version) p.id (keys_of (viewers_of pictures)) here.0 rest.ids;
    }

-- ---- tracks

heights_fit : (version room : ℕ) (track : List Entry) → Chain (FitsEntry version) above room track
    → sum_by (λ e. e.height) track ≤ room
heights_fit version room [] chain = omega arith
heights_fit version room (e ∷ track) chain =
    let rest = heights_fit version (room - e.height) track chain.1 in
    let short = chain.0.short in
    let sum = sum_by-cons (λ (x : Entry). x.height) e track in
    omega (arith, rest, short, sum)

some_fit : (version room : ℕ) (track : List Entry) → Chain (FitsEntry version) above room track
    → All (λ e. 0 < e.height) track
some_fit version room [] chain = All-nil (λ (e : Entry). 0 < e.height)
some_fit version room (e ∷ track) chain = All-cons (λ (x : Entry). 0 < x.height) e track chain.0.some
    (some_fit version (room - e.height) track chain.1)

track_fits : (version : ℕ) (track : List Entry) → FitsTrack version track → IsTrack track
track_fits version track chain = record {
  some = some_fit version ROWS track chain;
  fits = heights_fit version ROWS track chain;
}

-- ---- columns, from the lowest track up

tracks_fit : (version least : ℕ) (stack : List (List Entry)) → Chain (FitsLevel version) overlaid least stack
    → All IsTrack stack
tracks_fit version least [] chain = All-nil IsTrack
tracks_fit version least (t ∷ stack) chain =
    All-cons IsTrack t stack (track_fits version t chain.0.1) (tracks_fit version 1 stack chain.1)

overlays_fit : (version : ℕ) (stack : List (List Entry)) → Chain (FitsLevel version) overlaid 1 stack → (i : ℕ)
    → i < length stack → 0 < length (get_or stack i [])
overlays_fit version [] chain i low = absurd (omega (arith, low))
overlays_fit version (t ∷ stack) chain zero low = leb-true 1 (length t) chain.0.0
overlays_fit version (t ∷ stack) chain (suc i) low = overlays_fit version stack chain.1 i (omega (arith, low))

above_lowest : (version : ℕ) (stack : List (List Entry)) → Chain (FitsLevel version) overlaid 0 stack → (i : ℕ)
    → 0 < i → i < length stack → 0 < length (get_or stack i [])
above_lowest version [] chain i some low = absurd (omega (arith, low))
above_lowest version (t ∷ stack) chain zero some low = absurd (omega (arith, some))
above_lowest version (t ∷ stack) chain (suc i) some low =
    overlays_fit version stack chain.1 i (omega (arith, low))

few_deep : (overlays : Bool) → (if overlays then DEPTH else 1) ≤ DEPTH
few_deep true = omega arith
few_deep false = omega arith

pub few_levels : (version : ℕ) (stack : List (List Entry)) → FitsStack version stack → length stack ≤ DEPTH
few_levels version stack fits =
    let most = few_deep (has_overlays version) in
    let few = fits.1.0 in
    omega (arith, most, few)

pub stack_fits : (version : ℕ) (stack : List (List Entry)) → FitsStack version stack → IsStack (reverse stack)
stack_fits version stack fits =
    let same = length-reverse stack in
    let few = few_levels version stack fits in
    let one = fits.0 in
    record {
      some = omega (arith, one, same);
      few = omega (arith, few, same);
      tracks = all_reversed IsTrack stack [] (tracks_fit version 0 stack fits.1.1);
      overlays = λ level high within.
          subst (λ (tracks : List (List Entry)). 0 < length (get_or tracks (level - 1) [])) (sym (reverse-reverse stack))
          (above_lowest version stack fits.1.1 (level - 1) (omega (arith, high)) (omega (arith, high, within, same)));
    }
