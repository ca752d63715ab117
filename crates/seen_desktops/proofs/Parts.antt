-- The parts of a shape, compared one after another.
use Rattle.std.proofs.Common.{◌≡◌, ℕ, suc, ◌+◌, ◌-◌, ◌<◌, ◌≤◌, Bool, true, false, Decides, List, [], ◌∷◌, ◌++◌, length}
use Rattle.std.proofs.Common.{reverse, get_or, slice_get, Option, Some, None, refl, sym, ◌∙◌, ap, subst, arith, inl, inr, append_assoc}
use Rattle.std.proofs.Common.{append-nil}
use Rattle.std.proofs.lemmas.Bool.{cases_lt, true≢false}
use Rattle.std.proofs.lemmas.Option.{same_Some}
use Rattle.std.specs.Option.{option_eq}
use Rattle.std.proofs.lemmas.List.{length-reverse, reverse-reverse}
use Rattle.piece_ring.specs.declared.piece.Piece.{Piece}
use Rattle.piece_ring.specs.Flat.{flat}
use Rattle.viewer_tracks.specs.Viewers.{Entry}
use Rattle.viewer_tracks.specs.Columns.{track_on}
use Rattle.desktop_definitions.specs.Desktop.{DesktopOf, KeptDesktop}
use Rattle.seen_desktops.specs.Shape.{HaveOneShape, HaveSameCounts, HaveSameLists, HaveSameMarks, kept_sizes, shape_of}

-- ---- tests of parts

-- where a part differs, the whole does
pub part_differs : {P Q : Type 0} {b : Bool} → Decides b Q → b ≡ false → (P → Q) → Decides false P
part_differs d differs part = (λ wrong. absurd (true≢false (sym wrong)), λ all. sym differs ∙ d.1 (part all))

-- where the others are the same, the last one decides
pub last_decides : {P Q : Type 0} {b : Bool} → Decides b Q → (Q → P) → (P → Q) → Decides b P
last_decides d all part = (λ yes. all (d.0 yes), λ whole. d.1 (part whole))

-- a test of what may be missing
pub option_decides : {T : Type 0} {E : T → T → Bool} → ((a b : T) → Decides (E a b) (a ≡ b)) → (a b : Option T)
    → Decides (option_eq E a b) (a ≡ b)
option_decides each None None = (λ _. refl, λ _. refl)
option_decides each None (Some y) = (λ wrong. absurd (true≢false (sym wrong)), λ wrong. absurd cc)
option_decides each (Some x) None = (λ wrong. absurd (true≢false (sym wrong)), λ wrong. absurd cc)
option_decides each (Some x) (Some y) = (
  λ yes. ap (λ z. Some z) ((each x y).0 yes),
  λ is. (each x y).1 (same_Some x y is),
)

-- ---- the parts of a shape

module _ (one other : KeptDesktop) where
  pub marks_same : HaveOneShape one other → HaveSameMarks one other
  unfolding shape_of
  marks_same shape = (
    ap (λ (d : DesktopOf ℕ). d.caret) shape,
    ap (λ (d : DesktopOf ℕ). d.marker) shape,
    ap (λ (d : DesktopOf ℕ). d.closed) shape,
  )

  pub counts_same : HaveOneShape one other → HaveSameCounts one other
  unfolding shape_of
  counts_same shape = (
    ap (λ (d : DesktopOf ℕ). d.look) shape,
    ap (λ (d : DesktopOf ℕ). d.written) shape,
    ap (λ (d : DesktopOf ℕ). d.copied) shape,
    ap (λ (d : DesktopOf ℕ). d.deleted) shape,
  )

  pub lists_same : HaveOneShape one other → HaveSameLists one other
  unfolding shape_of
  lists_same shape = (
    ap (λ (d : DesktopOf ℕ). d.viewers) shape,
    ap (λ (d : DesktopOf ℕ). d.selections) shape,
    ap (λ (d : DesktopOf ℕ). d.pattern) shape,
  )

  pub tracks_same : HaveOneShape one other → one.columns ≡ other.columns
  unfolding shape_of
  tracks_same shape = ap (λ (d : DesktopOf ℕ). d.columns) shape

  pub texts_same : HaveOneShape one other → kept_sizes one.texts ≡ kept_sizes other.texts
  unfolding shape_of
  texts_same shape = ap (λ (d : DesktopOf ℕ). d.texts) shape

  pub files_same : HaveOneShape one other → kept_sizes one.files ≡ kept_sizes other.files
  unfolding shape_of
  files_same shape = ap (λ (d : DesktopOf ℕ). d.files) shape

  pub all_same : HaveSameMarks one other → HaveSameCounts one other → HaveSameLists one other
      → one.columns ≡ other.columns
      → kept_sizes one.texts ≡ kept_sizes other.texts → kept_sizes one.files ≡ kept_sizes other.files
      → HaveOneShape one other
  unfolding shape_of
  all_same marks counts lists tracks texts files = λ i. record {
    texts = texts i;
    viewers = lists.0 i;
    columns = tracks i;
    caret = marks.0 i;
    selections = lists.1 i;
    marker = marks.1 i;
    closed = marks.2 i;
    files = files i;
    copied = counts.2 i;
    deleted = counts.3 i;
    pattern = lists.2 i;
    look = counts.0 i;
    written = counts.1 i;
  }

-- ---- sizes, one after another

pub size_on : {K : Type 0} (before after whole : List (K × ℕ)) (size : K × ℕ) (now rest : List (K × List Piece))
    (e : K × List Piece) → now ≡ e ∷ rest → after ≡ before ++ size ∷ [] → size ≡ (e.0, length (flat e.1))
    → before ++ kept_sizes now ≡ whole → after ++ kept_sizes rest ≡ whole
size_on {K} before after whole size now rest e first pushed is was =
    ap (λ (l : List (K × ℕ)). l ++ kept_sizes rest) pushed
    ∙ append_assoc before (size ∷ []) (kept_sizes rest)
    ∙ (λ k. before ++ is k ∷ kept_sizes rest)
    ∙ ap (λ (l : List (K × List Piece)). before ++ kept_sizes l) (sym first)
    ∙ was

pub no_size_left : {K : Type 0} (all whole : List (K × ℕ)) (left : List (K × List Piece)) → left ≡ []
    → all ++ kept_sizes left ≡ whole → all ≡ whole
no_size_left {K} all whole left none was =
    sym (append-nil all) ∙ ap (λ (l : List (K × List Piece)). all ++ kept_sizes l) (sym none) ∙ was

-- ---- lists by their elements

pub same_by_get : {X : Type 0} (xs ys : List X) → length xs ≡ length ys
    → ((i : ℕ) → i < length xs → slice_get xs i ≡ slice_get ys i) → xs ≡ ys
same_by_get [] [] long each = refl
same_by_get [] (y ∷ ys) long each = absurd (omega (arith, long))
same_by_get (x ∷ xs) [] long each = absurd (omega (arith, long))
same_by_get (x ∷ xs) (y ∷ ys) long each =
    let is : Some x ≡ Some y = each 0 (omega arith) in
    let first : x ≡ y = cc is in
    let later : xs ≡ ys = same_by_get xs ys (omega (arith, long)) (λ i within. each (suc i) (omega (arith, within))) in
    λ k. first k ∷ later k

-- the elements below one more
pub get_on : {X : Type 0} (xs ys : List X) (n : ℕ) (x y : X) → ((i : ℕ) → i < n → slice_get xs i ≡ slice_get ys i)
    → slice_get xs n ≡ Some x → slice_get ys n ≡ Some y → x ≡ y
    → (i : ℕ) → i < n + 1 → slice_get xs i ≡ slice_get ys i
get_on xs ys n x y below here there same i within = elim (cases_lt i n) [
  | inl before ↦ below i before
  | inr at ↦ let is : i ≡ n = omega (arith, at, within) in
      ap (slice_get xs) is ∙ here ∙ ap (λ z. Some z) same ∙ sym there ∙ ap (slice_get ys) (sym is)
]

-- an element differs
pub get_differs : {X : Type 0} (xs ys : List X) (n : ℕ) (x y : X) → slice_get xs n ≡ Some x → slice_get ys n ≡ Some y
    → xs ≡ ys → x ≡ y
get_differs {X} xs ys n x y here there same =
    let is : Some x ≡ Some y = sym here ∙ ap (λ (l : List X). slice_get l n) same ∙ there in cc is

same_by_get_or : {X : Type 0} (d : X) (xs ys : List X) → length xs ≡ length ys
    → ((i : ℕ) → i < length xs → get_or xs i d ≡ get_or ys i d) → xs ≡ ys
same_by_get_or d [] [] long each = refl
same_by_get_or d [] (y ∷ ys) long each = absurd (omega (arith, long))
same_by_get_or d (x ∷ xs) [] long each = absurd (omega (arith, long))
same_by_get_or d (x ∷ xs) (y ∷ ys) long each =
    let first : x ≡ y = each 0 (omega arith) in
    let later : xs ≡ ys = same_by_get_or d xs ys (omega (arith, long)) (λ i within. each (suc i) (omega (arith, within))) in
    λ k. first k ∷ later k

-- ---- a column by its tracks

pub same_column : (s s' : List (List Entry)) → length s ≡ length s'
    → ((level : ℕ) → 0 < level → level ≤ length s → track_on s level ≡ track_on s' level) → s ≡ s'
same_column s s' long each =
    let turned : reverse s ≡ reverse s' = same_by_get_or [] (reverse s) (reverse s')
    (length-reverse s ∙ long ∙ sym (length-reverse s'))
    (λ i within. let is : suc i - 1 ≡ i = omega arith in
    subst (λ n. get_or (reverse s) n [] ≡ get_or (reverse s') n []) is
    (each (suc i) (omega arith) (omega (arith, within, length-reverse s)))) in
    sym (reverse-reverse s) ∙ ap (λ (l : List (List Entry)). reverse l) turned ∙ reverse-reverse s'

-- the tracks up to one more level
pub level_on : (s s' : List (List Entry)) (n : ℕ)
    → ((level : ℕ) → 0 < level → level ≤ n → track_on s level ≡ track_on s' level)
    → track_on s (n + 1) ≡ track_on s' (n + 1)
    → (level : ℕ) → 0 < level → level ≤ n + 1 → track_on s level ≡ track_on s' level
level_on s s' n below here level some within = elim (cases_lt n level) [
  | inl at ↦ let is : level ≡ n + 1 = omega (arith, at, within) in
      ap (track_on s) is ∙ here ∙ ap (track_on s') (sym is)
  | inr under ↦ below level some under
]
