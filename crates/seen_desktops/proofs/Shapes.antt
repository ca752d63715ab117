-- A desktop is its shape and its characters.
use Rattle.std.proofs.Common.{◌≡◌, ℕ, List, [], ◌∷◌, ◌++◌, length, drop, get_or, refl, sym, ◌∙◌, ap, arith}
use Rattle.std.proofs.Common.{append_assoc}
use Rattle.piece_ring.specs.declared.piece.Piece.{Piece}
use Rattle.piece_ring.specs.Flat.{flat}
use Rattle.piece_ring.specs.Text.{Text}
use Rattle.desktop_definitions.specs.Desktop.{Desktop, DesktopOf, KeptDesktop, with_texts}
use Rattle.desktop_definitions.specs.Seen.{seen, seen_table}
use Rattle.desktop_definitions.specs.Tables.{with_values}
use Rattle.desktop_definitions.proofs.TableLaws.{length_seen_text}
use Rattle.seen_desktops.specs.Shape.{ShapeLaw, characters_in, all_characters_of, shape_of}

-- two lists of one length, with others behind them
split : {X : Type 0} (one other rest rest' : List X) → length one ≡ length other → one ++ rest ≡ other ++ rest'
    → (one ≡ other) × (rest ≡ rest')
split [] [] rest rest' long same = (refl, same)
split [] (y ∷ other) rest rest' long same = absurd (omega (arith, long))
split (x ∷ one) [] rest rest' long same = absurd (omega (arith, long))
split {X} (x ∷ one) (y ∷ other) rest rest' long same =
    let first : x ≡ y = ap (λ (l : List X). get_or l 0 x) same in
    let later : one ++ rest ≡ other ++ rest' = ap (drop 1) same in
    let both = split one other rest rest' (omega (arith, long)) later in
    ((λ i. first i ∷ both.0 i), both.1)

-- two tables of one shape, with other characters behind theirs
tables : {K : Type 0} (one other : List (K × Text ℕ)) (rest rest' : Text ℕ)
    → with_values length one ≡ with_values length other
    → characters_in one ++ rest ≡ characters_in other ++ rest' → (one ≡ other) × (rest ≡ rest')
tables [] [] rest rest' sizes same = (refl, same)
tables [] (e ∷ other) rest rest' sizes same = absurd (omega (arith, ap length sizes))
tables (e ∷ one) [] rest rest' sizes same = absurd (omega (arith, ap length sizes))
tables {K} (e ∷ one) (f ∷ other) rest rest' sizes same =
    let first : (e.0, length e.1) ≡ (f.0, length f.1) = ap (λ (l : List (K × ℕ)). get_or l 0 (e.0, length e.1)) sizes in
    let both = split e.1 f.1 (characters_in one ++ rest) (characters_in other ++ rest') (ap (λ (s : K × ℕ). s.1) first)
    (sym (append_assoc e.1 (characters_in one) rest) ∙ same ∙ append_assoc f.1 (characters_in other) rest') in
    let later = tables one other rest rest' (ap (drop 1) sizes) both.1 in
    ((λ i. ((first i).0, both.0 i) ∷ later.0 i), later.1)

shapes : (one other : Desktop) → shape_of one ≡ shape_of other → all_characters_of one ≡ all_characters_of other
    → one ≡ other
unfolding shape_of all_characters_of
shapes one other shape same =
    let texts = tables one.texts other.texts (characters_in one.files ++ (one.copied ++ one.deleted))
    (characters_in other.files ++ (other.copied ++ other.deleted)) (ap (λ (d : DesktopOf ℕ). d.texts) shape) same in
    let files = tables one.files other.files (one.copied ++ one.deleted) (other.copied ++ other.deleted)
    (ap (λ (d : DesktopOf ℕ). d.files) shape) texts.1 in
    let buffers = split one.copied other.copied one.deleted other.deleted (ap (λ (d : DesktopOf ℕ). d.copied) shape)
    files.1 in
    λ i. record {
      texts = texts.0 i;
      viewers = (shape i).viewers;
      columns = (shape i).columns;
      caret = (shape i).caret;
      selections = (shape i).selections;
      marker = (shape i).marker;
      closed = (shape i).closed;
      files = files.0 i;
      copied = buffers.0 i;
      deleted = buffers.1 i;
      pattern = (shape i).pattern;
      look = (shape i).look;
      written = (shape i).written;
    }

-- ---- the shape of a desktop that is seen is that of the one that is kept

sizes_seen : {K : Type 0} (characters : List ℕ) (table : List (K × List Piece))
    → with_values length (seen_table characters table) ≡ with_values length (with_values flat table)
sizes_seen characters [] = refl
sizes_seen characters (e ∷ es) = λ i. (e.0, length_seen_text characters e.1 i) ∷ sizes_seen characters es i

shape_seen : (characters : List ℕ) (d : KeptDesktop) → shape_of (seen characters d) ≡ shape_of (with_texts flat d)
unfolding shape_of seen
shape_seen characters d = λ i. record {
  texts = sizes_seen characters d.texts i;
  viewers = d.viewers;
  columns = d.columns;
  caret = d.caret;
  selections = d.selections;
  marker = d.marker;
  closed = d.closed;
  files = sizes_seen characters d.files i;
  copied = length_seen_text characters d.copied i;
  deleted = length_seen_text characters d.deleted i;
  pattern = d.pattern;
  look = d.look;
  written = d.written;
}

pub shape_law : ShapeLaw
shape_law one other characters others = (
  λ same. (
    sym (shape_seen characters one) ∙ ap (λ (d : Desktop). shape_of d) same ∙ shape_seen others other,
    ap (λ (d : Desktop). all_characters_of d) same,
  ),
  λ both. shapes (seen characters one) (seen others other)
      (shape_seen characters one ∙ both.0 ∙ sym (shape_seen others other)) both.1,
)
