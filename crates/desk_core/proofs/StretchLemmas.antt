-- Positions and stretches that stand, copies of them, effects that are refused, and where rows of a frame start.
use Rattle.std.specs.Prelude.{◌≡◌, ◌==◌, ◌<◌, ◌≤◌, ℕ, List, length, Option, Some, None, IfSome, Result, Err}
use Rattle.std.specs.Prelude.{Bool, true, false, IsSome, if◌then◌else◌}
use Rattle.std.specs.Option.{option_map, unwrap_or}
use Rattle.std.proofs.Common.{refl, sym, ap, subst, ◌∙◌, arith}
use Rattle.sector_disk.specs.Faults.{OneOf}
use Rattle.piece_ring.specs.declared.piece.Piece.{Piece}
use Rattle.piece_ring.specs.Flat.{flat}
use Rattle.piece_ring.proofs.Offsets.{stretch-AreWithin}
use Rattle.piece_ring.specs.Text.{stretch, AreWithin}
use Rattle.readers_scanners.specs.Reading.{bytes_of_text}
use Rattle.text_frames.specs.Cells.{cell_of}
use Rattle.desktop_definitions.specs.declared.viewer.Selection.{Selection}
use Rattle.desktop_definitions.specs.declared.reply.Reply.TheVariants.{No}
use Rattle.desktop_definitions.specs.Desktop.{Desktop, KeptDesktop}
use Rattle.desktop_definitions.specs.Tables.{text_numbered}
use Rattle.desktop_definitions.specs.Viewers.{viewer_or_none, newest, with_selection, rows_of, kept_main}
use Rattle.desktop_definitions.specs.Looks.{AreLooks}
use Rattle.desktop_definitions.specs.Seen.{seen}
use Rattle.desktop_definitions.specs.Step.{outcome_after}
use Rattle.desktop_definitions.specs.Sound.{IsKeptWhole, IsBuilt, IsOver}
use Rattle.desktop_definitions.specs.Outcome.{IsAnswered, reply_codes}
use Rattle.desktop_definitions.proofs.RowLaws.{over_built, main_kept}
use Rattle.desktop_definitions.proofs.MarkLaws.{with_selection_changed}
use Rattle.desktop_definitions.proofs.RowPartLaws.{kept_caret, kept_newest, copy_long, copy_looks, text_within}
use Rattle.desktop_definitions.proofs.KeyLaws.{refusal_answered, main_small, copy_changed}
use Rattle.desk_core.specs.Mouse.{position_in, start_of_row}
use Rattle.desk_core.specs.Positions.{IsPosition, CanGo}
use Rattle.desktop_definitions.proofs.PlaceLaws.{on_top_placed}
use Rattle.desk_core.proofs.PositionLemmas.{start_read}
use Rattle.desk_core.specs.declared.edits.DeskBuffer.{DeskBuffer}
use Rattle.desk_core.specs.Buffers.{buffer_of}
use Rattle.desk_core.proofs.BufferLemmas.{buffer_within, buffer_small, buffer_looks}

-- ---- what stands

if_some : {X : Type 0} (P : X → Type 0) (o : Option X) → ((x : X) → o ≡ Some x → P x) → IfSome o P
if_some P None each = tt
if_some P (Some x) each = each x refl

module _ {d : KeptDesktop} (whole : IsKeptWhole d) where
  built : IsBuilt d.written d
  built = record { within = whole.within; shaped = λ all. (whole.sound all).shaped }

  pub selection_some : {o : Option Selection} → o ≡ newest d → IfSome o (λ s. s.beg < s.end)
  selection_some {o} is = if_some _ o (λ s here. (kept_newest d.written d s built (sym is ∙ here)).1)

  pub selection_stands : {o : Option Selection} → o ≡ newest d → IfSome o (λ s. IsPosition d s.viewer s.end)
  selection_stands {o} is = if_some _ o (λ s here.
      let stands = kept_newest d.written d s built (sym is ∙ here) in
      record { placed = stands.0; place = stands.2 })

  pub selection_there : {o : Option Selection} → o ≡ newest d
      → IfSome o (λ s. IsSome (text_numbered d.texts (viewer_or_none d.viewers s.viewer).main))
  selection_there {o} is = if_some _ o (λ s here.
      main_kept d.written d built s.viewer
      (on_top_placed d.columns s.viewer (kept_newest d.written d s built (sym is ∙ here)).0))

  pub caret_stands : IfSome d.caret (λ c. IsPosition d c.viewer c.position)
  caret_stands = if_some _ d.caret (λ c here.
      let stands = kept_caret d.written d c built here in
      record { placed = stands.0; place = stands.1 })

-- ---- a copy of a stretch

module _ {d : KeptDesktop} (s : Selection) {copy : List Piece}
    (is : flat copy ≡ stretch s.beg s.end (flat (kept_main d s.viewer))) where
  pub copy_goes : s.beg ≤ s.end → s.end ≤ length (flat (kept_main d s.viewer)) → (characters : List ℕ) (v : ℕ)
      → IsOver characters d → CanGo (length characters) d v copy
  copy_goes order low characters v over = record {
    short =
        let main = main_small characters d v over in
        let other = main_small characters d s.viewer over in
        let size = copy_long d s copy is order low in
        omega (arith, main, other, low, size);
    within = subst (AreWithin (length characters)) (sym is)
        (stretch-AreWithin (length characters) s.beg s.end (flat (kept_main d s.viewer))
        (text_within (length characters) d (viewer_or_none d.viewers s.viewer).main
        (over_built characters d over).within));
    looks = copy_looks (length characters) d s copy (over_built characters d over) is;
  }

  pub copied_built : {old : List ℕ} → IsOver old d → s.beg < s.end → s.end ≤ length (flat (kept_main d s.viewer))
      → IsBuilt (length old) (record d { copied = copy })
  copied_built {old} over some low =
      (copy_changed ⊥ old old d d over refl absurd d s copy some low is).built

-- with a stretch selected the desktop is built as before
pub selected_built : {old : List ℕ} {d : KeptDesktop} (s : Selection) {selections : List Selection} → IsOver old d
    → IsPosition d s.viewer s.end → s.beg < s.end → selections ≡ (with_selection d s).selections
    → IsBuilt (length old) (record d { selections = selections })
selected_built {old} {d} s over at some is =
    subst (λ (l : List Selection). IsBuilt (length old) (record d { selections = l })) (sym is)
    (with_selection_changed ⊥ old d (over_built old d over) s at.placed some at.place).built

-- ---- both buffers

pub buffer_goes : {old : List ℕ} {d : KeptDesktop} {copy : List Piece} (buffer : DeskBuffer) (v : ℕ) → IsOver old d
    → flat copy ≡ flat (buffer_of d buffer) → CanGo (length old) d v copy
buffer_goes {old} {d} {copy} buffer v over is = record {
  short =
      let main = main_small old d v over in
      let small = buffer_small old d buffer over in
      let long = ap length is in
      omega (arith, main, small, long);
  within = subst (AreWithin (length old)) (sym is) (buffer_within old d buffer over);
  looks = subst AreLooks (sym is) (buffer_looks old d buffer over);
}

-- ---- refusals

pub refused_effect : {H : Type 0} {old : List ℕ} {d : KeptDesktop} {effect : Result Desktop ℕ} {code : ℕ} → IsOver old d
    → OneOf reply_codes code → effect ≡ Err code → IsAnswered H old old d d (outcome_after (seen old d) effect) (No code)
refused_effect {H} {old} {d} {effect} {code} over known is = refusal_answered H old d effect code over known is

-- ---- rows of a frame

-- whether a position that was read is the start of a row, whatever the test says
pub start_shown : {old now : List ℕ} (d : KeptDesktop) (v : ℕ) {org w h row begin : ℕ} {text : List Piece}
    {cell : Option (ℕ × ℕ)} {there is : Bool} → org ≡ (viewer_or_none d.viewers v).org → text ≡ kept_main d v → 0 < w
    → h ≡ rows_of d v → row < rows_of d v → (viewer_or_none d.viewers v).org ≤ begin
    → begin ≡ position_in (seen old d) v 0 row → now ≡ old → cell ≡ cell_of w h (bytes_of_text now (flat text)) org begin
    → there ≡ unwrap_or (option_map (λ (c : ℕ × ℕ). c.1 == row) cell) false → there ≡ is
    → (if is then Some begin else None) ≡ start_of_row (seen old d) v row
start_shown {old} {now} d v {org} {w} {h} {row} {begin} {text} {cell} {there} {is} org_is text_is wide high low
    from begin_is same cell_is there_is test =
    (λ k. if sym test k then Some begin else None)
    ∙ start_read old d v org text org_is text_is w h row begin cell there wide (omega (arith, low, high))
    (omega (arith, from, org_is)) begin_is
    (cell_is ∙ ap (λ (l : List ℕ). cell_of w h (bytes_of_text l (flat text)) org begin) same) there_is
