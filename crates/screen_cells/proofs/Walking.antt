-- What is known of walks, over characters that a call has left as they were.
use Rattle.std.proofs.Common.{◌≡◌, ◌<◌, ℕ, List, length, get_or, slice_get, Option, Some, refl, sym, ap, ◌∙◌}
use Rattle.std.specs.Prelude.{⊤, IfSome}
use Rattle.std.proofs.lemmas.Option.{IfSome_then, slice_get-get_or}
use Rattle.piece_ring.specs.Flat.{flat}
use Rattle.text_frames.specs.Rows.{AreRows}
use Rattle.text_frames.proofs.RowLaws.{rows_still}
use Rattle.screen_cells.specs.declared.shown.Shown.{Shown}
use Rattle.screen_cells.specs.declared.walk.Walk.{Walk}
use Rattle.screen_cells.specs.Shown.{IsShowable}
use Rattle.screen_cells.specs.Walks.{IsWalk, IsKeptWalk}

module _ (honest later : Type 0) (characters rest : List ℕ) (already : later → honest)
    (same : honest → rest ≡ characters) (as_long : length rest ≡ length characters) where
  pub walk_still : (walk : Walk) → IsWalk honest characters walk → IsWalk later rest walk
  walk_still walk is = record {
    showable = rw as_long is.showable;
    rows = rows_still honest later characters rest (flat walk.shown.main.now) walk.shown.frame.org walk.rows already
        same is.rows;
  }

  pub kept_still : (shown : List Shown) (kept : Option Walk) → IfSome kept (IsKeptWalk honest characters shown)
      → IfSome kept (IsKeptWalk later rest shown)
  kept_still shown kept is = IfSome_then kept is (λ walk here. record {
    there = here.there;
    walk = walk_still walk here.walk;
  })

-- before the first row
pub walk_first : (honest : Type 0) (characters : List ℕ) (walk : Walk) → IsShowable (length characters) walk.shown
    → ((read : List ℕ) → AreRows ⊤ read (flat walk.shown.main.now) walk.shown.frame.org walk.rows)
    → IsWalk honest characters walk
walk_first honest characters walk showable rows = record {
  showable = showable;
  rows = rows_still ⊤ honest characters characters (flat walk.shown.main.now) walk.shown.frame.org walk.rows
      (λ h. tt) (λ h. refl) (rows characters);
}

pub there_first : (shown : List Shown) (index : ℕ) (viewer : Shown) → index < length shown
    → viewer ≡ get_or shown index viewer → slice_get shown index ≡ Some viewer
there_first shown index viewer within is = slice_get-get_or shown index viewer within ∙ ap Some (sym is)
