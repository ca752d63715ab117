-- Viewers on the display: their texts are there, and few of them are selected.
use Rattle.std.proofs.Common.{◌≡◌, ℕ, ◌≤◌, [], length, refl}
use Rattle.std.proofs.Common.{arith, Option, Some, None}
use Rattle.std.specs.Prelude.{IsSome}
use Rattle.std.specs.Option.{unwrap_or}
use Rattle.viewer_tracks.specs.Columns.{IsPlaced}
use Rattle.desktop_definitions.specs.Tables.{text_numbered}
use Rattle.desktop_definitions.specs.Desktop.{KeptDesktop}
use Rattle.desktop_definitions.specs.Viewers.{viewer_in, viewer_or_none, bare_viewer}
use Rattle.desktop_definitions.specs.Seen.{seen, seen_table}
use Rattle.desktop_definitions.specs.Sound.{IsViewer, IsKeptWhole}
use Rattle.desktop_definitions.proofs.TextLaws.{text_there}
use Rattle.desktop_definitions.proofs.ViewLaws.{placed_there, few_selections}

the_one : {X : Type 0} (found : Option X) (other : X) → IsSome found → found ≡ Some (unwrap_or found other)
the_one None other there = absurd (cc there)
the_one (Some x) other there = refl

module _ (d : KeptDesktop) (whole : IsKeptWhole d) where
  pub few : length d.selections ≤ 255
  unfolding seen
  few =
      let shaped = (whole.sound []).shaped in
      omega (arith, few_selections d.columns _ d.caret d.selections shaped.places.columns_hold shaped.marks)

  -- a viewer that stands in a track
  placed_is : (v : ℕ) → IsPlaced v d.columns → IsSome (viewer_in d.viewers v)
  unfolding seen
  placed_is v placed = placed_there d.viewers d.columns d.closed v (whole.sound []).shaped.places placed

  placed_viewer : (v : ℕ) → IsPlaced v d.columns
      → IsViewer (seen_table [] d.texts) d.viewers v (viewer_or_none d.viewers v)
  unfolding seen
  placed_viewer v placed =
      (whole.sound []).shaped.viewers.each v (viewer_or_none d.viewers v) (the_one (viewer_in d.viewers v) bare_viewer
      (placed_is v placed))

  pub menu_there : (v : ℕ) → IsPlaced v d.columns → IsSome (text_numbered d.texts (viewer_or_none d.viewers v).menu)
  menu_there v placed = text_there [] d.texts _ (placed_viewer v placed).menu

  pub main_there : (v : ℕ) → IsPlaced v d.columns → IsSome (text_numbered d.texts (viewer_or_none d.viewers v).main)
  main_there v placed = text_there [] d.texts _ (placed_viewer v placed).main
