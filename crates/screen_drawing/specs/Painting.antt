-- What a writer is sent, and what grids show by it.
use Rattle.std.specs.Prelude.{◌≡◌, ℕ, zero, suc, ◌+◌, ◌≤◌, ◌==◌, ◌&&◌, Bool, true, false, if◌then◌else◌, List, [], ◌∷◌}
use Rattle.std.specs.Prelude.{◌++◌}
use Rattle.std.specs.Prelude.{Option, Some, None, length, replicate, slice_index_or}
use Rattle.std.specs.Io.KnownBytes.{Appends}
use Rattle.byte_streams.specs.Sent.{AppendsFront}
use Rattle.std.specs.List.{list_all}
use Rattle.screen_drawing.specs.declared.pen.TheConstants.{WHITE}
use Rattle.screen_drawing.specs.declared.face.Face.{Face}
use Rattle.screen_drawing.specs.declared.scene.Scene.{Scene}
use Rattle.screen_drawing.specs.declared.operation.Operation.{Operation}
use Rattle.screen_drawing.specs.declared.operation.Operation.TheVariants.{Hold, Release, Hide, Show, Go, Take}
use Rattle.screen_drawing.specs.declared.operation.Operation.TheVariants.{Wipe}
use Rattle.screen_drawing.specs.Changes.{changes}
use Rattle.screen_drawing.specs.Scene.{IsCursorCell, scene_row, scene_rows, height_of}
use Rattle.screen_drawing.specs.Grid.{Grid, done}
use Rattle.screen_drawing.specs.Pen.{blank_face, plain_pen}
use Rattle.screen_drawing.specs.Shows.{ShowsRows}
use Rattle.screen_drawing.specs.Spelling.{AreSendable, spelled_all}

-- a grid has room for so many columns and rows
pub record HasGridRoom (width rows : ℕ) (g : Grid) : Type 0 where
  pub wide : width ≤ g.width
  pub high : rows ≤ g.height

-- the cursor is to be seen at this column and row, which count from 0, or nowhere
abbrev pub HasCursor : Option (ℕ × ℕ) → Grid → Type 0
HasCursor None g = g.has_cursor ≡ false
HasCursor (Some place) g = (g.has_cursor ≡ true) × (g.column ≡ place.0 + 1) × (g.row ≡ place.1 + 1)

-- a grid shows a scene: its rows, and by the cursor the pointer or a caret in sight
pub record ShowsScene (scene : Scene) (g : Grid) : Type 0 where
  pub rows : ShowsRows (scene_rows scene) g
  pub place : Option (ℕ × ℕ)
  pub stands : IsCursorCell scene place
  pub cursor : HasCursor place g

-- a writer took the bytes of these operations, by which a grid of which the one holds becomes one of which the other
-- does
pub record Leads (operations : List Operation) (old new : Option (List ℕ))
    (before after : Grid → Type 0) : Type 0 where
  pub sendable : AreSendable operations
  pub sent : Appends old new (spelled_all operations)
  pub led : (g : Grid) → before g → after (done operations g)

-- a grid with room for so many columns and rows that shows these rows
pub record IsShown (width rows : ℕ) (faces : List (List Face)) (g : Grid) : Type 0 where
  pub room : HasGridRoom width rows g
  pub shows : ShowsRows faces g

-- a grid with room for a scene that shows it
pub record IsPainted (scene : Scene) (g : Grid) : Type 0 where
  pub room : HasGridRoom scene.width (height_of scene) g
  pub shows : ShowsScene scene g

-- how a painting begins, where the rows are known or else all cells are made blank, and how it ends
abbrev pub beginning : Bool → List Operation
beginning true = Hold ∷ Hide ∷ []
beginning false = Hold ∷ Hide ∷ Take (plain_pen WHITE) ∷ Wipe ∷ []

abbrev pub ending : Option (ℕ × ℕ) → List Operation
ending None = Hide ∷ Release ∷ []
ending (Some place) = Go (place.0 + 1) (place.1 + 1) ∷ Show ∷ Release ∷ []

-- whether known rows are as many, and each has so many columns
abbrev pub are_wide : ℕ → List (List Face) → Bool
are_wide width known = list_all (λ row. length row == width) known

unfoldable pub are_of_size : ℕ → ℕ → List (List Face) → Bool
are_of_size width rows known = (length known == rows) && are_wide width known

-- the rows that are shown after the beginning
abbrev pub begun_rows : ℕ → ℕ → List (List Face) → List (List Face)
begun_rows width rows known = if are_of_size width rows known then known
    else replicate rows (replicate width (blank_face WHITE))

-- what changes the first n rows
unfoldable pub rows_changes : ℕ → (ℕ → List Face) → (ℕ → List Face) → List Operation
rows_changes zero olds news = []
rows_changes (suc n) olds news = rows_changes n olds news ++ changes (n + 1) (olds n) (news n)

-- what has a terminal that shows the known rows show a scene, with the cursor at this place
abbrev pub painting : List (List Face) → Scene → Option (ℕ × ℕ) → List Operation
painting known scene place =
    let rows = height_of scene in
    let olds = begun_rows scene.width rows known in
    beginning (are_of_size scene.width rows known)
    ++ (rows_changes rows (λ y. slice_index_or olds y []) (scene_row scene) ++ ending place)

-- a writer took what makes every grid with room for a scene that shows the known rows show the scene
pub record Paints (old new : Option (List ℕ)) (known : List (List Face))
    (scene : Scene) : Type 0 where
  pub place : Option (ℕ × ℕ)
  pub stands : IsCursorCell scene place
  pub leads : Leads (painting known scene place) old new
      (IsShown scene.width (height_of scene) known)
      (IsPainted scene)

-- a writer took a front of that
pub record PaintsFront (old new : Option (List ℕ)) (known : List (List Face))
    (scene : Scene) : Type 0 where
  pub place : Option (ℕ × ℕ)
  pub stands : IsCursorCell scene place
  pub taken : AppendsFront old new (spelled_all (painting known scene place))
