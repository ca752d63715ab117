-- What a writer takes of a terminal that shows a part of a screen, and a line below it.
use Rattle.std.specs.Prelude.{◌≡◌, ℕ, Bool, if◌then◌else◌, List, [], ◌∷◌, Option, codes}
use Rattle.std.specs.Io.KnownBytes.{Appends}
use Rattle.screen_pictures.specs.declared.cell.Cell.{Cell}
use Rattle.screen_drawing.specs.declared.face.Face.{Face}
use Rattle.screen_drawing.specs.declared.operation.Operation.TheVariants.{Ring}
use Rattle.screen_drawing.specs.declared.scene.Scene.{Scene}
use Rattle.screen_drawing.specs.Painting.{Paints}
use Rattle.screen_drawing.specs.Scene.{text_below}
use Rattle.screen_drawing.specs.Spelling.{operation_bytes}

-- an escape byte and [18t, to which a terminal tells its size
abbrev pub size_question : List ℕ
size_question = 27 ∷ codes "[18t"

-- what has a terminal ring, and tell its size, where that is to be
abbrev pub ring_bytes : Bool → List ℕ
ring_bytes rings = if rings then operation_bytes Ring else []

abbrev pub asked_bytes : Bool → List ℕ
asked_bytes asks = if asks then size_question else []

-- it took a scene that shows a part of this screen, and this line below it
pub record IsPartPainted (screen : List (List Cell)) (line : List ℕ) (held held' : Option (List ℕ))
    : Type 0 where
  pub known : List (List Face)
  pub scene : Scene
  pub part : scene.screen.now ≡ screen
  pub below : text_below scene.below ≡ line
  pub paints : Paints held held' known scene

-- and behind it what gives the clipboard a text, has the terminal ring, and tell its size, where that is to be
pub record IsShownBy (rings asks : Bool) (screen : List (List Cell)) (line clip : List ℕ)
    (held held' : Option (List ℕ))
    : Type 0 where
  pub behind : Option (List ℕ)
  pub clipped : Option (List ℕ)
  pub rung : Option (List ℕ)
  pub painted : IsPartPainted screen line held behind
  pub gave : Appends behind clipped clip
  pub rang : Appends clipped rung (ring_bytes rings)
  pub asked : Appends rung held' (asked_bytes asks)
