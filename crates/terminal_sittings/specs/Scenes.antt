-- What a terminal is sent in a turn of a sitting.
use Rattle.std.specs.Prelude.{◌≡◌, ◌+◌, ℕ, Bool, if◌then◌else◌, List, [], ◌∷◌, ◌++◌, Option}
use Rattle.std.specs.Io.KnownBytes.{Appends}
use Rattle.byte_streams.specs.Sent.{AppendsFront}
use Rattle.viewer_tracks.specs.declared.display.TheConstants.{ROWS}
use Rattle.screen_pictures.specs.declared.cell.Cell.{Cell}
use Rattle.terminal_presses.specs.Sights.{columns_in_sight, first_column}
use Rattle.screen_drawing.specs.declared.face.Face.{Face}
use Rattle.screen_drawing.specs.declared.scene.Scene.{Scene}
use Rattle.screen_drawing.specs.declared.operation.Operation.TheVariants.{Ring}
use Rattle.screen_drawing.specs.Scene.{scene_rows, line_height, text_below}
use Rattle.screen_drawing.specs.Painting.{Paints, PaintsFront}
use Rattle.screen_drawing.specs.Spelling.{operation_bytes}
use Rattle.desk_sitting.specs.declared.sitting.Sitting.{Sitting}
use Rattle.desk_sitting.specs.Desk.{Desk}
use Rattle.terminal_clipboards.specs.Clips.{clip_bytes}
use Rattle.terminal_sittings.specs.declared.ending.SittingEnd.{SittingEnd}
use Rattle.terminal_sittings.specs.declared.ending.SittingEnd.TheVariants.{Left, Closed, Input, TooLong, Output, Fault}
use Rattle.terminal_sittings.specs.declared.ending.SittingEnd.TheVariants.{Memory}

-- what is known of the terminal before the scene is painted
abbrev pub known_by : Bool → List (List Face) → List (List Face)
known_by forgets known = if forgets then [] else known

-- an escape byte and [18t, to which a terminal tells its size
abbrev pub size_request : List ℕ
size_request = 27 ∷ 91 ∷ 49 ∷ 56 ∷ 116 ∷ []

-- what the terminal is sent after the scene, which changes nothing of what it shows: a bell, the request for its size, and
-- what gives its clipboard a text
abbrev pub bell_bytes : Bool → List ℕ
bell_bytes rings = if rings then operation_bytes Ring else []

abbrev pub request : Bool → List ℕ
request asks = if asks then size_request else []

abbrev pub after_scene : Bool → Bool → List ℕ → List ℕ
after_scene rings asks clip = (bell_bytes rings ++ request asks) ++ clip

module _ (desk : Desk) where
  -- the part of the screen that is in sight, the pointer, and the line below
  pub record IsSceneOf (s : Sitting) (screen : List (List Cell)) (scene : Scene) : Type 0 where
    pub cells : scene.screen.now ≡ screen
    pub first : scene.first + s.sight.top + 1 ≡ ROWS
    pub rows : scene.rows ≡ s.sight.rows
    pub left : scene.left ≡ first_column s.sight
    pub columns : scene.columns ≡ columns_in_sight s.sight
    pub width : scene.width ≡ s.sight.width
    pub has_line : line_height scene.below ≡ 1
    pub pointer : scene.pointer ≡ desk.points s
    pub line : text_below scene.below ≡ desk.says screen s

  -- A writer took what has the terminal show the scene.
  pub record IsScenePainted (s : Sitting) (screen : List (List Cell))
      (known known' : List (List Face)) (held held' : Option (List ℕ)) : Type 0 where
    pub scene : Scene
    pub is : IsSceneOf s screen scene
    pub paints : Paints held held' known scene
    pub rows : known' ≡ scene_rows scene

  -- It took a front of that.
  pub record IsHalfPainted (s : Sitting) (screen : List (List Cell)) (known : List (List Face))
      (held held' : Option (List ℕ)) : Type 0 where
    pub scene : Scene
    pub is : IsSceneOf s screen scene
    pub front : PaintsFront held held' known scene

  -- A writer took the scene, and what is sent after it, and handed all of it on: no write waits for a flush.
  pub record IsSceneShown (s : Sitting) (screen : List (List Cell)) (clip : List ℕ)
      (known known' : List (List Face)) (held held' : Option (List ℕ)) (waiting' : ℕ)
      : Type 0 where
    pub between : Option (List ℕ)
    pub painted : IsScenePainted (desk.looks screen s) screen (known_by s.forgets known) known' held
        between
    pub after : Appends between held' (after_scene s.rings s.asks clip)
    pub handed : waiting' ≡ 0

  -- What was sent last has the terminal show this scene. What is sent after a scene changes nothing of that.
  pub record IsSeen (s : Sitting) (screen : List (List Cell)) (known : List (List Face))
      (held : Option (List ℕ)) : Type 0 where
    pub scene : Scene
    pub is : IsSceneOf s screen scene
    pub rows : known ≡ scene_rows scene
    pub was_known : List (List Face)
    pub before : Option (List ℕ)
    pub between : Option (List ℕ)
    pub paints : Paints before between was_known scene
    pub rings : Bool
    pub asks : Bool
    pub clip : Option (List ℕ)
    pub after : Appends between held (after_scene rings asks (clip_bytes clip))

  -- It took a front of that.
  pub data IsSceneCutShort (s : Sitting) (screen : List (List Cell)) (clip : List ℕ)
      (known : List (List Face)) (held held' : Option (List ℕ)) : Type 0 where
    in_scene : IsHalfPainted (desk.looks screen s) screen (known_by s.forgets known) held held'
        → IsSceneCutShort s screen clip known held held'
    behind_it : {known' : List (List Face)} {between : Option (List ℕ)}
        → IsScenePainted (desk.looks screen s) screen (known_by s.forgets known) known' held between
        → AppendsFront between held' (after_scene s.rings s.asks clip)
        → IsSceneCutShort s screen clip known held held'

  -- Why the scene isn't shown. Where the screen can't be worked out, nothing is sent.
  abbrev pub IsUnshown : SittingEnd → Sitting → List (List Cell) → List ℕ
      → List (List Face) → Option (List ℕ) → Option (List ℕ) → Type 0
  IsUnshown Left s screen clip known held held' = ⊥
  IsUnshown Closed s screen clip known held held' = ⊥
  IsUnshown Input s screen clip known held held' = ⊥
  IsUnshown TooLong s screen clip known held held' = ⊥
  IsUnshown Output s screen clip known held held' = IsSceneCutShort s screen clip known held held'
  IsUnshown Fault s screen clip known held held' = held' ≡ held
  IsUnshown Memory s screen clip known held held' = held' ≡ held
