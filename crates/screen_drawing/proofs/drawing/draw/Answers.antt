use Rattle.std.proofs.Common.{List, Option, ℕ, [], ◌∷◌}
use Rattle.std.specs.Prelude.{codes}
use Rattle.std.specs.List.{concat}
use Rattle.std.specs.Io.KnownBytes.{Appends}
use Rattle.std.proofs.KnownBytes.{Appends-trans}
use Rattle.byte_streams.specs.Sent.{AppendsFront}
use Rattle.byte_streams.proofs.Taking.{first_front, front_sent, second_front, whole_sent}
use Rattle.screen_pictures.specs.declared.cell.Cell.{Cell}
use Rattle.screen_drawing.specs.Drawn.{background, drawing_of, drawn_rows, heading}
use Rattle.screen_drawing.proofs.drawing.draw.Goals as goal

-- what follows the heading, and what follows the background
abbrev after_background : List (List Cell) → List ℕ
after_background screen = concat (drawn_rows screen ∷ codes "</svg>\n" ∷ [])

abbrev after_heading : List (List Cell) → List ℕ
after_heading screen = concat (background ∷ drawn_rows screen ∷ codes "</svg>\n" ∷ [])

-- heading and background were taken, and then a front of the rest
begun_front : (screen : List (List Cell)) (old one two new : Option (List ℕ)) → Appends old one heading
    → Appends one two background → AppendsFront two new (after_background screen)
    → AppendsFront old new (drawing_of screen)
unfolding drawing_of
begun_front screen old one two new first second front =
    second_front old one new heading (after_heading screen) first
    (second_front one two new background (after_background screen) second front)

-- all parts were taken
all_drawn : (screen : List (List Cell)) (old one two three new : Option (List ℕ)) → Appends old one heading
    → Appends one two background → Appends two three (drawn_rows screen) → Appends three new (codes "</svg>\n")
    → Appends old new (drawing_of screen)
unfolding drawing_of
all_drawn screen old one two three new first second third last =
    Appends-trans old one new heading (after_heading screen) first
    (Appends-trans one two new background (after_background screen) second
    (Appends-trans two three new (drawn_rows screen) (codes "</svg>\n") third last))

pub returns-in_err-draw_heading : goal.returns-in_err-draw_heading
unfolding drawing_of
returns-in_err-draw_heading g c = front_sent c.from_residual.result _ _ _ _ c.from_residual.ensures.1
    (first_front _ _ heading (after_heading c.args.screen.now) c.in_err-draw_heading.ensures.front)

pub returns-in_err-draw_background : goal.returns-in_err-draw_background
unfolding drawing_of
returns-in_err-draw_background g c =
    front_sent c.from_residual-in_err-draw_background.result _ _ _ _ c.from_residual-in_err-draw_background.ensures.1
    (second_front _ _ _ heading (after_heading c.args.screen.now) c.in_ok-draw_heading.ensures.sent
    (first_front _ _ background (after_background c.args.screen.now) c.in_err-draw_background.ensures.front))

pub returns-in_err-draw_rows : goal.returns-in_err-draw_rows
returns-in_err-draw_rows g c =
    front_sent c.from_residual-in_err-draw_rows.result _ _ _ _ c.from_residual-in_err-draw_rows.ensures.1
    (begun_front c.args.screen.now _ _ _ _ c.in_ok-draw_heading.ensures.sent c.in_ok-draw_background.ensures.sent
    (first_front _ _ (drawn_rows c.args.screen.now) (codes "</svg>\n") c.in_err-draw_rows.ensures.front))

pub returns-in_err-send : goal.returns-in_err-send
returns-in_err-send g c =
    front_sent c.from_residual-in_err-send.result _ _ _ _ c.from_residual-in_err-send.ensures.1
    (begun_front c.args.screen.now _ _ _ _ c.in_ok-draw_heading.ensures.sent c.in_ok-draw_background.ensures.sent
    (second_front _ _ _ (drawn_rows c.args.screen.now) (codes "</svg>\n") c.in_ok-draw_rows.ensures.sent
    c.in_err-send.ensures.front))

pub returns : goal.returns
returns g c = whole_sent c.flush.result _ _ _ (drawing_of c.args.screen.now)
    (all_drawn c.args.screen.now _ _ _ _ _ c.in_ok-draw_heading.ensures.sent c.in_ok-draw_background.ensures.sent
    c.in_ok-draw_rows.ensures.sent c.in_ok-send.ensures.sent) c.flush.ensures
