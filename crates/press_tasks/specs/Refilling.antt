-- How an edit of a paragraph is made: where the caret goes for it, and what is done there.
use Rattle.std.specs.Prelude.{ℕ, ◌+◌, ◌-◌, ◌^◌, false, min, ◌∷◌, [], Option, Some, None}
use Rattle.event_bytes.specs.Bytes.{carriage_return}
use Rattle.event_bytes.specs.declared.event.Event.{Event}
use Rattle.event_bytes.specs.declared.event.Event.TheVariants.{Key, Typed}
use Rattle.event_bytes.specs.declared.keys.Key.TheVariants.{Back}
use Rattle.screen_pictures.specs.Bytes.{space}
use Rattle.filled_pastes.specs.declared.edits.Edit.{Edit}
use Rattle.filled_pastes.specs.declared.edits.Edit.TheVariants.{Ends, Tears, Joins, Blanks}
use Rattle.press_tasks.specs.declared.refill.Refilling.{Refilling}
use Rattle.press_tasks.specs.declared.refill.Refilling.TheVariants.{Next, Go, Do}
use Rattle.press_tasks.specs.declared.refill.Stroke.{Stroke}
use Rattle.press_tasks.specs.declared.refill.Stroke.TheVariants.{End, Tear, Mend, Join, Swap, Blank}

-- the position of the caret once there is a character more before it
abbrev pub one_behind : Option ℕ → ℕ
one_behind None = 0
one_behind (Some p) = min (p + 1) (2 ^ 32 - 1)

-- a position, as far as it is counted
abbrev pub counted_position : ℕ → ℕ
counted_position n = min n (2 ^ 32 - 1)

-- where an edit begins: an end of line is taken away from behind
abbrev pub edit_place : Edit → ℕ
edit_place (Ends q) = counted_position q
edit_place (Tears t q) = counted_position t
edit_place (Joins e) = one_behind (Some (counted_position e))
edit_place (Blanks e) = one_behind (Some (counted_position e))

-- and with what
abbrev pub edit_stroke : Edit → Stroke
edit_stroke (Ends q) = End
edit_stroke (Tears t q) = Tear (counted_position q)
edit_stroke (Joins e) = Join
edit_stroke (Blanks e) = Swap

-- what is done there
abbrev pub stroke_event : Stroke → Event
stroke_event End = Typed (carriage_return ∷ [])
stroke_event (Tear q) = Typed (carriage_return ∷ [])
stroke_event (Mend t) = Typed (carriage_return ∷ [])
stroke_event Join = Key Back
stroke_event Swap = Key Back
stroke_event Blank = Typed (space ∷ [])

-- what is left to do then, where the caret belongs at `home`: a line that was torn at t is to end before the position that
-- was q, and there it is mended
abbrev pub after_stroke : ℕ → ℕ → Stroke → Refilling
after_stroke home at End = Next home false
after_stroke home at (Tear q) = Go home (one_behind (Some q)) (Mend at)
after_stroke home at (Mend t) = Go home (one_behind (Some t)) Join
after_stroke home at Join = Next home false
after_stroke home at Swap = Do home (at - 1) Blank
after_stroke home at Blank = Next home false
