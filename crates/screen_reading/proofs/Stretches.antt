-- Where the cells of a kind begin that stand right before a column.
use Rattle.std.proofs.Common.{◌≡◌, ℕ, zero, suc, ◌-◌, ◌<◌, true, false, List, refl, sym, ap, ◌∙◌, arith}
use Rattle.screen_pictures.specs.declared.cell.Cell.{Cell}
use Rattle.screen_pictures.specs.Screen.{column_at}
use Rattle.screen_reading.specs.declared.along.Kind.{Kind}
use Rattle.screen_reading.specs.Along.{begin_of, is_of}

begin_inside : (kind : Kind) (row : List Cell) (x : ℕ) → is_of kind (column_at row x) ≡ true
    → begin_of kind row (suc x) ≡ begin_of kind row x
unfolding begin_of
begin_inside kind row x h = rw h refl

begin_outside : (kind : Kind) (row : List Cell) (x : ℕ) → is_of kind (column_at row x) ≡ false
    → begin_of kind row (suc x) ≡ suc x
unfolding begin_of
begin_outside kind row x h = rw h refl

pub begin_zero : (kind : Kind) (row : List Cell) → begin_of kind row 0 ≡ 0
unfolding begin_of
begin_zero kind row = refl

-- one step of a loop that goes back
pub step_back : (kind : Kind) (row : List Cell) (x first : ℕ) → 0 < first
    → is_of kind (column_at row (first - 1)) ≡ true
    → begin_of kind row x ≡ begin_of kind row first → begin_of kind row x ≡ begin_of kind row (first - 1)
step_back kind row x zero some h e = absurd (omega (arith, some))
step_back kind row x (suc first) some h e =
    let one : suc first - 1 ≡ first = omega arith in
    e ∙ (begin_inside kind row first (ap (λ k. is_of kind (column_at row k)) (sym one) ∙ h)
    ∙ ap (begin_of kind row) (sym one))

-- and its end
pub stop_back : (kind : Kind) (row : List Cell) (x first : ℕ) → 0 < first
    → is_of kind (column_at row (first - 1)) ≡ false
    → begin_of kind row x ≡ begin_of kind row first → begin_of kind row x ≡ first
stop_back kind row x zero some h e = absurd (omega (arith, some))
stop_back kind row x (suc first) some h e =
    let one : suc first - 1 ≡ first = omega arith in
    e ∙ begin_outside kind row first (ap (λ k. is_of kind (column_at row k)) (sym one) ∙ h)
