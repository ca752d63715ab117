-- What a scroll bar does, by where the line begins that comes first.
use Rattle.std.specs.Prelude.{◌≡◌, ℕ, ◌==◌, Bool, true, false, if◌then◌else◌, Option, Some, None, IfSome}
use Rattle.std.proofs.Common.{refl, sym, ap, subst}
use Rattle.text_frames.specs.Cells.{row_of}
use Rattle.desktop_definitions.specs.Desktop.{Desktop}
use Rattle.desktop_definitions.specs.Viewers.{viewer_of, main_of, with_org}
use Rattle.desktop_definitions.specs.Change.{bytes_of}
use Rattle.desktop_definitions.specs.Gesture.{scrolled_to_row, scrolled_to_share}
use Rattle.desk_core.specs.Mouse.{position_in, start_of_row, start_of_share}

none_by : (d new : Desktop) (p : ℕ) (there : Bool) → None ≡ (if there then Some p else None)
    → d ≡ (if there then new else d)
none_by d new p true is = absurd (cc is)
none_by d new p false is = refl

some_by : (d : Desktop) (v p start : ℕ) (there : Bool) → Some start ≡ (if there then Some p else None)
    → with_org d v start ≡ (if there then with_org d v p else d)
some_by d v p start true is = let same : start ≡ p = cc is in ap (λ org. with_org d v org) same
some_by d v p start false is = absurd (cc is)

pub row_none : (d : Desktop) (v row : ℕ) → None ≡ start_of_row d v row → d ≡ scrolled_to_row d v row
unfolding start_of_row scrolled_to_row position_in
row_none d v row is =
    none_by d (with_org d v (position_in d v 0 row)) (position_in d v 0 row)
    (row_of (bytes_of (main_of d v)) (viewer_of d v).org (position_in d v 0 row) == row) is

pub row_some : (d : Desktop) (v row start : ℕ) → Some start ≡ start_of_row d v row
    → with_org d v start ≡ scrolled_to_row d v row
unfolding start_of_row scrolled_to_row position_in
row_some d v row start is =
    some_by d v (position_in d v 0 row) start
    (row_of (bytes_of (main_of d v)) (viewer_of d v).org (position_in d v 0 row) == row) is

pub share_is : (d : Desktop) (v row start : ℕ) → start ≡ start_of_share d v row
    → with_org d v start ≡ scrolled_to_share d v row
unfolding start_of_share scrolled_to_share
share_is d v row start is = ap (λ org. with_org d v org) is

-- what holds of a place holds of it where it is told
pub some_if : (P : ℕ → Type 0) (there : Bool) (p : ℕ) (told : Option ℕ) → told ≡ (if there then Some p else None) → P p
    → IfSome told P
some_if P true p told is holds = subst (λ (o : Option ℕ). IfSome o P) (sym is) holds
some_if P false p told is holds = subst (λ (o : Option ℕ). IfSome o P) (sym is) tt
