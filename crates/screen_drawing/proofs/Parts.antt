-- A drawing that is taken part by part.
use Rattle.std.proofs.Common.{◌≡◌, ℕ, ◌+◌, ◌-◌, ◌<◌, ◌≤◌, List, [], ◌++◌, Option, sym, ap, ◌∙◌, arith, subst}
use Rattle.std.proofs.Common.{drop, length, get_or, add-one, suc}
use Rattle.std.proofs.Math.Seq.{drop-cons}
use Rattle.std.specs.Prelude.{Bool, true, if◌then◌else◌}
use Rattle.std.specs.Io.KnownBytes.{Appends}
use Rattle.std.proofs.KnownBytes.{Keeps-refl}
use Rattle.std.specs.List.{flat_map, range_with_len}
use denote.Bor.{Bor}
use Rattle.byte_streams.specs.Sent.{AppendsFront}
use Rattle.byte_streams.proofs.Taking.{HasTaken, front_part, taken_all, taken_part}
use Rattle.screen_drawing.specs.declared.face.Face.{Face}
use Rattle.screen_drawing.specs.declared.pen.Pen.{Pen}
use Rattle.screen_drawing.specs.Drawn.{drawn_start, drawn_stretch, is_start, pen_at, stretch_at}
use Rattle.screen_drawing.specs.declared.operation.Operation.{Operation}
use Rattle.screen_drawing.specs.Spelling.{operation_bytes, spelled_all}
use Rattle.screen_drawing.specs.Strokes.{joined_pieces}

-- a part more of what is left, or a front of it
pub next_taken : (old mid new : Option (List ℕ)) (text left part rest : List ℕ) → left ≡ part ++ rest
    → HasTaken old mid text left → Appends mid new part → HasTaken old new text rest
next_taken old mid new text left part rest next before now =
    taken_part old mid new text part rest (subst (HasTaken old mid text) next before) now

pub next_front : (old mid new : Option (List ℕ)) (text left part rest : List ℕ) → left ≡ part ++ rest
    → HasTaken old mid text left → AppendsFront mid new part → AppendsFront old new text
next_front old mid new text left part rest next before now =
    front_part old mid new text part rest (subst (HasTaken old mid text) next before) now

-- nothing is left
pub all_taken : (old new : Option (List ℕ)) (text left : List ℕ) → HasTaken old new text left → left ≡ []
    → Appends old new text
all_taken old new text left before none = taken_all old new new text left before none (Keeps-refl new)

-- the pieces from an index on
pub next_piece : (pieces : List (Bor (List ℕ))) (i : ℕ) (d : Bor (List ℕ)) → i < length pieces
    → joined_pieces (drop i pieces) ≡ (get_or pieces i d).now ++ joined_pieces (drop (i + 1) pieces)
next_piece pieces i d within =
    ap joined_pieces (drop-cons pieces i d within)
    ∙ ap (λ n. (get_or pieces i d).now ++ joined_pieces (drop n pieces)) (sym (add-one i))

-- the spelled operations from an index on
pub next_operation : (operations : List Operation) (i : ℕ) (d : Operation) → i < length operations
    → spelled_all (drop i operations) ≡ operation_bytes (get_or operations i d) ++ spelled_all (drop (i + 1) operations)
next_operation operations i d within =
    ap spelled_all (drop-cons operations i d within)
    ∙ ap (λ n. operation_bytes (get_or operations i d) ++ spelled_all (drop n operations)) (sym (add-one i))

-- what is made of the numbers from x on
pub next_number : (f : ℕ → List ℕ) (x n : ℕ) → x < n
    → flat_map f (range_with_len x (n - x)) ≡ f x ++ flat_map f (range_with_len (x + 1) (n - (x + 1)))
next_number f x n within =
    let next : n - x ≡ suc (n - (x + 1)) = omega arith in ap (λ k. flat_map f (range_with_len x k)) next

pub no_number : (f : ℕ → List ℕ) (x n : ℕ) → n ≤ x → flat_map f (range_with_len x (n - x)) ≡ []
no_number f x n past = let none : n - x ≡ 0 = omega arith in ap (λ k. flat_map f (range_with_len x k)) none

-- where a stretch begins it is drawn
started : (x y : ℕ) (row : List Face) → is_start row x ≡ true
    → drawn_stretch x y (stretch_at row x) (pen_at row x) ≡ drawn_start y row x
started x y row is = sym (ap (λ b. if b then drawn_stretch x y (stretch_at row x) (pen_at row x) else []) is)

pub start_drawn : (x y : ℕ) (row faces : List Face) (pen : Pen) (begins : Bool) → begins ≡ true
    → begins ≡ is_start row x → faces ≡ stretch_at row x → pen ≡ pen_at row x
    → drawn_stretch x y faces pen ≡ drawn_start y row x
start_drawn x y row faces pen begins is same its_faces its_pen =
    (λ k. drawn_stretch x y (its_faces k) (its_pen k)) ∙ started x y row (sym same ∙ is)
