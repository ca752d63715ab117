-- What is left of the changes of a row, cell by cell.
use Rattle.std.proofs.Common.{◌≡◌, ℕ, ◌+◌, ◌<◌, ◌≤◌, ◌++◌, Bool, true, false, cond, List, [], ◌∷◌, length, get_or}
use Rattle.std.proofs.Common.{drop, refl, ap, sym}
use Rattle.std.proofs.Common.{◌∙◌, Option, None, suc, arith, append_assoc, append-nil}
use Rattle.std.proofs.Math.Seq.{drop-cons}
use Rattle.std.proofs.Math.ListN.{drop_of_length-le}
use Rattle.std.specs.List.{list_all}
use Rattle.screen_drawing.specs.declared.pen.Pen.{Pen}
use Rattle.screen_drawing.specs.declared.pen.TheConstants.{WHITE}
use Rattle.screen_drawing.specs.declared.face.Face.{Face}
use Rattle.screen_drawing.specs.declared.operation.Operation.{Operation}
use Rattle.screen_drawing.specs.declared.operation.Operation.TheVariants.{Put, Clear}
use Rattle.screen_drawing.specs.declared.changes.Brush.{Brush}
use Rattle.screen_drawing.specs.Pen.{plain_pen, same_face}
use Rattle.screen_drawing.specs.Changes.{brush_at, changes, is_blank_face, operations_to_reach, strokes}

-- what changes a row after its first x cells
abbrev pub left : Option Brush → ℕ → ℕ → List Face → List Face → List Operation
left brush row x olds news = strokes brush row (x + 1) (drop x olds) (drop x news)

pub none_done : (row : ℕ) (olds news : List Face) → [] ++ left None row 0 olds news ≡ changes row olds news
unfolding changes
none_done row olds news = refl

-- no cell is left
pub all_done : (brush : Option Brush) (row x : ℕ) (olds news : List Face) (out all : List Operation)
    → out ++ left brush row x olds news ≡ all → length olds ≤ x → out ≡ all
all_done brush row x olds news out all before past =
    sym (append-nil out)
    ∙ ap (λ l. out ++ strokes brush row (x + 1) l (drop x news)) (sym (drop_of_length-le olds past))
    ∙ before

module _ (brush : Option Brush) (row x at : ℕ) (olds news : List Face) (d : Face) (out all : List Operation)
    (before : out ++ left brush row x olds news ≡ all) where
  module _ (here : at ≡ x) (in_olds : x < length olds) (in_news : x < length news) where
    abbrev old : Face
    old = get_or olds at d

    abbrev new : Face
    new = get_or news at d

    dropped : (l : List Face) → x < length l → drop x l ≡ get_or l at d ∷ drop (x + 1) l
    dropped l inside =
        let next : suc x ≡ x + 1 = omega arith in
        drop-cons l x d inside ∙ (λ i. get_or l (sym here i) d ∷ drop (next i) l)

    abbrev after : Bool → Bool → List Operation
    after same ends =
        cond same (strokes brush row (x + 1 + 1) (drop (x + 1) olds) (drop (x + 1) news))
        (cond ends (operations_to_reach brush row (x + 1) (plain_pen WHITE) ++ Clear ∷ [])
        (operations_to_reach brush row (x + 1) new.pen ++ Put new.byte
        ∷ strokes (brush_at (x + 1 + 1) new.pen) row (x + 1 + 1) (drop (x + 1) olds) (drop (x + 1) news)))

    stepped : left brush row x olds news ≡ after (same_face old new) (list_all is_blank_face (drop at news))
    stepped =
        (λ i. strokes brush row (x + 1) (dropped olds in_olds i) (dropped news in_news i))
        ∙ ap (λ l. after (same_face old new) (list_all is_blank_face l)) (sym (dropped news in_news))
        ∙ ap (λ k. after (same_face old new) (list_all is_blank_face (drop k news))) (sym here)

    -- a cell that shows what it did
    pub kept_step : same_face old new ≡ true → out ++ left brush row (x + 1) olds news ≡ all
    kept_step same =
        sym (ap (λ l. out ++ l) (stepped ∙ ap (λ b. after b (list_all is_blank_face (drop at news))) same)) ∙ before

    module _ (other : same_face old new ≡ false) where
      -- the rest of the row was cleared
      pub cleared_step : (mid result : List Operation) (pen : Pen) → list_all is_blank_face (drop at news) ≡ true
          → pen ≡ plain_pen WHITE → mid ≡ out ++ operations_to_reach brush row (x + 1) pen → result ≡ mid ++ Clear ∷ [] → result ≡ all
      cleared_step mid result pen ends pen_is reached is =
          is ∙ ap (λ l. l ++ Clear ∷ []) (reached ∙ ap (λ p. out ++ operations_to_reach brush row (x + 1) p) pen_is)
          ∙ append_assoc out (operations_to_reach brush row (x + 1) (plain_pen WHITE)) (Clear ∷ [])
          ∙ sym (ap (λ l. out ++ l) (stepped ∙ (λ i. after (other i) (ends i)))) ∙ before

      -- a cell was put
      pub put_step : (mid result : List Operation) → list_all is_blank_face (drop at news) ≡ false
          → mid ≡ out ++ operations_to_reach brush row (x + 1) new.pen → result ≡ mid ++ Put new.byte ∷ []
          → result ++ left (brush_at (x + 1 + 1) new.pen) row (x + 1) olds news ≡ all
      put_step mid result ends reached is =
          let rest : List Operation =
          strokes (brush_at (x + 1 + 1) new.pen) row (x + 1 + 1) (drop (x + 1) olds) (drop (x + 1) news) in
          ap (λ l. l ++ rest) (is ∙ ap (λ l. l ++ Put new.byte ∷ []) reached)
          ∙ append_assoc (out ++ operations_to_reach brush row (x + 1) new.pen) (Put new.byte ∷ []) rest
          ∙ append_assoc out (operations_to_reach brush row (x + 1) new.pen) (Put new.byte ∷ rest)
          ∙ sym (ap (λ l. out ++ l) (stepped ∙ (λ i. after (other i) (ends i)))) ∙ before
