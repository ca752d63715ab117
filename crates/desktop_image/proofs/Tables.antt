-- A table of texts or files of which the first was put.
use Rattle.std.proofs.Common.{◌≡◌, List, [], ◌∷◌, All, sym, subst}
use Rattle.std.specs.Map.{values_of}
use Rattle.std.proofs.lemmas.List.Elements.{All-head, All-tail, All-cons}
use Rattle.piece_ring.specs.declared.piece.Piece.{Piece}
use Rattle.desktop_definitions.specs.Looks.{AreLooks}
use Rattle.desktop_definitions.specs.Seen.{seen_text, seen_table}
use Rattle.image_format.specs.Image.{AreSome}

abbrev pub AllLook : {K : Type 0} → List (K × List Piece) → Type 0
AllLook table = All AreLooks (values_of (seen_table [] table))

module _ {K : Type 0} {e : K × List Piece} {left later : List (K × List Piece)} (first : left ≡ e ∷ later) where
  pub first_looks : AllLook left → AreLooks (seen_text [] e.1)
  first_looks looks =
      All-head AreLooks (seen_text [] e.1) (values_of (seen_table [] later)) (subst AllLook first looks)

  pub later_look : AllLook left → AllLook later
  later_look looks =
      All-tail AreLooks (seen_text [] e.1) (values_of (seen_table [] later)) (subst AllLook first looks)

  -- what follows where no piece of what is left is empty, follows where none of the rest is
  pub some_then : {P : Type 0} → (All AreSome (values_of left) → P) → AreSome e.1 → All AreSome (values_of later) → P
  some_then so one rest = so (subst (λ (es : List (K × List Piece)). All AreSome (values_of es)) (sym first)
      (All-cons AreSome e.1 (values_of later) one rest))
