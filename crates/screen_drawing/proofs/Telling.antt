-- What is spelled is told.
use Rattle.std.proofs.Common.{◌≡◌, ◌<◌, ◌++◌, ◌/◌, ◌%◌, ◌+◌, ◌≤◌, ℕ, List, [], ◌∷◌, Some, refl, arith, Bool, true}
use Rattle.std.proofs.Common.{false}
use Rattle.std.proofs.Common.{Option, None, sym, ap, ◌∙◌, nat_eq}
use Rattle.screen_drawing.specs.declared.pen.Pen.{Pen}
use Rattle.screen_drawing.specs.declared.pen.Weight.{Weight}
use Rattle.screen_drawing.specs.declared.pen.Weight.TheVariants.{Regular, Bold, Faint}
use Rattle.screen_drawing.specs.declared.pen.Rule.{Rule}
use Rattle.screen_drawing.specs.declared.pen.Rule.TheVariants.{Plain, Under, Over}
use Rattle.screen_drawing.specs.declared.operation.Operation.{Operation}
use Rattle.screen_drawing.specs.declared.operation.Operation.TheVariants.{Hold, Release, Hide, Show, Ring, Go}
use Rattle.screen_drawing.specs.declared.operation.Operation.TheVariants.{Take, Put}
use Rattle.screen_drawing.specs.declared.operation.Operation.TheVariants.{Clear, Wipe}
use Rattle.screen_drawing.specs.Pen.{weight_code, slant_code, rule_code}
use Rattle.screen_drawing.specs.Spelling.{AreSendable, IsSendable, operation_bytes, spelled_all, operation_told, number_of_three}
use Rattle.screen_drawing.specs.Spelling.{pen_told, spelled_pen, weight_told, rule_told, number_of_two}

same_number : (n : ℕ) → number_of_three (48 + n / 100) (48 + n / 10 % 10) (48 + n % 10) ≡ n
same_number n = grind (arith)

same_weight : (w : Weight) → weight_told (number_of_two (48 + weight_code w / 10) (48 + weight_code w % 10)) ≡ w
same_weight Regular = refl
same_weight Bold = refl
same_weight Faint = refl

same_slant : (b : Bool) → nat_eq (number_of_two (48 + slant_code b / 10) (48 + slant_code b % 10)) 3 ≡ b
same_slant true = refl
same_slant false = refl

same_rule : (r : Rule) → rule_told (number_of_two (48 + rule_code r / 10) (48 + rule_code r % 10)) ≡ r
same_rule Plain = refl
same_rule Under = refl
same_rule Over = refl

same_pen : (pen : Pen) (rest : List ℕ) → pen_told (spelled_pen pen ++ rest) ≡ pen
same_pen pen rest = λ i. record {
  ink = same_number pen.ink i;
  paper = same_number pen.paper i;
  weight = same_weight pen.weight i;
  is_italic = same_slant pen.is_italic i;
  rule = same_rule pen.rule i;
}

not_clear : (n : ℕ) → n < 256 → nat_eq (48 + n / 100) 75 ≡ false
not_clear n small = grind (arith, small)

not_private : (n : ℕ) → n < 256 → nat_eq (48 + n / 100) 63 ≡ false
not_private n small = grind (arith, small)

not_wipe : (n : ℕ) → nat_eq (48 + n / 10 % 10) 74 ≡ false
not_wipe n = grind (arith)

not_take : (n : ℕ) → nat_eq (48 + n / 10 % 10) 59 ≡ false
not_take n = grind (arith)

no_escape : (b : ℕ) → 32 ≤ b → nat_eq b 27 ≡ false
no_escape b h = grind (arith, h)

no_bell : (b : ℕ) → 32 ≤ b → nat_eq b 7 ≡ false
no_bell b h = grind (arith, h)

pub again : (operation : Operation) (rest : List ℕ) → IsSendable operation
    → operation_told (operation_bytes operation ++ rest) ≡ Some (operation, rest)
again Hold rest fits = refl
again Release rest fits = refl
again Hide rest fits = refl
again Show rest fits = refl
again Ring rest fits = refl
again (Go column row) rest fits =
    rw (not_clear row fits.1, not_private row fits.1, not_wipe row, not_take row, same_number column, same_number row)
    refl
again (Take pen) rest fits = λ i. Some (Take (same_pen pen rest i), rest)
again (Put byte) rest fits = rw (no_escape byte fits.0, no_bell byte fits.0) refl
again Clear rest fits = refl
again Wipe rest fits = refl

abbrev given : Operation × List ℕ → Option (Operation × List ℕ)
given x = Some x

some_is : (x y : Operation × List ℕ) → given x ≡ given y → x ≡ y
some_is x y e = cc

none_some : (x : Operation × List ℕ) → None ≡ given x → ⊥
none_some x e = absurd cc

pub one : (a b : List Operation) → AreSendable a → AreSendable b → spelled_all a ≡ spelled_all b → a ≡ b
one [] [] fa fb e = refl
one [] (o ∷ os) fa fb e = absurd (none_some _ (ap operation_told e ∙ again o (spelled_all os) fb.0))
one (o ∷ os) [] fa fb e = absurd (none_some _ (ap operation_told (sym e) ∙ again o (spelled_all os) fa.0))
one (o ∷ os) (p ∷ ps) fa fb e =
    let same = some_is (o, spelled_all os) (p, spelled_all ps)
    (sym (again o (spelled_all os) fa.0) ∙ (ap operation_told e ∙ again p (spelled_all ps) fb.0)) in
    let rest : os ≡ ps = one os ps fa.1 fb.1 (ap (λ (x : Operation × List ℕ). x.1) same) in
    ap (λ x. x ∷ os) (ap (λ (x : Operation × List ℕ). x.0) same) ∙ ap (λ l. p ∷ l) rest
