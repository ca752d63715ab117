-- Where a line is broken.
use Rattle.std.specs.Prelude.{◌≡◌, ℕ, ◌+◌, ◌-◌, ◌<◌, ◌≤◌, nat_lt, Bool, true, false, if◌then◌else◌, List, length}
use Rattle.std.specs.Prelude.{Option, Some, None, IfSome}
use Rattle.std.proofs.Common.{refl, sym, ap, ◌∙◌, inl, inr, arith}
use Rattle.std.proofs.lemmas.Bool.{ltb-true}
use Rattle.text_frames.specs.Lines.{line_start}
use Rattle.text_frames.specs.Cells.{column_of}
use Rattle.text_frames.proofs.Greatest.{is_greatest}
use Rattle.caret_moves.specs.Runs.{begins_run, run_start}
use Rattle.caret_moves.specs.Filling.{has_room, is_near, break_behind, line_break, IsBreak}
use Rattle.caret_moves.proofs.RunLaws.{start_within}

module _ (bs : List ℕ) (p : ℕ) where
  behind_blank : line_start bs p < run_start false bs p → begins_run false bs (run_start false bs p) ≡ true
  behind_blank more = elim (is_greatest (begins_run false bs) p).passes [
    | inl none ↦ absurd (let no : ⊥ = omega (arith, more, none) in no)
    | inr passes ↦ passes
  ]

  is_behind : IfSome (break_behind bs p) (IsBreak bs p)
  is_behind = (elim (nat_lt (line_start bs p) (run_start false bs p)) as (λ (b : Bool).
      nat_lt (line_start bs p) (run_start false bs p) ≡ b
      → IfSome (let o : Option ℕ = if b then Some (run_start false bs p) else None in o) (IsBreak bs p)) [
        | true ↦ λ is.
            let more : line_start bs p < run_start false bs p =
            ltb-true (line_start bs p) (run_start false bs p) is in
            record { in_line = more; within = start_within false bs p; behind_blank = behind_blank more }
        | false ↦ λ is. tt
      ]) refl

  -- a line is broken behind a blank of its own
  pub breaks_behind : (w n : ℕ) → IfSome (line_break bs w n p) (IsBreak bs p)
  unfolding line_break
  breaks_behind w n = elim (has_room bs w n p) as (λ (b : Bool).
      IfSome (if b then None else (if is_near bs w p then break_behind bs p else None)) (IsBreak bs p)) [
        | true ↦ tt
        | false ↦ elim (is_near bs w p) as (λ (b : Bool).
            IfSome (if b then break_behind bs p else None) (IsBreak bs p)) [ true ↦ is_behind | false ↦ tt ]
      ]

  -- what was read of it
  module _ (w n edge : ℕ) (edge_is : edge ≡ w - n) (b : Bool) (told : b ≡ nat_lt (column_of bs 0 p) edge) where
    room_is : (c : Bool) → b ≡ c → has_room bs w n p ≡ c
    room_is c is = ap (nat_lt (column_of bs 0 p)) (sym edge_is) ∙ sym told ∙ is

    pub roomy : b ≡ true → None ≡ line_break bs w n p
    unfolding line_break
    roomy is = sym (ap (λ (x : Bool).
        let o : Option ℕ = if x then None else (if is_near bs w p then break_behind bs p else None) in o) (room_is true is))

    module _ (full : b ≡ false) where
      by_near : (near : Bool) → near ≡ is_near bs w p
          → (let o : Option ℕ = if near then break_behind bs p else None in o) ≡ line_break bs w n p
      unfolding line_break
      by_near near near_is = ap (λ (x : Bool). let o : Option ℕ = if x then break_behind bs p else None in o) near_is
          ∙ sym (ap (λ (x : Bool).
          let o : Option ℕ = if x then None else (if is_near bs w p then break_behind bs p else None) in o) (room_is false full))

      pub far : false ≡ is_near bs w p → None ≡ line_break bs w n p
      far is = by_near false is

      pub near : true ≡ is_near bs w p → break_behind bs p ≡ line_break bs w n p
      near is = by_near true is

  -- and within the text
  pub break_low : (w n : ℕ) → p ≤ length bs → IfSome (line_break bs w n p) (λ q. q ≤ length bs)
  break_low w n low = weaker (line_break bs w n p) (breaks_behind w n)
    where
      weaker : (o : Option ℕ) → IfSome o (IsBreak bs p) → IfSome o (λ q. q ≤ length bs)
      weaker None is = tt
      weaker (Some q) is = let within = is.within in omega (arith, within, low)
