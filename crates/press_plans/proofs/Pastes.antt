-- Nothing of a part of a paste is lost.
use Rattle.std.proofs.Common.{◌≡◌, ◌≤◌, ◌-◌, ℕ, true, List, [], ◌∷◌, ◌++◌, length, take, drop, refl, sym, ap, subst, ◌∙◌}
use Rattle.std.proofs.Common.{arith, append-nil, take-append-drop, length-drop, length-take, leb-true, le-leb}
use Rattle.std.specs.Prelude.{◌&&◌, nat_le, Option, Some, None, Ok, Err, Result, option_map, min}
use Rattle.std.specs.List.{list_all}
use Rattle.std.proofs.lemmas.Bool.{and_parts, and_from, cond-true}
use Rattle.std.proofs.lemmas.List.Folds.{list_all-append}
use Rattle.event_bytes.specs.Bytes.{carriage_return, is_text_byte, is_typed_bytes}
use Rattle.event_bytes.specs.declared.event.Event.{Event}
use Rattle.event_bytes.specs.declared.event.Event.TheVariants.{Typed}
use Rattle.caret_moves.specs.declared.wish.KeyWish.TheVariants.{Place}
use Rattle.caret_moves.specs.declared.wish.WhyNot.{WhyNot}
use Rattle.caret_moves.specs.declared.wish.WhyNot.TheVariants as why
use Rattle.desk_journal.specs.Leading.{led}
use Rattle.filled_pastes.specs.Poured.{HasEnds, none, byte, line_end, poured_at}
use Rattle.filled_pastes.specs.Poured.{PastesLoseNothing, PastesStayShort}
use Rattle.press_tasks.specs.declared.task.Task.{Task}
use Rattle.press_tasks.specs.declared.task.Task.TheVariants.{Post, Pour}
use Rattle.press_tasks.specs.declared.task.Stage.TheVariants.{First}
use Rattle.press_plans.specs.Pastes.{PartsComeWhole, left_to_type, typed_by}
use Rattle.press_plans.specs.Plans.{column_clicked, first_plan, from_column, front_plan, poured_plan, standing, typable}

-- ---- bytes with ends of lines

same_ends : (bs : List ℕ) → HasEnds bs bs
same_ends [] = none
same_ends (b ∷ bs) = byte b (same_ends bs)

ends_longer : {bs typed : List ℕ} → HasEnds bs typed → length bs ≤ length typed
ends_longer none = omega arith
ends_longer (byte b ends) = let less = ends_longer ends in omega (arith, less)
ends_longer (line_end ends) = let less = ends_longer ends in omega (arith, less)

return_is_text : is_text_byte carriage_return ≡ true
unfolding is_text_byte
return_is_text = refl

ends_text : {bs typed : List ℕ} → HasEnds bs typed → list_all is_text_byte bs ≡ true → list_all is_text_byte typed ≡ true
ends_text none is = refl
ends_text (byte {bs = bs} b ends) is =
    let parts = and_parts (is_text_byte b) (list_all is_text_byte bs) is in
    and_from _ _ parts.0 (ends_text ends parts.1)
ends_text (line_end ends) is = and_from _ _ return_is_text (ends_text ends is)

-- ---- bytes that one event types

record IsPart (bs : List ℕ) : Type 0 where
  pub some : 1 ≤ length bs
  pub few : length bs ≤ 900
  pub text : list_all is_text_byte bs ≡ true

parted : (bs : List ℕ) → is_typed_bytes bs ≡ true → IsPart bs
parted bs is =
    let one = and_parts (nat_le 1 (length bs)) (nat_le (length bs) 900 && list_all is_text_byte bs) is in
    let two = and_parts (nat_le (length bs) 900) (list_all is_text_byte bs) one.1 in
    record { some = leb-true 1 (length bs) one.0; few = leb-true (length bs) 900 two.0; text = two.1 }

typed_so : (bs : List ℕ) → IsPart bs → typable bs ≡ Some bs
typed_so bs is = cond-true (is_typed_bytes bs) (Some bs) None
    (and_from _ _ (le-leb 1 (length bs) is.some) (and_from _ _ (le-leb (length bs) 900 is.few) is.text))

-- what is left is nothing, or one event types it
posts_rest : (rest : List ℕ) → length rest ≤ 900 → list_all is_text_byte rest ≡ true
    → left_to_type (option_map (λ (more : List ℕ). Post (Typed more)) (typable rest)) ≡ rest
posts_rest [] few text = refl
posts_rest (b ∷ bs) few text =
    ap (λ (o : Option (List ℕ)). left_to_type (option_map (λ (more : List ℕ). Post (Typed more)) o))
    (typed_so (b ∷ bs) (record { some = omega arith; few = few; text = text }))

pours_rest : (n : ℕ) (rest : List ℕ) → length rest ≤ 900 → list_all is_text_byte rest ≡ true
    → left_to_type (option_map (λ (more : List ℕ). Pour First more n) (typable rest)) ≡ rest
pours_rest n [] few text = refl
pours_rest n (b ∷ bs) few text =
    ap (λ (o : Option (List ℕ)). left_to_type (option_map (λ (more : List ℕ). Pour First more n) o))
    (typed_so (b ∷ bs) (record { some = omega arith; few = few; text = text }))

-- the first so many, and then what is left
module _ (k : ℕ) (bs : List ℕ) (some : 1 ≤ length bs) (one : 1 ≤ k) (most : k ≤ 900) (few : length bs - k ≤ 900)
    (text : list_all is_text_byte bs ≡ true) (next : Option Task) where
  parts : (list_all is_text_byte (take k bs) ≡ true) × (list_all is_text_byte (drop k bs) ≡ true)
  parts = and_parts (list_all is_text_byte (take k bs)) (list_all is_text_byte (drop k bs))
      (sym (list_all-append is_text_byte (take k bs) (drop k bs)) ∙ ap (list_all is_text_byte) (take-append-drop k bs) ∙ text)

  front_long : length (take k bs) ≡ min k (length bs)
  front_long = length-take k bs

  rest_few : length (drop k bs) ≤ 900
  rest_few = let long : length (drop k bs) ≡ length bs - k = length-drop k bs in omega (arith, long, few)

  front_part : IsPart (take k bs)
  front_part = record {
    some = omega (arith, front_long, some, one);
    few = omega (arith, front_long, most);
    text = parts.0;
  }

  both_typed : left_to_type next ≡ drop k bs → typed_by (front_plan (typable (take k bs)) next) ≡ bs
  both_typed is =
      ap (λ (o : Option (List ℕ)). typed_by (front_plan o next)) (typed_so (take k bs) front_part)
      ∙ ap (λ (l : List ℕ). l ++ left_to_type next) (append-nil (take k bs))
      ∙ ap (λ (l : List ℕ). take k bs ++ l) is
      ∙ take-append-drop k bs

-- ---- a part of a paste

module _ (pour : PastesLoseNothing) (short : PastesStayShort) (bs : List ℕ) (part : IsPart bs) where
  as_it_is : HasEnds bs ((bs ++ []) ++ [])
  as_it_is = subst (HasEnds bs) (sym (append-nil (bs ++ []) ∙ append-nil bs)) (same_ends bs)

  columned : (column : Option ℕ) → HasEnds bs (typed_by (from_column column bs))
  columned None = as_it_is
  columned (Some x) =
      let typed : List ℕ = poured_at x bs in
      let ends : HasEnds bs typed = pour x bs in
      let text : list_all is_text_byte typed ≡ true = ends_text ends part.text in
      let longer : length bs ≤ length typed = ends_longer ends in
      let few : length typed - 900 ≤ 900 = omega (arith, short x bs, part.few) in
      let some : 1 ≤ length typed = omega (arith, longer, part.some) in
      subst (HasEnds bs) (sym (both_typed 900 typed some (omega arith) (omega arith) few text
      (option_map (λ (more : List ℕ). Post (Typed more)) (typable (drop 900 typed)))
      (posts_rest (drop 900 typed)
      (rest_few 900 typed some (omega arith) (omega arith) few text None)
      (parts 900 typed some (omega arith) (omega arith) few text None).1))) ends

  first_alone : (typed : ℕ) → HasEnds bs (typed_by (first_plan bs typed))
  first_alone typed =
      let few : length bs - 1 ≤ 900 = omega (arith, part.few) in
      subst (HasEnds bs) (sym (both_typed 1 bs part.some (omega arith) (omega arith) few part.text
      (option_map (λ (more : List ℕ). Pour First more _) (typable (drop 1 bs)))
      (pours_rest _ (drop 1 bs)
      (rest_few 1 bs part.some (omega arith) (omega arith) few part.text None)
      (parts 1 bs part.some (omega arith) (omega arith) few part.text None).1))) (same_ends bs)

  all_typed : (r : Result (List Event) WhyNot) (typed : ℕ) → HasEnds bs (typed_by (poured_plan r bs typed))
  all_typed (Ok events) typed = columned (column_clicked events)
  all_typed (Err why.NotInSight) typed = first_alone typed
  all_typed (Err why.NoCaret) typed = as_it_is
  all_typed (Err why.NoRow) typed = as_it_is
  all_typed (Err why.TooFar) typed = as_it_is
  all_typed (Err why.NothingBehind) typed = as_it_is
  all_typed (Err why.PastEdge) typed = as_it_is
  all_typed (Err why.NoWord) typed = as_it_is
  all_typed (Err why.NothingThere) typed = as_it_is
  all_typed (Err why.NoBreak) typed = as_it_is

pub come_whole : PastesLoseNothing → PastesStayShort → PartsComeWhole
come_whole pour short bs typed d is = all_typed pour short bs (parted bs is) (led d (Place (standing d))) typed
