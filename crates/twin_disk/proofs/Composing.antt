-- Calls of a twin, one after another.
use Rattle.std.proofs.Common.{◌≡◌, ◌≢◌, ◌⊎◌, inl, inr, ℕ, ◌++◌, true, false, refl, sym, ◌∙◌, ap, subst, arith}
use Rattle.std.proofs.Common.{append_assoc}
use Rattle.sector_disk.specs.declared.disk.Disk.{Ghosts}
use Rattle.sector_disk.specs.Trail.{Trail}
use Rattle.sector_disk.proofs.Touching.{joined}
use Rattle.twin_disk.specs.declared.legs.Left.{Left}
use Rattle.twin_disk.specs.declared.legs.Left.TheVariants.{Both, First, Second}
use Rattle.twin_disk.specs.declared.twin.TwinDisk.{TwinDisk}
use Rattle.twin_disk.specs.Legs.{IsFewer}
use Rattle.twin_disk.specs.Marks.{HasOpened}
use Rattle.twin_disk.specs.Survival.{first_closed, first_leg, second_closed, second_leg, legs_left, is_lost, twin_size}
use Rattle.twin_disk.specs.Choosing.{CallsCompose, GoesOn, HasPast, KeepsFlag}
use Rattle.twin_disk.proofs.Chosen.{bool_two}
use Rattle.twin_disk.proofs.Opened.{opened_on}

fewer_on : (l m n : Left) → IsFewer l m → IsFewer m n → IsFewer l n
fewer_on Both m n f g = tt
fewer_on First m n f g = subst (λ l. IsFewer l n) f g
fewer_on Second m n f g = subst (λ l. IsFewer l n) f g

-- what was left and is left still was left in between
same_between : (l m n : Left) → IsFewer l m → IsFewer m n → n ≡ l → m ≡ l
same_between Both Both n f g is = refl
same_between Both First n f g is = absurd (cc)
same_between Both Second n f g is = absurd (cc)
same_between First m n f g is = f
same_between Second m n f g is = f

single_on : (l m : Left) → IsFewer l m → l ≢ Both → m ≢ Both
single_on Both m f single both = single refl
single_on First m f single both = cc
single_on Second m f single both = cc

same_or_single : (l m : Left) → IsFewer l m → (m ≡ l) ⊎ (m ≢ Both)
same_or_single Both Both f = inl refl
same_or_single Both First f = inr (λ is. cc)
same_or_single Both Second f = inr (λ is. cc)
same_or_single First m f = inl f
same_or_single Second m f = inl f

past_on : {x y z : Trail} → HasPast x y → HasPast y z → HasPast x z
past_on f g = record {
  later = let low = f.later in let high = g.later in omega (arith, low, high);
  kept = λ t le. g.kept t (let low = f.later in omega (arith, le, low)) ∙ f.kept t le;
}

keeps_on : {D : Type 0} (d : Ghosts D) (flag flag' : ℕ) (old mid new : D) → flag' ≡ flag → (d.honest old → d.honest mid)
    → KeepsFlag d flag old mid → KeepsFlag d flag' mid new → KeepsFlag d flag old new
keeps_on d flag flag' old mid new same still f g h =
    joined (f h) (subst (λ n. KeepsFlag d n mid new) same g (still h))

module _ {A B : Type 0} (a : Ghosts A) (b : Ghosts B) where
  module _ (old mid new : TwinDisk A B a b) (f : GoesOn old mid) (g : GoesOn mid new) where
    first_on : KeepsFlag a (twin_size old) (first_leg old) (first_leg mid)
        → KeepsFlag a (twin_size mid) (first_leg mid) (first_leg new)
        → KeepsFlag a (twin_size old) (first_leg old) (first_leg new)
    first_on k l = keeps_on a (twin_size old) (twin_size mid) (first_leg old) (first_leg mid) (first_leg new) f.size
        f.first_still k l

    second_on : KeepsFlag b (twin_size old) (second_leg old) (second_leg mid)
        → KeepsFlag b (twin_size mid) (second_leg mid) (second_leg new)
        → KeepsFlag b (twin_size old) (second_leg old) (second_leg new)
    second_on k l = keeps_on b (twin_size old) (twin_size mid) (second_leg old) (second_leg mid) (second_leg new) f.size
        f.second_still k l

    behind : (legs_left mid ≢ Both) ⊎ (is_lost mid ≡ true)
        → KeepsFlag a (twin_size old) (first_leg old) (first_leg new)
        ⊎ KeepsFlag b (twin_size old) (second_leg old) (second_leg new)
    behind why = let l = g.none why in elim f.one [
      | inl k ↦ inl (first_on k l.0)
      | inr k ↦ inr (second_on k l.1)
    ]

    -- where none was dropped so far no flag was touched
    before : legs_left mid ≡ legs_left old → is_lost mid ≡ false
        → KeepsFlag a (twin_size old) (first_leg old) (first_leg new)
        ⊎ KeepsFlag b (twin_size old) (second_leg old) (second_leg new)
    before is left = let k = f.same is left in elim g.one [
      | inl l ↦ inl (first_on k.0 l)
      | inr l ↦ inr (second_on k.1 l)
    ]

    one_touched : KeepsFlag a (twin_size old) (first_leg old) (first_leg new)
        ⊎ KeepsFlag b (twin_size old) (second_leg old) (second_leg new)
    one_touched = elim (same_or_single (legs_left old) (legs_left mid) f.fewer) [
      | inr single ↦ behind (inl single)
      | inl is ↦ elim (bool_two (is_lost mid)) [
        | inl lost ↦ behind (inr lost)
        | inr left ↦ before is left
      ]
    ]

    spent : (legs_left old ≢ Both) ⊎ (is_lost old ≡ true) → (legs_left mid ≢ Both) ⊎ (is_lost mid ≡ true)
    spent why = elim why [
      | inl single ↦ inl (single_on (legs_left old) (legs_left mid) f.fewer single)
      | inr lost ↦ inr (f.over lost)
    ]

    left_between : is_lost new ≡ false → is_lost mid ≡ false
    left_between left = elim (bool_two (is_lost mid)) [
      | inl lost ↦ let over = g.over lost in absurd (cc)
      | inr left ↦ left
    ]

    first_opened : a.honest (first_leg old) → HasOpened a (twin_size old) (first_closed old) (first_closed new) (first_leg old)
        (first_leg new)
    first_opened h = opened_on a (twin_size old) (f.first_opened h)
        (subst (λ n. HasOpened a n (first_closed mid) (first_closed new) (first_leg mid) (first_leg new)) f.size
        (g.first_opened (f.first_still h)))

    second_opened : b.honest (second_leg old) → HasOpened b (twin_size old) (second_closed old) (second_closed new)
        (second_leg old) (second_leg new)
    second_opened h = opened_on b (twin_size old) (f.second_opened h)
        (subst (λ n. HasOpened b n (second_closed mid) (second_closed new) (second_leg mid) (second_leg new)) f.size
        (g.second_opened (f.second_still h)))

    composed : GoesOn old new
    composed = record {
      more = f.more ++ g.more;
      calls = g.calls ∙ ap (λ xs. xs ++ g.more) f.calls ∙ append_assoc old.calls.items f.more g.more;
      start = g.start ∙ f.start;
      size = g.size ∙ f.size;
      past = λ h. past_on (f.past h) (g.past (record { first = f.first_still h.first; second = f.second_still h.second }));
      fewer = fewer_on (legs_left old) (legs_left mid) (legs_left new) f.fewer g.fewer;
      over = λ lost. g.over (f.over lost);
      first_still = λ h. g.first_still (f.first_still h);
      second_still = λ h. g.second_still (f.second_still h);
      first = λ h. past_on (f.first h) (g.first (f.first_still h));
      second = λ h. past_on (f.second h) (g.second (f.second_still h));
      first_opened = first_opened;
      second_opened = second_opened;
      one = one_touched;
      none = λ why. let k = f.none why in let l = g.none (spent why) in (first_on k.0 l.0, second_on k.1 l.1);
      same = λ is left.
          let k = f.same (same_between (legs_left old) (legs_left mid) (legs_left new) f.fewer g.fewer is) (left_between left) in
          let l = g.same (is ∙ sym (same_between (legs_left old) (legs_left mid) (legs_left new) f.fewer g.fewer is)) left in
          (first_on k.0 l.0, second_on k.1 l.1);
    }

  pub all_compose : CallsCompose a b
  all_compose old mid new f g = composed old mid new f g
