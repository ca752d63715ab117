-- The moments of legs during a call, and which leg their flags choose.
use Rattle.std.proofs.Common.{◌≡◌, ◌⊎◌, inl, inr, ℕ, suc, ◌≤◌, nat_lt, List, [], ◌∷◌, ◌++◌, length, Bool}
use Rattle.std.proofs.Common.{true, false, if◌then◌else◌, refl, sym, ◌∙◌, ap, subst, arith}
use Rattle.std.proofs.Common.{Result, Ok, Err, OnOk, OnErr}
use Rattle.std.proofs.lemmas.Bool.{cases_lt}
use Rattle.sector_disk.specs.declared.disk.Disk.{Ghosts}
use Rattle.sector_disk.specs.Trail.{Content, now, IsCrashImage, Nowhere}
use Rattle.std.specs.declared.option.Option.TheVariants.{None}
use Rattle.sector_disk.proofs.Confinement.{stays_put}
use Rattle.sector_disk.specs.Confined.{IsConfined}
use Rattle.sector_disk.proofs.Touching.{widened}
use Rattle.twin_disk.specs.declared.legs.Left.{Left}
use Rattle.twin_disk.specs.declared.legs.Left.TheVariants.{Both, First, Second}
use Rattle.twin_disk.specs.declared.legs.Legs.{Legs}
use Rattle.twin_disk.specs.declared.twin.TwinDisk.{TwinDisk}
use Rattle.twin_disk.specs.Bounded.{bounded_content}
use Rattle.twin_disk.specs.Flags.{ShowsFlag, says_alone}
use Rattle.twin_disk.specs.Legs.{IsFewer, LegsOpened, OrFlag}
use Rattle.twin_disk.specs.Marks.{HasOpened}
use Rattle.twin_disk.specs.Twin.{with_mark, moment_when, SinceStart}
use Rattle.twin_disk.specs.Survival.{first_when, second_when}
use Rattle.twin_disk.specs.Survival.{first_clock, second_clock, first_leg, second_leg, legs_left, is_lost, twin_size, twin_moments, HasHonestLegs}
use Rattle.twin_disk.specs.Choosing.{CallsFollow, FirstSince, FlagsChooseNewest, GoesOn, HasPast, IsSince, KeepsFlag, LegsFollow}
use Rattle.twin_disk.specs.Choosing.{OfChosen, SecondSince, choice_of}
use Rattle.twin_disk.proofs.Flagged.{no_flag}
use Rattle.twin_disk.proofs.Followed.{survives_each}
use Rattle.twin_disk.proofs.Opened.{opens_itself}
use Rattle.twin_disk.proofs.Following.{since_later}
use Rattle.twin_disk.proofs.Surviving.{survives}

-- a moment after those that were noted is one of the twin's after them
step_least : (b : Bool) (k n : ℕ) → (k ≡ n → n ≤ k) → (if b then suc k else 0) ≡ suc n → (b ≡ true) × (k ≡ n)
step_least true k n le is = (refl, omega (arith, is))
step_least false k n le is = absurd (omega (arith, is))

when_least : {L : Type 0} (clock : L → ℕ) (xs more : List L) (u : ℕ) → moment_when clock xs u ≡ length xs
    → length xs ≤ moment_when clock (xs ++ more) u
when_least clock [] more u all = omega arith
when_least clock (x ∷ xs) more u all =
    let parts = step_least (nat_lt (clock x) u) (moment_when clock xs u) (length xs) (λ is. omega (arith, is)) all in
    subst (λ b. suc (length xs) ≤ (if b then suc (moment_when clock (xs ++ more) u) else 0)) (sym parts.0)
    (let le = when_least clock xs more u parts.1 in omega (arith, le))

pub append_nil : {L : Type 0} (xs : List L) → xs ++ [] ≡ xs
append_nil [] = refl
append_nil (x ∷ xs) = ap (λ ys. x ∷ ys) (append_nil xs)

-- what a call touches, said of the flag
pub keeps_flag : {D : Type 0} (d : Ghosts D) (flag : ℕ) (area : ℕ → Type 0) (old new : D) → ¬ area flag
    → IsConfined d.size d.honest d.trail area old new → KeepsFlag d flag old new
keeps_flag d flag area old new out run h = widened (λ n at is. out (subst area is at)) (run.moments h)

pub has_past : {D : Type 0} (d : Ghosts D) (area : ℕ → Type 0) (old new : D)
    → IsConfined d.size d.honest d.trail area old new → d.honest old → HasPast (d.trail old) (d.trail new)
has_past d area old new run h = record { later = (run.moments h).later; kept = (run.moments h).kept }

-- what an image says of a flag that was known
image_says : {D : Type 0} (d : Ghosts D) (flag : ℕ) (alone : Bool) (old new : D) → KeepsFlag d flag old new → d.honest old
    → ShowsFlag flag alone (now (d.trail old)) → (u : ℕ) → (d.trail old).clock ≤ u → u ≤ (d.trail new).clock
    → (image : Content) → IsCrashImage ((d.trail new).at u) image → says_alone (image flag) ≡ alone
image_says d flag alone old new keeps h shown u low high image is =
    let run = keeps h in
    ap says_alone (is flag (run.settled u low high flag (λ out. out refl) shown.settled)
    ∙ run.reads u low high flag (λ out. out refl)) ∙ shown.says

pub bool_two : (b : Bool) → (b ≡ true) ⊎ (b ≡ false)
bool_two true = inl refl
bool_two false = inr refl

-- one of the legs is chosen where not both are alone, and each would do
either_chosen : (x y : Bool) (P Q : Type 0) → P → Q → (x ≡ true → y ≡ true → ⊥) → OfChosen (choice_of x y) P Q
either_chosen false false P Q p q one = p
either_chosen true false P Q p q one = p
either_chosen false true P Q p q one = q
either_chosen true true P Q p q one = one refl refl

first_chosen : (x y : Bool) (P Q : Type 0) → x ≡ true → y ≡ false → P → OfChosen (choice_of x y) P Q
first_chosen false y P Q is not p = absurd (cc)
first_chosen true false P Q is not p = p
first_chosen true true P Q is not p = absurd (cc)

second_chosen : (x y : Bool) (P Q : Type 0) → x ≡ false → y ≡ true → Q → OfChosen (choice_of x y) P Q
second_chosen false false P Q not is q = absurd (cc)
second_chosen false true P Q not is q = q
second_chosen true y P Q not is q = absurd (cc)

pub by_three : {P : Type 0} (l : Left) → (l ≡ Both → P) → (l ≡ First → P) → (l ≡ Second → P) → P
by_three Both both first second = both refl
by_three First both first second = first refl
by_three Second both first second = second refl

fewer_same : (l : Left) → IsFewer l l
fewer_same Both = tt
fewer_same First = refl
fewer_same Second = refl

-- what holds where a call is done, if a leg is left
pub where_left : {T E P : Type 0} (r : Result T E) (lost : Bool) → OnErr r (lost ≡ true) → lost ≡ false → OnOk r P → P
where_left (Ok x) lost gone left it = it
where_left (Err e) lost gone left it = absurd (cc)

module _ {A B : Type 0} (a : Ghosts A) (b : Ghosts B) where
  module _ (old new : TwinDisk A B a b) (on : GoesOn old new) (h : HasHonestLegs old) (h' : HasHonestLegs new) where
    -- what the twin was at the old state
    at_old : (image : Content) → IsCrashImage (now (twin_moments old)) (bounded_content (twin_size old) image)
        → IsSince old new (bounded_content (twin_size new) image)
    at_old image is = record {
      moment = (twin_moments old).clock;
      since = omega arith;
      real = (on.past h).later;
      is = subst (λ n. IsCrashImage ((twin_moments new).at (twin_moments old).clock) (bounded_content n image)) (sym on.size)
          (subst (λ m. IsCrashImage m (bounded_content (twin_size old) image))
          (sym ((on.past h).kept (twin_moments old).clock (omega arith))) is);
    }

    least : (clock : Legs A B → ℕ) (u : ℕ) → moment_when clock old.calls.items u ≡ length old.calls.items
        → length old.calls.items ≤ moment_when clock new.calls.items u
    least clock u all = subst (λ xs. length old.calls.items ≤ moment_when clock xs u) (sym on.calls)
        (when_least clock old.calls.items on.more u all)

    begun : (clock : Legs A B → ℕ) (t u : ℕ) → SinceStart clock old.start.items t → t ≤ u
        → SinceStart clock new.start.items u
    begun clock t u since le = subst (λ xs. SinceStart clock xs u) (sym on.start)
        (since_later clock old.start.items t u le since)

    pub legs_follow : LegsFollow old new
    legs_follow = record {
      first = λ used u since image is. elim (cases_lt (first_clock a old.legs) u) [
        | inl during ↦
            let covered = (survives_each a b new).first h' u
            (begun (first_clock a) (first_clock a old.legs) u (old.first_followed h).begun since.0, since.1) in
            record {
              moment = first_when new u;
              since = least (first_clock a) u ((old.first_followed h).beyond u during);
              real = covered.real;
              is = covered.images image is;
            }
        | inr before ↦
            let now_old : u ≡ first_clock a old.legs = let low = since.0 in omega (arith, low, before) in
            at_old image ((survives a b old).first h used image
            (subst (λ m. IsCrashImage m image) ((on.first h.first).kept u before ∙ ap (a.trail (first_leg old)).at now_old) is))
      ];
      second = λ used u since image is. elim (cases_lt (second_clock b old.legs) u) [
        | inl during ↦
            let covered = (survives_each a b new).second h' u
            (begun (second_clock b) (second_clock b old.legs) u (old.second_followed h).begun since.0, since.1) in
            record {
              moment = second_when new u;
              since = least (second_clock b) u ((old.second_followed h).beyond u during);
              real = covered.real;
              is = covered.images image is;
            }
        | inr before ↦
            let now_old : u ≡ second_clock b old.legs = let low = since.0 in omega (arith, low, before) in
            at_old image ((survives a b old).second h used image
            (subst (λ m. IsCrashImage m image) ((on.second h.second).kept u before ∙ ap (b.trail (second_leg old)).at now_old) is))
      ];
    }

    module _ (u v : ℕ) (since_u : FirstSince old new u) (since_v : SecondSince old new v) (i j : Content)
        (is_i : IsCrashImage ((a.trail (first_leg new)).at u) i) (is_j : IsCrashImage ((b.trail (second_leg new)).at v) j) where
      abbrev flag : ℕ
      flag = twin_size old

      first_says : (alone : Bool) → KeepsFlag a flag (first_leg old) (first_leg new)
          → ShowsFlag flag alone (now (a.trail (first_leg old))) → says_alone (i flag) ≡ alone
      first_says alone keeps shown =
          image_says a flag alone (first_leg old) (first_leg new) keeps h.first shown u since_u.0 since_u.1 i is_i

      second_says : (alone : Bool) → KeepsFlag b flag (second_leg old) (second_leg new)
          → ShowsFlag flag alone (now (b.trail (second_leg old))) → says_alone (j flag) ≡ alone
      second_says alone keeps shown =
          image_says b flag alone (second_leg old) (second_leg new) keeps h.second shown v since_v.0 since_v.1 j is_j

      differ : (x y : Bool) → x ≡ true → y ≡ false → x ≡ y → ⊥
      differ x y is not same = cc

      not_both : legs_left old ≡ Both → says_alone (i flag) ≡ true → says_alone (j flag) ≡ true → ⊥
      not_both both alone alone' = elim (bool_two (is_lost old)) [
        | inl lost ↦
            let keeps = on.none (inr lost) in
            let shown = (old.flagged h).one both (λ shown. let says = first_says false keeps.0 shown in cc) in
            let says = second_says false keeps.1 shown in cc
        | inr left ↦
            let shown = (old.flagged h).whole left both in
            elim on.one [
              | inl keeps ↦ let says = first_says false keeps shown.0 in cc
              | inr keeps ↦ let says = second_says false keeps shown.1 in cc
            ]
      ]

      at_flag : OfChosen (choice_of (says_alone (i flag)) (says_alone (j flag)))
          (IsSince old new (bounded_content (twin_size new) i)) (IsSince old new (bounded_content (twin_size new) j))
      at_flag = by_three (legs_left old)
          (λ both. either_chosen (says_alone (i flag)) (says_alone (j flag)) _ _
          (legs_follow.first (λ is. cc) u since_u i is_i) (legs_follow.second (λ is. cc) v since_v j is_j) (not_both both))
          (λ first.
          let keeps = on.none (inl (λ both. cc)) in
          let shown = (old.flagged h).first first in
          first_chosen (says_alone (i flag)) (says_alone (j flag)) _ _ (first_says true keeps.0 shown.0)
          (second_says false keeps.1 shown.1) (legs_follow.first (λ is. cc) u since_u i is_i))
          (λ second.
          let keeps = on.none (inl (λ both. cc)) in
          let shown = (old.flagged h).second second in
          second_chosen (says_alone (i flag)) (says_alone (j flag)) _ _ (first_says false keeps.0 shown.0)
          (second_says true keeps.1 shown.1) (legs_follow.second (λ is. cc) v since_v j is_j))

      pub chosen_since : OfChosen (choice_of (says_alone (i (twin_size new))) (says_alone (j (twin_size new))))
          (IsSince old new (bounded_content (twin_size new) i)) (IsSince old new (bounded_content (twin_size new) j))
      chosen_since = subst (λ n. OfChosen (choice_of (says_alone (i n)) (says_alone (j n)))
          (IsSince old new (bounded_content (twin_size new) i)) (IsSince old new (bounded_content (twin_size new) j)))
          (sym on.size) at_flag

  pub all_follow : CallsFollow a b
  all_follow old new on h h' = legs_follow old new on h h'

  pub all_choose : FlagsChooseNewest a b
  all_choose old new on h h' = record {
    chosen = λ u v since_u since_v i j is_i is_j. chosen_since old new on h h' u v since_u since_v i j is_i is_j;
  }

  -- what a call does to legs, and what was noted of it
  pub goes_on : (old new : TwinDisk A B a b) (area : ℕ → Type 0) (more : List (Legs A B)) → ¬ area (twin_size old)
      → new.calls.items ≡ old.calls.items ++ more → new.start.items ≡ old.start.items → twin_size new ≡ twin_size old
      → (HasHonestLegs old → HasPast (twin_moments old) (twin_moments new)) → is_lost old ≡ false
      → IsConfined a.size a.honest a.trail (OrFlag (legs_left old) (twin_size old) area) (first_leg old) (first_leg new)
      → IsConfined b.size b.honest b.trail (OrFlag (legs_left old) (twin_size old) area) (second_leg old) (second_leg new)
      → IsConfined a.size a.honest a.trail area (first_leg old) (first_leg new)
      ⊎ IsConfined b.size b.honest b.trail area (second_leg old) (second_leg new)
      → IsFewer (legs_left old) (legs_left new)
      → (legs_left new ≡ legs_left old → is_lost new ≡ false
      → IsConfined a.size a.honest a.trail area (first_leg old) (first_leg new)
      × IsConfined b.size b.honest b.trail area (second_leg old) (second_leg new))
      → LegsOpened a b (twin_size old) old.closed new.closed old.legs new.legs
      → GoesOn old new
  goes_on old new area more out calls start size past left first second one fewer same opened = record {
    more = more;
    calls = calls;
    start = start;
    size = size;
    past = past;
    fewer = fewer;
    over = λ lost. absurd (cc);
    first_still = first.still;
    second_still = second.still;
    first_opened = λ h. opened.first h (old.first_open h);
    second_opened = λ h. opened.second h (old.second_open h);
    same = λ is none. let kept = same is none in (
      keeps_flag a (twin_size old) area (first_leg old) (first_leg new) out kept.0,
      keeps_flag b (twin_size old) area (second_leg old) (second_leg new) out kept.1,
    );
    first = has_past a (OrFlag (legs_left old) (twin_size old) area) (first_leg old) (first_leg new) first;
    second = has_past b (OrFlag (legs_left old) (twin_size old) area) (second_leg old) (second_leg new) second;
    one = elim one [
      | inl keeps ↦ inl (keeps_flag a (twin_size old) area (first_leg old) (first_leg new) out keeps)
      | inr keeps ↦ inr (keeps_flag b (twin_size old) area (second_leg old) (second_leg new) out keeps)
    ];
    none = λ why. elim why [
      | inl single ↦
          let out' = no_flag (legs_left old) (twin_size old) area single out in (
            keeps_flag a (twin_size old) (OrFlag (legs_left old) (twin_size old) area) (first_leg old) (first_leg new) out' first,
            keeps_flag b (twin_size old) (OrFlag (legs_left old) (twin_size old) area) (second_leg old) (second_leg new) out' second,
          )
      | inr lost ↦ absurd (cc)
    ];
  }

  -- nothing was done
  pub goes_nowhere : (old new : TwinDisk A B a b) → new.legs ≡ old.legs → new.closed ≡ old.closed
      → (is_lost old ≡ true → is_lost new ≡ true) → new.calls.items ≡ old.calls.items
      → new.start.items ≡ old.start.items → twin_size new ≡ twin_size old
      → (HasHonestLegs old → HasPast (twin_moments old) (twin_moments new)) → GoesOn old new
  goes_nowhere old new same shut over calls start size past =
      let first : IsConfined a.size a.honest a.trail Nowhere (first_leg old) (first_leg new) =
      subst (λ l. IsConfined a.size a.honest a.trail Nowhere (first_leg old) l.first) (sym same)
      (stays_put a.size a.honest a.trail Nowhere (first_leg old)) in
      let second : IsConfined b.size b.honest b.trail Nowhere (second_leg old) (second_leg new) =
      subst (λ l. IsConfined b.size b.honest b.trail Nowhere (second_leg old) l.second) (sym same)
      (stays_put b.size b.honest b.trail Nowhere (second_leg old)) in
      let first_flag = keeps_flag a (twin_size old) Nowhere (first_leg old) (first_leg new) (λ none. none) first in
      let second_flag = keeps_flag b (twin_size old) Nowhere (second_leg old) (second_leg new) (λ none. none) second in
      record {
        more = [];
        calls = calls ∙ sym (append_nil old.calls.items);
        start = start;
        size = size;
        past = past;
        fewer = subst (λ l. IsFewer old.legs.left l.left) (sym same) (fewer_same old.legs.left);
        over = over;
        first_still = first.still;
        second_still = second.still;
        first_opened = λ h. subst (λ c. HasOpened a (twin_size old) old.closed.first c.first (first_leg old) (first_leg new))
            (sym shut) (subst (λ l. HasOpened a (twin_size old) old.closed.first old.closed.first (first_leg old) l.first)
            (sym same) (opens_itself a (twin_size old) old.closed.first (first_leg old) h (old.first_open h)));
        second_opened = λ h. subst (λ c. HasOpened b (twin_size old) old.closed.second c.second (second_leg old) (second_leg new))
            (sym shut) (subst (λ l. HasOpened b (twin_size old) old.closed.second old.closed.second (second_leg old) l.second)
            (sym same) (opens_itself b (twin_size old) old.closed.second (second_leg old) h (old.second_open h)));
        same = λ is left. (first_flag, second_flag);
        first = has_past a Nowhere (first_leg old) (first_leg new) first;
        second = has_past b Nowhere (second_leg old) (second_leg new) second;
        one = inl first_flag;
        none = λ _. (first_flag, second_flag);
      }

-- what is noted of a sync
pub synced_calls : {A B : Type 0} (settled : Bool) (calls : List (Legs A B)) (mid : Legs A B)
    → (if settled then calls ++ with_mark None mid ∷ [] else calls)
    ≡ calls ++ (if settled then with_mark None mid ∷ [] else [])
synced_calls true calls mid = refl
synced_calls false calls mid = sym (append_nil calls)

pub first_if : {A B : Type 0} (settled : Bool) (mid : Legs A B) → (if settled then with_mark None mid else mid).first ≡ mid.first
first_if true mid = refl
first_if false mid = refl

pub second_if : {A B : Type 0} (settled : Bool) (mid : Legs A B)
    → (if settled then with_mark None mid else mid).second ≡ mid.second
second_if true mid = refl
second_if false mid = refl

pub left_if : {A B : Type 0} (settled : Bool) (mid : Legs A B) → (if settled then with_mark None mid else mid).left ≡ mid.left
left_if true mid = refl
left_if false mid = refl
