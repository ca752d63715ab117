-- What two legs together did, after a call of each.
use Rattle.std.proofs.Common.{◌≡◌, ◌⊎◌, inl, inr, ℕ, ◌<◌, refl, sym, ◌∙◌, ap, subst, arith}
use Rattle.std.proofs.Common.{List, false, Result, Ok, Err, IsOk, IsErr, OnOk}
use Rattle.sector_disk.specs.declared.disk.Disk.{Ghosts}
use Rattle.sector_disk.specs.Trail.{Moment, Only, CountsFault, after_sync}
use Rattle.sector_disk.specs.Confined.{IsConfined}
use Rattle.sector_disk.proofs.Confinement.{widened, joined}
use Rattle.sector_disk.proofs.Touching.{still_reads, still_settled}
use Rattle.twin_disk.specs.declared.legs.Left.{Left}
use Rattle.twin_disk.specs.declared.legs.Left.TheVariants.{Both, First, Second}
use Rattle.twin_disk.specs.declared.legs.Legs.{Legs}
use Rattle.twin_disk.specs.Legs.{Calls, Drops, Each, IsFewer, Joins, KeepsFirst, KeepsSecond, OrFlag, Rests, StandsAlone}
use Rattle.twin_disk.specs.Legs.{first_now, second_now, HasWritten, HasSettled}

or_flag : (l : Left) → l ≡ Both → (flag : ℕ) (area : ℕ → Type 0) (n : ℕ) → area n ⊎ (n ≡ flag) → OrFlag l flag area n
or_flag Both is flag area n at = at
or_flag First is flag area n at = absurd (cc)
or_flag Second is flag area n at = absurd (cc)

any_fewer : (l l' : Left) → l ≡ Both → IsFewer l l'
any_fewer Both l' is = tt
any_fewer First l' is = absurd (cc)
any_fewer Second l' is = absurd (cc)

none_rests : {A B : Type 0} (l : Left) → l ≡ Both → (x x' : A) (y y' : B) → Rests l x x' y y'
none_rests Both is x x' y y' = tt
none_rests First is x x' y y' = absurd (cc)
none_rests Second is x x' y y' = absurd (cc)

drops_of : (l l' : Left) (P Q : Type 0) → (l' ≡ First → Q) → (l' ≡ Second → P) → Drops l l' P Q
drops_of Both Both P Q first second = tt
drops_of Both First P Q first second = first refl
drops_of Both Second P Q first second = second refl
drops_of First l' P Q first second = tt
drops_of Second l' P Q first second = tt

each_of : (l : Left) (P Q : Type 0) → P → Q → Each l P Q
each_of Both P Q p q = (p, q)
each_of First P Q p q = p
each_of Second P Q p q = q

module _ {A B : Type 0} (a : Ghosts A) (b : Ghosts B) (flag : ℕ) (area : ℕ → Type 0) (old mid : Legs A B)
    (both : old.left ≡ Both) (used : mid.left ≡ old.left)
    (first : KeepsFirst a b flag area old mid) (second : KeepsSecond a b flag area old mid) where
  wide : (n : ℕ) → area n → OrFlag old.left flag area n
  wide n at = or_flag old.left both flag area n (inl at)

  at_flag : (n : ℕ) → Only flag n → OrFlag old.left flag area n
  at_flag n at = or_flag old.left both flag area n (inr at)

  first_wide : KeepsFirst a b flag (OrFlag old.left flag area) old mid
  first_wide = widened a.size a.honest a.trail wide first

  second_wide : KeepsSecond a b flag (OrFlag old.left flag area) old mid
  second_wide = widened b.size b.honest b.trail wide second

  -- both did it, or neither
  did_both : {E : Type 0} (result : Result (Unit {0}) E) → IsOk result → Calls a b flag area result old mid
  did_both (Ok r) ok = record {
    first = first_wide;
    second = second_wide;
    fewer = any_fewer old.left mid.left both;
    rests = none_rests old.left both old.first mid.first old.second mid.second;
    failed = tt;
    cause = drops_of old.left mid.left _ _ (λ is. absurd (cc)) (λ is. absurd (cc));
    one = inl first;
    none = λ same. (first, second);
    first_stands = λ h _ is. absurd (cc);
    second_stands = λ h _ is. absurd (cc);
  }
  did_both (Err e) wrong = absurd (cc)

  did_none : {E : Type 0} (result : Result (Unit {0}) E) → IsErr result → a.failures old.first < a.failures mid.first
      → b.failures old.second < b.failures mid.second → Calls a b flag area result old mid
  did_none (Ok r) wrong failed failed' = absurd (cc)
  did_none (Err e) is failed failed' = record {
    first = first_wide;
    second = second_wide;
    fewer = any_fewer old.left mid.left both;
    rests = none_rests old.left both old.first mid.first old.second mid.second;
    failed = record { left = used; failed = each_of old.left _ _ failed failed' };
    cause = drops_of old.left mid.left _ _ (λ is. absurd (cc)) (λ is. absurd (cc));
    one = inl first;
    none = tt;
    first_stands = tt;
    second_stands = tt;
  }

  -- one did it, and the other one is dropped
  did_first : {E : Type 0} (result : Result (Unit {0}) E) (new : Legs A B) → b.failures old.second < b.failures mid.second
      → a.failures mid.first ≡ a.failures old.first
      → StandsAlone a flag First result mid.first new.first mid.second new.second mid.left new.left
      → Calls a b flag area result old new
  did_first {E} result new failed calm stands = by_result result stands
    where
      first' : KeepsFirst a b flag (OrFlag old.left flag area) old new
      first' = joined a.size a.honest a.trail first_wide (widened a.size a.honest a.trail at_flag stands.kept)

      rested : KeepsSecond a b flag area old new
      rested = subst (IsConfined b.size b.honest b.trail area old.second) (sym stands.rests) second

      failed' : b.failures old.second < b.failures new.second
      failed' = subst (λ x. b.failures old.second < b.failures x) (sym stands.rests) failed

      by_result : (r : Result (Unit {0}) E) → StandsAlone a flag First r mid.first new.first mid.second new.second mid.left new.left
          → Calls a b flag area r old new
      by_result (Ok r) was = record {
        first = first';
        second = widened b.size b.honest b.trail wide rested;
        fewer = any_fewer old.left new.left both;
        rests = none_rests old.left both old.first new.first old.second new.second;
        failed = tt;
        cause = drops_of old.left new.left _ _ (λ is. failed') (λ is. absurd (let left = was.left in cc));
        one = inr rested;
        none = λ same. absurd (let left = was.left in cc);
        first_stands = λ h _ is. (was.alone (first.still h), rested);
        second_stands = λ h _ is. absurd (let left = was.left in cc);
      }
      by_result (Err e) was = record {
        first = first';
        second = widened b.size b.honest b.trail wide rested;
        fewer = any_fewer old.left new.left both;
        rests = none_rests old.left both old.first new.first old.second new.second;
        failed = record {
          left = was.left ∙ used;
          failed = each_of old.left _ _ (let rose = was.cause in omega (arith, rose, calm)) failed';
        };
        cause = drops_of old.left new.left _ _ (λ is. absurd (let left = was.left in cc))
            (λ is. absurd (let left = was.left in cc));
        one = inr rested;
        none = tt;
        first_stands = tt;
        second_stands = tt;
      }

  did_second : {E : Type 0} (result : Result (Unit {0}) E) (new : Legs A B) → a.failures old.first < a.failures mid.first
      → b.failures mid.second ≡ b.failures old.second
      → StandsAlone b flag Second result mid.second new.second mid.first new.first mid.left new.left
      → Calls a b flag area result old new
  did_second {E} result new failed calm stands = by_result result stands
    where
      second' : KeepsSecond a b flag (OrFlag old.left flag area) old new
      second' = joined b.size b.honest b.trail second_wide (widened b.size b.honest b.trail at_flag stands.kept)

      rested : KeepsFirst a b flag area old new
      rested = subst (IsConfined a.size a.honest a.trail area old.first) (sym stands.rests) first

      failed' : a.failures old.first < a.failures new.first
      failed' = subst (λ x. a.failures old.first < a.failures x) (sym stands.rests) failed

      by_result : (r : Result (Unit {0}) E) → StandsAlone b flag Second r mid.second new.second mid.first new.first mid.left new.left
          → Calls a b flag area r old new
      by_result (Ok r) was = record {
        first = widened a.size a.honest a.trail wide rested;
        second = second';
        fewer = any_fewer old.left new.left both;
        rests = none_rests old.left both old.first new.first old.second new.second;
        failed = tt;
        cause = drops_of old.left new.left _ _ (λ is. absurd (let left = was.left in cc)) (λ is. failed');
        one = inl rested;
        none = λ same. absurd (let left = was.left in cc);
        first_stands = λ h _ is. absurd (let left = was.left in cc);
        second_stands = λ h _ is. (was.alone (second.still h), rested);
      }
      by_result (Err e) was = record {
        first = widened a.size a.honest a.trail wide rested;
        second = second';
        fewer = any_fewer old.left new.left both;
        rests = none_rests old.left both old.first new.first old.second new.second;
        failed = record {
          left = was.left ∙ used;
          failed = each_of old.left _ _ failed' (let rose = was.cause in omega (arith, rose, calm));
        };
        cause = drops_of old.left new.left _ _ (λ is. absurd (let left = was.left in cc))
            (λ is. absurd (let left = was.left in cc));
        one = inl rested;
        none = tt;
        first_stands = tt;
        second_stands = tt;
      }

  pub joined_calls : {E : Type 0} (r1 r2 result : Result (Unit {0}) E) (new : Legs A B)
      → CountsFault r1 (a.failures old.first) (a.failures mid.first)
      → CountsFault r2 (b.failures old.second) (b.failures mid.second)
      → Joins a b flag r1 r2 result mid new → Calls a b flag area result old new
  joined_calls (Ok _) (Ok _) result new c1 c2 is = subst (Calls a b flag area result old) (sym is.1) (did_both result is.0)
  joined_calls (Ok _) (Err _) result new c1 c2 is = did_first result new c2 c1 is
  joined_calls (Err _) (Ok _) result new c1 c2 is = did_second result new c1 c2 is
  joined_calls (Err _) (Err _) result new c1 c2 is =
      subst (Calls a b flag area result old) (sym is.1) (did_none result is.0 c1 c2)

at_first : (l : Left) (P Q : Type 0) → l ≡ First → P → Each l P Q
at_first Both P Q is p = absurd (cc)
at_first First P Q is p = p
at_first Second P Q is p = absurd (cc)

at_second : (l : Left) (P Q : Type 0) → l ≡ Second → Q → Each l P Q
at_second Both P Q is q = absurd (cc)
at_second First P Q is q = absurd (cc)
at_second Second P Q is q = q

map_ok : {T E P Q : Type 0} (r : Result T E) → (P → Q) → OnOk r P → OnOk r Q
map_ok (Ok _) f it = f it
map_ok (Err _) f it = tt

-- what holds of a moment holds of each one that is the same before the flag
abbrev IsBesideFlag : ℕ → (Moment → Type 0) → Type 0
IsBesideFlag flag F = (m m' : Moment) → ((k : ℕ) → k < flag → m'.reads k ≡ m.reads k)
    → ((k : ℕ) → k < flag → m.pending k ≡ false → m'.pending k ≡ false) → F m → F m'

module _ {A B E : Type 0} (a : Ghosts A) (b : Ghosts B) (flag : ℕ) (old mid : Legs A B) (F G : Moment → Type 0)
    (keeps : IsBesideFlag flag F) (keeps' : IsBesideFlag flag G) (on : a.honest old.first → a.honest mid.first)
    (on' : b.honest old.second → b.honest mid.second) where
  abbrev Did : Result (Unit {0}) E → Legs A B → Type 0
  Did result new = OnOk result (Each new.left (a.honest old.first → F (first_now a b new))
      (b.honest old.second → G (second_now a b new)))

  did_each : (result : Result (Unit {0}) E) → (a.honest old.first → F (first_now a b mid))
      → (b.honest old.second → G (second_now a b mid)) → Did result mid
  did_each (Ok r) f g = each_of mid.left _ _ f g
  did_each (Err e) f g = tt

  pub joined_each : (r1 r2 result : Result (Unit {0}) E) (new : Legs A B)
      → OnOk r1 (a.honest old.first → F (first_now a b mid)) → OnOk r2 (b.honest old.second → G (second_now a b mid))
      → Joins a b flag r1 r2 result mid new → Did result new
  joined_each (Ok _) (Ok _) result new f g is = subst (Did result) (sym is.1) (did_each result f g)
  joined_each (Ok _) (Err _) (Ok _) new f g is = at_first new.left _ _ is.left
      (λ h. let run = is.kept.moments (on h) in keeps (first_now a b mid) (first_now a b new)
      (λ k low. still_reads (a.trail mid.first) (a.trail new.first) run k (λ is. omega (arith, low, is)))
      (λ k low. still_settled (a.trail mid.first) (a.trail new.first) run k (λ is. omega (arith, low, is))) (f h))
  joined_each (Ok _) (Err _) (Err _) new f g is = tt
  joined_each (Err _) (Ok _) (Ok _) new f g is = at_second new.left _ _ is.left
      (λ h. let run = is.kept.moments (on' h) in keeps' (second_now a b mid) (second_now a b new)
      (λ k low. still_reads (b.trail mid.second) (b.trail new.second) run k (λ is. omega (arith, low, is)))
      (λ k low. still_settled (b.trail mid.second) (b.trail new.second) run k (λ is. omega (arith, low, is))) (g h))
  joined_each (Err _) (Ok _) (Err _) new f g is = tt
  joined_each (Err _) (Err _) (Ok _) new f g is = absurd (let wrong = is.0 in cc)
  joined_each (Err _) (Err _) (Err _) new f g is = tt

pub written_beside : (flag n : ℕ) (bytes : List ℕ) (old : Moment) → IsBesideFlag flag (HasWritten flag n bytes old)
written_beside flag n bytes old m m' reads settled was k low = reads k low ∙ was k low

pub settled_beside : (flag : ℕ) → IsBesideFlag flag (HasSettled flag)
settled_beside flag m m' reads settled was k low = settled k low (was k low)

pub has_settled : {E : Type 0} (H : Type 0) (flag : ℕ) (old new : Moment) (r : Result (Unit {0}) E)
    → OnOk r (H → new ≡ after_sync old) → OnOk r (H → HasSettled flag new)
has_settled H flag old new r = map_ok r (λ is h k low. ap (λ m. m.pending k) (is h))
