-- A disk in memory, seen from where it was last told to forget its calls.
use Rattle.std.proofs.Common.{◌≡◌, ◌⊎◌, inl, inr, ◌∙◌, ℕ, ◌+◌, ◌-◌, ◌≤◌, List, [], ◌∷◌, ◌++◌, length, take, Result, Ok, Err}
use Rattle.std.proofs.Common.{OnOk, OnErr, refl, sym, ap, subst, arith, append_assoc}
use Rattle.std.proofs.lemmas.List.{length-append, take-append-le}
use Rattle.std.proofs.Math.Seq.{take-length}
use Rattle.sector_disk.specs.declared.call.DiskCall.{DiskCall}
use Rattle.sector_disk.specs.Trail.{Moment, now, Touches}
use Rattle.sector_disk.specs.Confined.{IsConfined}
use Rattle.sector_disk.specs.Memory.{moment_after, replayed, trail_of, zero_moment}
use Rattle.sector_disk.proofs.Replay.{now-trail, replayed-append, Stays}
use Rattle.sector_disk.proofs.Touching.{stays_put}
use Rattle.page_disks.specs.Recording.{EndsWith, Recording, first_moment, forgotten, recorded, told_before, trail_since}
use Rattle.page_disks.proofs.Repeated.{anew, in_two, present}

-- ---- the calls before the last ones

pub told_is : (calls before since : List DiskCall) → calls ≡ before ++ since → told_before calls since ≡ before
told_is calls before since is =
    let long : length calls ≡ length before + length since = ap length is ∙ length-append before since in
    let front : length calls - length since ≡ length before = omega (arith, long) in
    ap (λ n. take n calls) front ∙ ap (take (length before)) is
    ∙ take-append-le (length before) before since (omega arith) ∙ take-length before

pub told_still : (calls calls' since since' : List DiskCall) (call : DiskCall) → EndsWith calls since
    → calls' ≡ calls ++ call ∷ [] → since' ≡ since ++ call ∷ [] → told_before calls' since' ≡ told_before calls since
told_still calls calls' since since' call ends more added =
    told_is calls' ends.0 since'
    (more ∙ ap (λ l. l ++ call ∷ []) ends.1 ∙ append_assoc ends.0 since (call ∷ []) ∙ ap (λ l. ends.0 ++ l) (sym added))
    ∙ sym (told_is calls ends.0 since ends.1)

pub told_all : (calls since since' : List DiskCall) → EndsWith calls since → since' ≡ []
    → told_before calls since' ≡ told_before calls since ++ since
told_all calls since since' ends none =
    ap (told_before calls) none ∙ told_is calls calls [] (sym (with_none calls)) ∙ ends.1
    ∙ ap (λ l. l ++ since) (sym (told_is calls ends.0 since ends.1))
  where
    with_none : (l : List DiskCall) → l ++ [] ≡ l
    with_none [] = refl
    with_none (x ∷ xs) = ap (λ t. x ∷ t) (with_none xs)

-- the present moment is that of all calls
pub reads_all : (calls since : List DiskCall) → EndsWith calls since
    → replayed (take (length since) since) (replayed (told_before calls since) zero_moment) ≡ now (trail_of calls)
reads_all calls since ends =
    ap (λ l. replayed l (replayed (told_before calls since) zero_moment)) (take-length since)
    ∙ ap (λ l. replayed since (replayed l zero_moment)) (told_is calls ends.0 since ends.1)
    ∙ sym (in_two ends.0 since zero_moment) ∙ ap (λ l. replayed l zero_moment) (sym ends.1) ∙ sym (now-trail calls)

-- ---- one call more

module _ (old new : Recording) (call : DiskCall) (is : new ≡ recorded call old) where
  pub now_more : now (trail_since new) ≡ moment_after call (now (trail_since old))
  now_more = ap (λ d. now (trail_since d)) is ∙ present (recorded call old)
      ∙ replayed-append old.since call (first_moment old) ∙ ap (moment_after call) (sym (present old))

  past : (t : ℕ) → t ≤ length old.since → (trail_since new).at t ≡ (trail_since old).at t
  past t le = ap (λ d. (trail_since d).at t) is
      ∙ ap (λ l. replayed l (first_moment old)) (take-append-le t old.since (call ∷ []) le)

  long : length new.since ≡ length old.since + 1
  long = ap (λ d. length d.since) is ∙ length-append old.since (call ∷ [])

  pub touches : (area : ℕ → Type 0) → Stays area (now (trail_since old)) (moment_after call (now (trail_since old)))
      → Touches area (trail_since old) (trail_since new)
  touches area step = record {
    later = omega (arith, long);
    kept = past;
    reads = λ t above below n out. elim (near t above below) [
      | inl first ↦ ap (λ m. m.reads n) (ap (trail_since new).at first ∙ past (length old.since) (omega arith))
      | inr last ↦ ap (λ m. m.reads n) (ap (trail_since new).at last ∙ now_more) ∙ step.reads n out
    ];
    settled = λ t above below n out was. elim (near t above below) [
      | inl first ↦ ap (λ m. m.pending n) (ap (trail_since new).at first ∙ past (length old.since) (omega arith)) ∙ was
      | inr last ↦ ap (λ m. m.pending n) (ap (trail_since new).at last ∙ now_more) ∙ step.settled n out was
    ];
  }
    where
      near : (t : ℕ) → length old.since ≤ t → t ≤ length new.since → (t ≡ length old.since) ⊎ (t ≡ length new.since)
      near t above below = grind (arith, long)

same_trail : (old new : Recording) → new.told ≡ old.told → new.since ≡ old.since → trail_since new ≡ trail_since old
same_trail old new told since i = record {
  clock = length (since i);
  at = λ t. replayed (take t (since i)) (replayed (told i) zero_moment);
}

-- it is recorded where the call returned Ok, and nothing changed where it returned an error
pub kept_to : {E : Type 0} (result : Result (Unit {0}) E) (area : ℕ → Type 0) (old new : Recording) (call : DiskCall)
    → new.size ≡ old.size → OnOk result (new ≡ recorded call old) → OnErr result (new.told ≡ old.told)
    → OnErr result (new.since ≡ old.since) → ((m : Moment) → Stays area m (moment_after call m))
    → IsConfined (λ d. d.size) (λ _. Unit {0}) trail_since area old new
kept_to (Ok _) area old new call as_large is none still stays = record {
  as_large = as_large;
  still = λ h. h;
  already = λ h. h;
  moments = λ _. touches old new call is area (stays _);
}
kept_to (Err _) area old new call as_large some told since stays = record {
  as_large = as_large;
  still = λ h. h;
  already = λ h. h;
  moments = λ _. subst (Touches area (trail_since old)) (sym (same_trail old new told since))
      (stays_put area (trail_since old));
}

-- what it holds then
pub happened : {E : Type 0} (result : Result (Unit {0}) E) (old new : Recording) (call : DiskCall)
    → OnOk result (new ≡ recorded call old)
    → OnOk result (Unit {0} → now (trail_since new) ≡ moment_after call (now (trail_since old)))
happened (Ok _) old new call is = λ _. now_more old new call is
happened (Err _) old new call none = none

pub nothing_happened : {E : Type 0} (result : Result (Unit {0}) E) (old new : Recording)
    → OnErr result (new.told ≡ old.told) → OnErr result (new.since ≡ old.since)
    → OnErr result (Unit {0} → now (trail_since new) ≡ now (trail_since old))
nothing_happened (Ok _) old new some still = some
nothing_happened (Err _) old new told since = λ _. ap now (same_trail old new told since)

-- ---- what is forgotten

pub forgotten_now : (old new : Recording) → new ≡ forgotten old → now (trail_since new) ≡ now (trail_since old)
forgotten_now old new is = ap (λ d. now (trail_since d)) is ∙ anew old
