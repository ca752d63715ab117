-- What is known of the flags of two legs after a call.
use Rattle.std.proofs.Common.{◌≡◌, ◌≢◌, inl, inr, ℕ, Bool, true, false, if◌then◌else◌, refl, sym, ◌∙◌, ap}
use Rattle.std.proofs.Common.{Result, Ok, Err, OnErr}
use Rattle.std.specs.declared.option.Option.{Option}
use Rattle.std.specs.declared.option.Option.TheVariants.{None}
use Rattle.sector_disk.specs.declared.disk.Disk.{Ghosts}
use Rattle.sector_disk.specs.Trail.{now}
use Rattle.sector_disk.specs.Confined.{IsConfined}
use Rattle.sector_disk.proofs.Touching.{still_reads, still_settled}
use Rattle.twin_disk.specs.declared.legs.Left.{Left}
use Rattle.twin_disk.specs.declared.legs.Left.TheVariants.{Both, First, Second}
use Rattle.twin_disk.specs.declared.legs.Legs.{Legs}
use Rattle.twin_disk.specs.Flags.{ShowsFlag, says_alone}
use Rattle.twin_disk.specs.Legs.{Calls, IsFewer, OrFlag}
use Rattle.twin_disk.specs.Twin.{IsFlagged, with_mark}

-- a flag that wasn't touched
pub shows_still : {D : Type 0} (d : Ghosts D) (flag : ℕ) (alone : Bool) {area : ℕ → Type 0} (old new : D) → ¬ area flag
    → IsConfined d.size d.honest d.trail area old new → d.honest old → ShowsFlag flag alone (now (d.trail old))
    → ShowsFlag flag alone (now (d.trail new))
shows_still d flag alone old new out run h was = record {
  settled = still_settled (d.trail old) (d.trail new) (run.moments h) flag out was.settled;
  says = ap says_alone (still_reads (d.trail old) (d.trail new) (run.moments h) flag out) ∙ was.says;
}

pub no_flag : (l : Left) (flag : ℕ) (area : ℕ → Type 0) → l ≢ Both → ¬ area flag → ¬ OrFlag l flag area flag
no_flag Both flag area single out at = single refl
no_flag First flag area single out at = out at
no_flag Second flag area single out at = out at

first_before : (l l' : Left) → IsFewer l l' → l' ≡ First → l ≢ Both → l ≡ First
first_before Both l' fewer is not = absurd (not refl)
first_before First l' fewer is not = refl
first_before Second l' fewer is not = absurd (cc)

second_before : (l l' : Left) → IsFewer l l' → l' ≡ Second → l ≢ Both → l ≡ Second
second_before Both l' fewer is not = absurd (not refl)
second_before First l' fewer is not = absurd (cc)
second_before Second l' fewer is not = refl

was_whole : (l l' : Left) → IsFewer l l' → l' ≡ Both → l ≡ Both
was_whole Both l' fewer is = refl
was_whole First l' fewer is = absurd (cc)
was_whole Second l' fewer is = absurd (cc)

-- which of three
by_left : {P : Type 0} (l : Left) → (l ≡ Both → P) → (l ≢ Both → P) → P
by_left Both both single = both refl
by_left First both single = single (λ is. cc)
by_left Second both single = single (λ is. cc)

module _ {A B : Type 0} (a : Ghosts A) (b : Ghosts B) (flag : ℕ) where
  pub flagged_marked : {lost : Bool} (mark : Option ℕ) (l : Legs A B) → IsFlagged a b flag lost l
      → IsFlagged a b flag lost (with_mark mark l)
  flagged_marked mark l is = record { whole = is.whole; one = is.one; first = is.first; second = is.second }

  pub flagged_if : {lost : Bool} (settled : Bool) (l : Legs A B) → IsFlagged a b flag lost l
      → IsFlagged a b flag lost (if settled then with_mark None l else l)
  flagged_if true l is = flagged_marked None l is
  flagged_if false l is = is

  module _ (area : ℕ → Type 0) (out : ¬ area flag) (old new : Legs A B) (lost : Bool) (left : lost ≡ false)
      (h : a.honest old.first) (h' : b.honest old.second) (was : IsFlagged a b flag lost old) where
    both_still : {alone alone' : Bool} → IsConfined a.size a.honest a.trail area old.first new.first
        → IsConfined b.size b.honest b.trail area old.second new.second
        → ShowsFlag flag alone (now (a.trail old.first)) × ShowsFlag flag alone' (now (b.trail old.second))
        → ShowsFlag flag alone (now (a.trail new.first)) × ShowsFlag flag alone' (now (b.trail new.second))
    both_still first second shown = (
      shows_still a flag _ old.first new.first out first h shown.0,
      shows_still b flag _ old.second new.second out second h' shown.1,
    )

    -- of one leg alone no flag is touched
    single_still : {alone alone' : Bool} {E : Type 0} (result : Result (Unit {0}) E) → Calls a b flag area result old new
        → old.left ≢ Both
        → ShowsFlag flag alone (now (a.trail old.first)) × ShowsFlag flag alone' (now (b.trail old.second))
        → ShowsFlag flag alone (now (a.trail new.first)) × ShowsFlag flag alone' (now (b.trail new.second))
    single_still result calls single shown = (
      shows_still a flag _ old.first new.first (no_flag old.left flag area single out) calls.first h shown.0,
      shows_still b flag _ old.second new.second (no_flag old.left flag area single out) calls.second h' shown.1,
    )

    pub flagged_after : {E : Type 0} (result : Result (Unit {0}) E) → Calls a b flag area result old new → (lost' : Bool)
        → OnErr result (lost' ≡ true) → IsFlagged a b flag lost' new
    flagged_after (Ok r) calls lost' gone = record {
      whole = λ _ both. whole both;
      one = λ both _. (whole both).1;
      first = λ is. by_left old.left
          (λ both. let stood = calls.first_stands h both is in
          (stood.0, shows_still b flag false old.second new.second out stood.1 h' (was.whole left both).1))
          (λ single. single_still (Ok r) calls single (was.first (first_before old.left new.left calls.fewer is single)));
      second = λ is. by_left old.left
          (λ both. let stood = calls.second_stands h' both is in
          (shows_still a flag false old.first new.first out stood.1 h (was.whole left both).0, stood.0))
          (λ single. single_still (Ok r) calls single (was.second (second_before old.left new.left calls.fewer is single)));
    }
      where
        whole : new.left ≡ Both
            → ShowsFlag flag false (now (a.trail new.first)) × ShowsFlag flag false (now (b.trail new.second))
        whole both =
            let before = was_whole old.left new.left calls.fewer both in
            let kept = calls.none (both ∙ sym before) in
            both_still kept.0 kept.1 (was.whole left before)
    flagged_after (Err e) calls lost' gone = record {
      whole = λ not both. absurd (cc);
      one = λ both wrong.
          let shown = was.whole left (sym calls.failed.left ∙ both) in
          elim calls.one [
            | inl kept ↦ absurd (wrong (shows_still a flag false old.first new.first out kept h shown.0))
            | inr kept ↦ shows_still b flag false old.second new.second out kept h' shown.1
          ];
      first = λ is. single_still (Err e) calls (λ both. let first = sym calls.failed.left ∙ is in cc)
          (was.first (sym calls.failed.left ∙ is));
      second = λ is. single_still (Err e) calls (λ both. let second = sym calls.failed.left ∙ is in cc)
          (was.second (sym calls.failed.left ∙ is));
    }
