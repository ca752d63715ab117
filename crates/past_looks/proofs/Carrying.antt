-- What is known of a person who looks at a past, from press to press. `d` is what is known of a disk.
use Rattle.std.proofs.Common.{◌≡◌, ◌<◌, ◌≤◌, ◌∙◌, ℕ, List, Option, Some, None, true, false, inl, inr, refl, sym, ap, arith, subst}
use Rattle.std.proofs.lemmas.Bool.{true≢false, false≢true}
use Rattle.std.specs.Prelude.{is_some}
use Rattle.sector_disk.specs.declared.disk.Disk.{Ghosts}
use Rattle.desktop_definitions.specs.Desktop.{Desktop}
use Rattle.desktop_definitions.specs.Step.{step}
use Rattle.event_bytes.specs.declared.event.Event.{Event}
use Rattle.desk_journal.specs.Turning.{LeavesThisOrThat}
use Rattle.desk_journal.specs.View.{StoreView}
use Rattle.past_pages.specs.Reading.{IsOnlyReadFrom, IsQuiet}
use Rattle.past_pages.proofs.StillReads.{still_none}
use Rattle.desk_journal.specs.Gathering.{GatheredView}
use Rattle.desk_past.specs.Turning.{ComesToMoment, HasTurnedFar, TurnsFar, TurnsTo}
use Rattle.past_moments.specs.Moments.{IsDesktopAt, IsLastOf}
use Rattle.all_moments.specs.Parts.{AreAllMomentsOf, IsDesktopThen, IsToldThen}
use Rattle.past_moments.specs.declared.moments.Look.{Look}
use Rattle.past_moments.proofs.Carried.{last_on}
use Rattle.all_moments.proofs.Backward.{all_on, desktop_on, then_in_use, words_on}
use Rattle.past_moments.proofs.Telling.{last_is}
use Rattle.past_looks.specs.Looking.{ComesBackTo, ComesOfPress, IsAlike, IsFormerMoment, IsLookerOf, IsSameLook, IsSeenAt}
use Rattle.past_looks.specs.Looking.{KeepsUntouched, SaysBelow, StaysOrTurns, below_of, desktop_before, is_of_mouse, looker_line, untouched_of}
use Rattle.past_looks.specs.Looking.ComesBackTo.{former as back_far, in_use as back_near}
use Rattle.past_looks.specs.Looking.IsSeenAt.{plain, pointed}
use Rattle.past_looks.specs.Looking.LeavesMoment.{former as leaves_far, in_use as leaves_near}
use Rattle.past_looks.specs.Looking.SaysBelow.{asks, says, seeks}
use Rattle.past_looks.specs.Words.{moment_line, said_words}
use Rattle.past_looks.specs.declared.looker.Doing.{Doing}
use Rattle.past_looks.specs.declared.looker.Doing.TheVariants.{Leaves, Stays, Turned}
use Rattle.past_looks.specs.declared.looker.Looker.{Looker}
use Rattle.past_looks.specs.declared.looker.Said.{Said}

-- ---- the moment that is kept, whatever becomes of what is shown

before_some : {E : Type 0} (shown other : Desktop) (kept : Option (StoreView E)) → is_some kept ≡ true
    → desktop_before shown kept ≡ desktop_before other kept
before_some shown other None is = absurd (false≢true is)
before_some shown other (Some one) is = refl

pub before_none : {E : Type 0} (shown : Desktop) (kept : Option (StoreView E)) → is_some kept ≡ false
    → desktop_before shown kept ≡ shown
before_none shown None is = refl
before_none shown (Some one) is = absurd (true≢false is)

pub before_is : {E : Type 0} (shown : Desktop) (kept : Option (StoreView E)) (one : StoreView E) → kept ≡ Some one
    → one.desktop ≡ desktop_before shown kept
before_is shown kept one is = ap (desktop_before shown) (sym is)

pub before_is_none : {E : Type 0} (shown : Desktop) (kept : Option (StoreView E)) → kept ≡ None
    → shown ≡ desktop_before shown kept
before_is_none shown kept is = ap (desktop_before shown) (sym is)

pub kept_still : (v : Looker) → is_some v.untouched ≡ true → KeepsUntouched v v
kept_still v is = record {
  alike = record { moments = refl; shown = refl; desktop = refl; words = refl; moment = refl };
  kept = λ shown. before_some shown v.look.shown.desktop v.untouched is;
}

module _ {D : Type 0} (d : Ghosts D) where
  says_what : {store : StoreView D} (k : ℕ) (asked : Option (List ℕ)) (to : Option ℕ) (said : Said)
      (last : ℕ) (led : List ℕ) → IsLastOf d last store → IsToldThen d k led store
      → SaysBelow d k store (below_of asked to (moment_line k last (said_words said led)))
  says_what k (Some word) to said last led is_last is_led = asks word
  says_what k None (Some to) said last led is_last is_led = seeks to
  says_what k None None said last led is_last is_led = says said last led is_last is_led

  pub line_says : {store : StoreView D} (looker : Looker) → IsLookerOf d looker store
      → SaysBelow d looker.shown store (looker_line looker)
  line_says looker is = says_what looker.shown looker.hand.asked looker.seeks looker.said looker.moments.in_use.extent.last
      looker.look.words.items (last_is d looker.moments.in_use.extent is.moments.known.in_use.extent) is.words

  moment_same : {v v' : Looker} → IsSameLook v v' → untouched_of v' ≡ untouched_of v
  moment_same same = λ i. desktop_before (same.look i).shown.desktop (same.untouched i)

  -- the same moment, of the same past
  pub looker_same : {store : StoreView D} {v v' : Looker} → IsSameLook v v' → IsLookerOf d v store → IsLookerOf d v' store
  looker_same {store = store} same is = record {
    moments = subst (λ m. AreAllMomentsOf d m store) (sym same.moments) is.moments;
    look = subst (λ (x : ℕ × Look). IsSeenAt d x.0 store x.1.shown.desktop) (λ i. (sym same.shown i, sym same.look i)) is.look;
    moment = subst (λ (x : ℕ × Desktop). IsDesktopThen d x.0 x.1 store)
        (λ i. (sym same.shown i, sym (moment_same same) i)) is.moment;
    words = subst (λ (x : ℕ × Look). IsToldThen d x.0 x.1.words.items store) (λ i. (sym same.shown i, sym same.look i)) is.words;
  }

  -- what is seen of it was worked out anew
  pub looker_alike : {store : StoreView D} (v v' : Looker) → IsAlike v v' → IsLookerOf d v store → IsLookerOf d v' store
  looker_alike {store = store} v v' alike is = record {
    moments = subst (λ m. AreAllMomentsOf d m store) (sym alike.moments) is.moments;
    look = subst (λ (x : ℕ × Desktop). IsSeenAt d x.0 store x.1) (λ i. (sym alike.shown i, sym alike.desktop i)) is.look;
    moment = subst (λ (x : ℕ × Desktop). IsDesktopThen d x.0 x.1 store) (λ i. (sym alike.shown i, sym alike.moment i)) is.moment;
    words = subst (λ (x : ℕ × List ℕ). IsToldThen d x.0 x.1 store)
        (λ i. (sym alike.shown i, sym (ap (λ w. w.items) alike.words) i)) is.words;
  }

  pub looker_read : {store : StoreView D} (v v' : Looker) → v'.moments ≡ v.moments → v'.shown ≡ v.shown
      → v'.look.shown.desktop ≡ v.look.shown.desktop → v'.look.words ≡ v.look.words → v'.untouched ≡ v.untouched
      → IsLookerOf d v store → IsLookerOf d v' store
  looker_read v v' moments shown desktop words untouched is =
      let alike : IsAlike v v' = record {
        moments = moments;
        shown = shown;
        desktop = desktop;
        words = words;
        moment = λ i. desktop_before (desktop i) (untouched i);
      } in
      looker_alike v v' alike is

  -- the mouse did something there, and the moment was kept before
  pub looker_pointed : {store : StoreView D} (v mid v' : Looker) (event : Event) → KeepsUntouched v mid → v'.moments ≡ mid.moments
      → v'.shown ≡ mid.shown → v'.look.words ≡ mid.look.words → v'.untouched ≡ mid.untouched → is_of_mouse event ≡ true
      → v'.look.shown.desktop ≡ (step mid.look.shown.desktop event).desktop → IsLookerOf d v store → IsLookerOf d v' store
  looker_pointed {store = store} v mid v' event kept moments shown words untouched of led is =
      let before = looker_alike {store = store} v mid kept.alike is in
      let at : untouched_of v' ≡ untouched_of v =
      (λ i. desktop_before v'.look.shown.desktop (untouched i)) ∙ kept.kept v'.look.shown.desktop in record {
        moments = subst (λ m. AreAllMomentsOf d m store) (sym moments) before.moments;
        look = subst (λ (x : ℕ × Desktop). IsSeenAt d x.0 store x.1) (λ i. (sym shown i, sym led i))
            (pointed before.look event of);
        moment = subst (λ (x : ℕ × Desktop). IsDesktopThen d x.0 x.1 store)
            (λ i. (sym (shown ∙ kept.alike.shown) i, sym at i)) is.moment;
        words = subst (λ (x : ℕ × List ℕ). IsToldThen d x.0 x.1 store)
            (λ i. (sym shown i, sym (ap (λ w. w.items) words) i)) before.words;
      }

  pub same_both : {v v' v'' : Looker} → IsSameLook v v' → IsSameLook v' v'' → IsSameLook v v''
  same_both first second = record {
    moments = second.moments ∙ first.moments;
    shown = second.shown ∙ first.shown;
    look = second.look ∙ first.look;
    untouched = second.untouched ∙ first.untouched;
  }

  -- ---- a store that is only read

  module _ {old mid : StoreView D} (still : IsOnlyReadFrom d old mid) (usable : old.must_reopen ≡ false)
      (quiet : d.honest old.disk → IsQuiet d old) where
    pub seen_on : {k : ℕ} {desktop : Desktop} → IsSeenAt d k old desktop → IsSeenAt d k mid desktop
    seen_on {k = k} {desktop = desktop} (plain was) = plain (desktop_on d still usable quiet k desktop was)
    seen_on (pointed first event of) = pointed (seen_on first) event of

    pub below_on : {k : ℕ} {line : List ℕ} → SaysBelow d k old line → SaysBelow d k mid line
    below_on (asks word) = asks word
    below_on (seeks to) = seeks to
    below_on {k = k} (says said last led is_last is_led) = says said last led
        (last_on d still usable quiet last is_last) (words_on d still usable quiet k led is_led)

    pub looker_on : (looker : Looker) → IsLookerOf d looker old → IsLookerOf d looker mid
    looker_on looker is = record {
      moments = all_on d still usable quiet looker.moments is.moments;
      look = seen_on is.look;
      moment = desktop_on d still usable quiet looker.shown (untouched_of looker) is.moment;
      words = words_on d still usable quiet looker.shown looker.look.words.items is.words;
    }

    -- and more is known of the past than before
    pub looker_moved : (v v' : Looker) → (AreAllMomentsOf d v.moments old → AreAllMomentsOf d v'.moments mid) → v'.shown ≡ v.shown
        → v'.look ≡ v.look → v'.untouched ≡ v.untouched → IsLookerOf d v old → IsLookerOf d v' mid
    looker_moved v v' are shown look untouched is =
        let on = looker_on v is in
        let at : untouched_of v' ≡ untouched_of v = λ i. desktop_before (look i).shown.desktop (untouched i) in record {
          moments = are is.moments;
          look = subst (λ (x : ℕ × Look). IsSeenAt d x.0 mid x.1.shown.desktop) (λ i. (sym shown i, sym look i)) on.look;
          moment = subst (λ (x : ℕ × Desktop). IsDesktopThen d x.0 x.1 mid) (λ i. (sym shown i, sym at i)) on.moment;
          words = subst (λ (x : ℕ × Look). IsToldThen d x.0 x.1.words.items mid) (λ i. (sym shown i, sym look i)) on.words;
        }

  pub stays_read : {old new : StoreView D} {k : ℕ} → IsOnlyReadFrom d old new → StaysOrTurns d k old new
  stays_read still = inl still.left.disk

  pub stays_none : {store : StoreView D} {k : ℕ} → store.must_reopen ≡ false → StaysOrTurns d k store store
  stays_none {store = store} usable = stays_read (still_none d store usable)

  -- ---- it is turned to that moment, of the part in use

  -- such was the desktop
  pub was_near : {store : StoreView D} (looker : Looker) (to : Desktop) → to ≡ untouched_of looker
      → looker.moments.in_use.extent.first ≤ looker.shown → IsLookerOf d looker store → IsDesktopAt d looker.shown to store
  was_near {store = store} looker to same low is = subst (λ x. IsDesktopAt d looker.shown x store) (sym same)
      (then_in_use d store looker.moments.in_use looker.shown (untouched_of looker) is.moments.known.in_use low is.moment)

  pub stays_near : {old new : StoreView D} (looker : Looker) (to : Desktop) → to ≡ untouched_of looker
      → looker.moments.in_use.extent.first ≤ looker.shown → LeavesThisOrThat d to old new
      → TurnsTo d looker.shown to old new → IsLookerOf d looker old → StaysOrTurns d looker.shown old new
  stays_near looker to same low leaves keeps is = inr (leaves_near to (was_near looker to same low is) leaves keeps)

  pub comes_near : {old new : StoreView D} (looker : Looker) (to : GatheredView) → to.desktop ≡ untouched_of looker
      → looker.moments.in_use.extent.first ≤ looker.shown → ComesToMoment d looker.shown to old new
      → IsLookerOf d looker old → ComesBackTo d looker.shown old new
  comes_near looker to same low comes is = back_near to (was_near looker to.desktop same low is) comes

  -- ---- of a former part

  is_former_moment : {store : StoreView D} (looker : Looker) → looker.shown < looker.moments.in_use.extent.first
      → IsLookerOf d looker store → IsFormerMoment d looker.shown store
  is_former_moment looker low is = λ past lies.
      let first : looker.moments.in_use.extent.first ≡ past.start.before = (is.moments.known.in_use.extent past lies).first in
      omega (arith, first, low)

  pub stays_far : {old new : StoreView D} (looker : Looker) → looker.shown < looker.moments.in_use.extent.first
      → TurnsFar d looker.shown old new → IsLookerOf d looker old → StaysOrTurns d looker.shown old new
  stays_far looker low (inl left) is = inl left.disk
  stays_far looker low (inr leaves) is = inr (leaves_far (is_former_moment looker low is) leaves)

  pub comes_far : {old new : StoreView D} (looker : Looker) → looker.shown < looker.moments.in_use.extent.first
      → HasTurnedFar d looker.shown old new → IsLookerOf d looker old → ComesBackTo d looker.shown old new
  comes_far looker low turned is = back_far (is_former_moment looker low is) turned

  -- ---- what a press does

  -- first another one of the same past was shown
  pub does_same : (doing : Doing) (old new : StoreView D) (l l' l'' : Looker) → IsSameLook l l'
      → ComesOfPress d doing l' l'' old new → ComesOfPress d doing l l'' old new
  does_same Stays old new l l' l'' same does =
      (does.0, does.1 ∙ same.shown, λ is. does.2 (looker_same same is))
  does_same Leaves old new l l' l'' same does = does
  does_same Turned old new l l' l'' same does = λ is.
      subst (λ k. ComesBackTo d k old new) same.shown (does (looker_same same is))
