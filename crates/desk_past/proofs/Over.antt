-- A past that goes on in its part, or over the next one. `d` is what is known of a disk.
use Rattle.std.proofs.Common.{◌≡◌, ◌⊎◌, inl, inr, ◌+◌, ◌-◌, ◌^◌, ◌<◌, ◌≤◌, ℕ, List, [], ◌∷◌, ◌++◌, length, refl, sym, ◌∙◌, ap, subst, arith, true, false}
use Rattle.std.specs.Prelude.{Bool, Result, Ok, Err, IfErr, IfOk, IsErrOf, OnOk}
use Rattle.sector_disk.specs.declared.disk.Disk.{Ghosts}
use Rattle.sector_disk.specs.Faults.{FailsAs}
use Rattle.sector_disk.specs.Trail.{Content, LeavesOnly, now}
use Rattle.sector_disk.proofs.Touching.{at_last, chained, read_is_an_image, spared, weakened}
use Rattle.event_bytes.specs.declared.event.Event.{Event}
use Rattle.desktop_definitions.specs.Desktop.{Desktop}
use Rattle.desktop_definitions.specs.Step.{step}
use Rattle.store_layout.specs.declared.layout.TheConstants.{JOURNAL_EVENTS, LAST_EPOCH, LAYOUT, STORE_SECTORS}
use Rattle.store_layout.specs.Meaning.{Standing, and_then}
use Rattle.store_slots.specs.Device.{IsOnlyRead, IsSameDevice, StaysWithin}
use Rattle.store_slots.specs.Errors.{OfDesktop, OfPost}
use Rattle.store_slots.specs.declared.error.Error.{Error}
use Rattle.store_slots.specs.declared.error.Error.TheVariants.{Fault, MustReopen, Worn}
use Rattle.desk_journal.specs.Behind.{LeavesPosted}
use Rattle.desk_journal.specs.Checkpointing.{IsRenewed}
use Rattle.desk_journal.specs.Posting.{HasJournalRoom, IsDueBefore}
use Rattle.desk_journal.specs.Undoing.{ShowsStanding}
use Rattle.desk_journal.specs.View.{StoreView}
use Rattle.past_pages.specs.Page.{Page}
use Rattle.past_pages.specs.Parts.{IsPastPart, LiesBeside}
use Rattle.past_pages.specs.Reading.{IsOnlyReadFrom, IsQuiet}
use Rattle.desk_past.specs.Beginning.{AreUncounted, GoesOnBy, GoesOnFrom, HasBegun, IsApart, IsAside, IsBegunOrAside, RemembersFormer}
use Rattle.desk_past.specs.Beginning.{begun_at}
use Rattle.desk_past.specs.Chain.{AreSpans, SpansOf, WasInSpans, WasThen}
use Rattle.desk_past.specs.declared.chain.TheConstants.{NO_EPOCH}
use Rattle.desk_past.specs.Deeds.{PastDeed, posted}
use Rattle.desk_past.specs.Going.{LiesInPart}
use Rattle.desk_past.specs.Keeping.{CanGoOver, CanTurn, HasBegunBehind, IsTurned, IsUnturned, IsWayMade}
use Rattle.desk_past.specs.Past.{KeepsAll, Remembers, Start}
use Rattle.desk_past.proofs.Begun.{aside_both, aside_read, renewed_aside}
use Rattle.desk_past.proofs.Carrying.{both_leave}
use Rattle.desk_past.proofs.Former.{former_within}
use Rattle.desk_past.proofs.Remembering.{post_keeps, post_moments, read_keeps}
use Rattle.desk_past.proofs.Rooms.{behind_start}
use Rattle.desk_past.proofs.Ways.{room_renewed, way_aside, way_renewed}

-- ---- errors

of_used_post : (e : Error) → OfPost e → (e ≡ Worn → ⊥) → (e ≡ MustReopen → ⊥) → OfDesktop e
of_used_post e (inl memory) unworn usable = inl memory
of_used_post e (inr (inl fault)) unworn usable = inr fault
of_used_post e (inr (inr (inl reopen))) unworn usable = absurd (usable reopen)
of_used_post e (inr (inr (inr worn))) unworn usable = absurd (unworn worn)

-- an error of a call on a store in use, whose epoch isn't the last one
pub used_errors : {T : Type 0} (answer : Result T Error) → IfErr answer OfPost → (IsErrOf answer Worn → ⊥)
    → (IsErrOf answer MustReopen → ⊥) → IfErr answer OfDesktop
used_errors (Ok x) errors unworn usable = tt
used_errors (Err e) errors unworn usable = of_used_post e errors (λ is. unworn (ap Err is)) (λ is. usable (ap Err is))

pub used_fails : {T : Type 0} (answer : Result T Error) {old new : ℕ} → FailsAs Fault OfPost answer old new
    → (IsErrOf answer Worn → ⊥) → (IsErrOf answer MustReopen → ⊥) → FailsAs Fault OfDesktop answer old new
used_fails answer fails unworn usable = record {
  rose = fails.rose;
  calm = fails.calm;
  errors = used_errors answer fails.errors unworn usable;
}

module _ {D : Type 0} (d : Ghosts D) where
  -- ---- reads before a call

  -- a checkpoint is due, and can be made
  pub due_still : {old mid : StoreView D} → IsOnlyReadFrom d old mid → IsDueBefore old → IsDueBefore mid
  due_still still due = subst (λ (x : ℕ × ℕ). (JOURNAL_EVENTS ≤ x.0) ⊎ ¬ (x.1 ≡ LAYOUT))
      (λ i. (sym still.left.events i, sym still.left.layout i)) due

  pub can_still : {old mid : StoreView D} → IsOnlyReadFrom d old mid → CanTurn old → CanTurn mid
  can_still still can = (still.usable, λ is. can.1 (sym still.left.epoch ∙ is))

  due_before : {old mid : StoreView D} → IsOnlyReadFrom d old mid → IsDueBefore mid → IsDueBefore old
  due_before still due = subst (λ (x : ℕ × ℕ). (JOURNAL_EVENTS ≤ x.0) ⊎ ¬ (x.1 ≡ LAYOUT))
      (λ i. (still.left.events i, still.left.layout i)) due

  pub way_behind : {old mid : StoreView D} (new : StoreView D) → CanTurn old → IsOnlyReadFrom d old mid
      → IsWayMade d mid new → IsWayMade d old new
  way_behind new can still made = record {
    usable = made.usable ∙ still.usable ∙ sym can.0;
    desktop = λ honest. made.desktop (still.left.disk.device.still honest) ∙ still.left.desktop honest;
    kept = made.kept ∙ still.left.kept;
    way = inr can;
    turn = elim made.turn [
      | inl same ↦ inl (record {
        layout = same.layout ∙ still.left.layout;
        epoch = same.epoch ∙ still.left.epoch;
        events = same.events ∙ still.left.events;
      })
      | inr turned ↦ inr (record {
        due = due_before still turned.due;
        layout = turned.layout;
        epoch = turned.epoch ∙ ap (λ n. n + 1) still.left.epoch;
        events = turned.events;
      })
    ];
  }

  -- a past that begins, or doesn't
  pub way_begun : {old mid : StoreView D} (new : StoreView D) (done : Bool) → CanTurn old → IsDueBefore old
      → IsOnlyReadFrom d old mid → IsBegunOrAside d done mid new → IsWayMade d old new
  way_begun new true can due still renewed = way_renewed d can due
      (renewed_aside d still.left.disk.device (aside_read d still) renewed)
  way_begun new false can due still aside = way_aside d can
      (aside_both d still.left.disk.device (aside_read d still) aside)

  pub begun_usable : (old new : StoreView D) (done : Bool) → IsBegunOrAside d done old new → new.must_reopen ≡ false
  begun_usable old new true renewed = renewed.usable
  begun_usable old new false aside = aside.usable

  -- ---- a past in its part

  module _ {start : Start} {deeds : List PastDeed} {desktop : Desktop} {old : StoreView D}
      (was : KeepsAll d start deeds desktop old) where
    -- a start beside the part is apart from the past
    pub apart_next : (sectors next base : ℕ) → sectors ≡ d.size old.disk → was.remembers.standing.past.next ≡ next
        → LiesInPart d was → LiesBeside sectors next base → IsApart d base was
    apart_next sectors next base large is lies beside =
        let low = behind_start d was in
        let high = lies.within in
        elim (beside start.base lies.end (subst (λ n. IsPastPart n start.base lies.end) (sym large) lies.part)
        (omega (arith, low, is)) (omega (arith, high, is))) [
          | inl below ↦ inl below
          | inr above ↦ inr (omega (arith, above, is))
        ]

    module _ (honest : d.honest old.disk) (quiet : IsQuiet d old) where
      -- reads leave it where it is
      pub lies_still : {X : Type 0} (new : StoreView D) (run : IsOnlyRead d old.disk new.disk)
          (usable : new.must_reopen ≡ false) → LiesInPart d was
          → ((keeps : KeepsAll d start deeds desktop new)
          → keeps.remembers.standing.past.next ≡ was.remembers.standing.past.next → LiesInPart d keeps → X) → X
      unfolding read_keeps
      lies_still new run usable lies f = f (read_keeps d was honest quiet {new = new} run usable) refl (record {
        end = lies.end;
        part = subst (λ n. IsPastPart n start.base lies.end) (sym run.device.as_large) lies.part;
        within = lies.within;
      })

      pub over_still : {X : Type 0} (new : StoreView D) (run : IsOnlyRead d old.disk new.disk)
          (usable : new.must_reopen ≡ false) → new.epoch ≡ old.epoch → CanGoOver d was
          → ((keeps : KeepsAll d start deeds desktop new)
          → keeps.remembers.standing.past.next ≡ was.remembers.standing.past.next → CanGoOver d keeps → X) → X
      unfolding read_keeps
      over_still new run usable epoch can f = f (read_keeps d was honest quiet {new = new} run usable) refl (record {
        lies = record {
          end = can.lies.end;
          part = subst (λ n. IsPastPart n start.base can.lies.end) (sym run.device.as_large) can.lies.part;
          within = can.lies.within;
        };
        parts = record { two = let two = can.parts.two in omega (arith, two, run.device.as_large) };
        few = can.few;
        later = λ is. can.later (sym epoch ∙ is);
      })

      -- and so do they its spans
      pub spans_still : {X : Type 0} (new : StoreView D) (run : IsOnlyRead d old.disk new.disk)
          (usable : new.must_reopen ≡ false) (spans : List (Start × List Page)) (are : SpansOf d was spans) (k : ℕ)
          (at : Desktop) → WasInSpans d was spans are k at
          → ((keeps : KeepsAll d start deeds desktop new) → (are : SpansOf d keeps spans)
          → WasInSpans d keeps spans are k at → X)
          → X
      unfolding read_keeps
      spans_still new run usable spans are k at there f =
          let image = at_last (run.unwritten honest) (now (d.trail new.disk)).reads
          (read_is_an_image (now (d.trail new.disk))) in
          let told = was.remembers.standing.past in
          let moved = subst (λ (x : ℕ × Content). (are : AreSpans x.0 x.1 NO_EPOCH told spans)
          × WasThen x.0 x.1 NO_EPOCH told spans are k at)
          (λ i. (sym run.device.as_large i, λ n. sym (image n (quiet n)) i)) (are, there) in
          f (read_keeps d was honest quiet {new = new} run usable) moved.0 moved.1

      -- its events can be counted
      pub counted_still : (mid : StoreView D) → IsOnlyReadFrom d old mid → CanGoOver d was
          → (ShowsStanding d mid was.remembers.standing) → AreUncounted d mid → ⊥
      counted_still mid still can shows too_many =
          let many = too_many was.remembers.standing shows in omega (arith, many, can.few)

  -- ---- a past that has begun behind it

  pub begun_behind_it : {start : Start} {deeds : List PastDeed} {desktop : Desktop} (old : StoreView D)
      {new : StoreView D} (base : ℕ)
      → d.size new.disk ≡ d.size old.disk → new.must_reopen ≡ false → STORE_SECTORS ≤ base
      → GoesOnFrom (d.size old.disk) base start deeds desktop (now (d.trail new.disk)).reads
      → HasBegunBehind d start deeds desktop [] desktop new
  begun_behind_it {start = start} {deeds = deeds} {desktop = desktop} old {new = new} base large usable behind
      goes = record {
        base = base;
        keeps = record {
          usable = usable;
          behind = behind;
          remembers = subst (λ n. Remembers n (begun_at desktop (start.before + length deeds) base) [] desktop
              (now (d.trail new.disk)).reads) (sym large) goes.anew;
        };
        former = subst (λ n. RemembersFormer n base start deeds desktop (now (d.trail new.disk)).reads) (sym large)
            goes.former;
      }

  -- at each moment of reads the past is there, and behind them it is there or goes on
  pub forgets_behind : {start : Start} {deeds : List PastDeed} {desktop : Desktop} {old mid : StoreView D}
      (new : StoreView D) → IsOnlyReadFrom d old mid
      → LeavesOnly (d.trail old.disk) (d.trail mid.disk) (Remembers (d.size old.disk) start deeds desktop)
      → LeavesOnly (d.trail mid.disk) (d.trail new.disk) (λ c. Remembers (d.size mid.disk) start deeds desktop c
      ⊎ ((base : ℕ) × GoesOnFrom (d.size mid.disk) base start deeds desktop c))
      → LeavesOnly (d.trail old.disk) (d.trail new.disk) (λ c. Remembers (d.size old.disk) start deeds desktop c
      ⊎ ((base : ℕ) × GoesOnFrom (d.size old.disk) base start deeds desktop c))
  forgets_behind {start = start} {deeds = deeds} {desktop = desktop} {mid = mid} new still first second =
      chained (weakened first (λ c was. inl was))
      (subst (λ n. LeavesOnly (d.trail mid.disk) (d.trail new.disk) (λ c. Remembers n start deeds desktop c
      ⊎ ((base : ℕ) × GoesOnFrom n base start deeds desktop c))) still.left.disk.device.as_large second)

  -- an event behind it
  module _ {start : Start} {deeds : List PastDeed} {desktop : Desktop} {mid : StoreView D}
      (begun : HasBegunBehind d start deeds desktop [] desktop mid) (honest : d.honest mid.disk) (quiet : IsQuiet d mid)
      (new : StoreView D) (event : Event) (has : HasJournalRoom mid) (within : StaysWithin d mid.disk new.disk) where
    former_there : LeavesOnly (d.trail mid.disk) (d.trail new.disk)
        (RemembersFormer (d.size mid.disk) begun.base start deeds desktop)
    former_there = weakened
        (spared (λ c. (n : ℕ) → STORE_SECTORS ≤ n → c n ≡ (now (d.trail mid.disk)).reads n) quiet
        (within.moments honest)
        (λ c same n far. same n (λ low. omega (arith, low, far))))
        (λ c same. former_within (now (d.trail mid.disk)).reads c begun.keeps.behind same begun.former)

    pub over_moments : LeavesPosted d event mid new → LeavesOnly (d.trail mid.disk) (d.trail new.disk)
        (λ c. (base : ℕ) × (GoesOnFrom (d.size mid.disk) base start deeds desktop c
        ⊎ GoesOnBy (d.size mid.disk) base start deeds desktop event c))
    over_moments leaves = weakened
        (both_leave (post_moments d begun.keeps honest quiet new event has within leaves) former_there) (λ c x. (
          begun.base,
          elim x.0 [
            | inl anew ↦ inl (record { anew = anew; former = x.1 })
            | inr more ↦ inr (record { anew = more; former = x.1 })
          ],
        ))

    pub over_keeps : new.must_reopen ≡ false → ShowsStanding d new (and_then begun.keeps.remembers.standing event)
        → HasBegunBehind d start deeds desktop (posted event ∷ []) (step desktop event).desktop new
    over_keeps usable shows = record {
      base = begun.base;
      keeps = post_keeps d begun.keeps honest quiet new event has within usable shows;
      former = subst (λ n. RemembersFormer n begun.base start deeds desktop (now (d.trail new.disk)).reads)
          (sym within.as_large)
          (at_last former_there (now (d.trail new.disk)).reads (read_is_an_image (now (d.trail new.disk))));
    }

  -- what a post leaves behind a past that went on, or over to the next part
  pub over_then : {start : Start} {deeds : List PastDeed} {desktop : Desktop} (old mid new : StoreView D)
      (event : Event) → d.size mid.disk ≡ d.size old.disk
      → LeavesOnly (d.trail old.disk) (d.trail mid.disk) (λ c. Remembers (d.size old.disk) start deeds desktop c
      ⊎ ((base : ℕ) × GoesOnFrom (d.size old.disk) base start deeds desktop c))
      → LeavesOnly (d.trail mid.disk) (d.trail new.disk) (λ c. Remembers (d.size mid.disk) start deeds desktop c
      ⊎ Remembers (d.size mid.disk) start (deeds ++ posted event ∷ []) (step desktop event).desktop c)
      ⊎ LeavesOnly (d.trail mid.disk) (d.trail new.disk) (λ c. (base : ℕ)
      × (GoesOnFrom (d.size mid.disk) base start deeds desktop c ⊎ GoesOnBy (d.size mid.disk) base start deeds desktop
      event c))
      → LeavesOnly (d.trail old.disk) (d.trail new.disk) (λ c. Remembers (d.size old.disk) start deeds desktop c
      ⊎ Remembers (d.size old.disk) start (deeds ++ posted event ∷ []) (step desktop event).desktop c
      ⊎ ((base : ℕ) × (GoesOnFrom (d.size old.disk) base start deeds desktop c
      ⊎ GoesOnBy (d.size old.disk) base start deeds desktop event c)))
  over_then {start = start} {deeds = deeds} {desktop = desktop} old mid new event large first second =
      chained (weakened first (λ c x. elim x [
        | inl was ↦ inl was
        | inr on ↦ inr (inr (on.0, inl on.1))
      ])) (elim second [
        | inl same ↦ weakened (subst (λ n. LeavesOnly (d.trail mid.disk) (d.trail new.disk)
            (λ c. Remembers n start deeds desktop c
            ⊎ Remembers n start (deeds ++ posted event ∷ []) (step desktop event).desktop c)) large same)
            (λ c x. elim x [
              | inl was ↦ inl was
              | inr more ↦ inr (inl more)
            ])
        | inr over ↦ weakened (subst (λ n. LeavesOnly (d.trail mid.disk) (d.trail new.disk) (λ c. (base : ℕ)
            × (GoesOnFrom n base start deeds desktop c ⊎ GoesOnBy n base start deeds desktop event c))) large over)
            (λ c x. inr (inr x))
      ])
