-- What a store knows of its disk before and after its last events were taken back. `d` is what is known of a disk.
use Rattle.std.proofs.Common.{◌≡◌, inl, inr, ◌<◌, ◌≤◌, ℕ, List, [], length, refl, sym, ◌∙◌, ap, subst, arith, Bool, false}
use Rattle.std.specs.Prelude.{IfErr, Result, Ok, Err}
use Rattle.std.proofs.lemmas.Bool.{cases_lt}
use Rattle.std.proofs.lemmas.List.{append-nil}
use Rattle.sector_disk.specs.declared.disk.Disk.{Ghosts}
use Rattle.sector_disk.specs.Confined.{IsConfined}
use Rattle.sector_disk.specs.Trail.{now, LeavesOnly, Touches, Nowhere}
use Rattle.sector_disk.proofs.Touching.{chained, spared, still_all, still_reads}
use Rattle.event_bytes.specs.declared.event.Event.{Event}
use Rattle.store_layout.specs.declared.layout.TheConstants.{JOURNAL_EVENTS, SLOTS}
use Rattle.store_layout.specs.Layout.{head_of, slot_head}
use Rattle.store_layout.specs.Meaning.{Standing, Stands, desktop_of, and_all, full_sectors}
use Rattle.store_layout.specs.Kept.{IsSettled}
use Rattle.store_layout.specs.Finding.{StandingLaw}
use Rattle.store_slots.specs.declared.live.LiveDesktop.{LiveDesktop}
use Rattle.store_slots.specs.Beside.{GoesBackTo, InUndo, IsCountedBack, IsEarlier, IsRest, NothingBefore, StandsOneOf, within}
use Rattle.store_slots.specs.Live.{seen_live, IsLive, HasTrueCache}
use Rattle.store_slots.specs.Written.{IsUpTo}
use Rattle.store_slots.proofs.Settling.{kept_shows}
use Rattle.store_slots.proofs.Staying.{IsApart, apart_nowhere, live_stays, shown_stays}
use Rattle.store_slots.proofs.TakingBack.{still_up_to}
use Rattle.store_slots.specs.declared.error.Error.{Error}
use Rattle.store_slots.specs.Device.{IsSameDevice, StaysWithin}
use Rattle.store_slots.specs.Errors.{OfDesktop, OfLook}
use Rattle.sector_disk.proofs.Confinement as confined
use Rattle.desk_journal.specs.Checkpointing.{IsRenewed}
use Rattle.desk_journal.specs.Posting.{IsDueBefore}
use Rattle.desk_journal.specs.Undoing.{IsAdded, IsLeft, IsTakenBack, LeavesRest, ShowsStanding}
use Rattle.desk_journal.specs.View.{StoreView}
use Rattle.desk_journal.proofs.Between.{no_need}
use Rattle.desk_journal.proofs.Storing.{Knows, looked_at}

-- the disk was read beside what the store has in memory
pub read_beside : {D : Type 0} (d : Ghosts D) {slot version epoch events : ℕ} {old new : D} {live : LiveDesktop}
    → IsConfined d.size d.honest d.trail Nowhere old new → Knows d old slot version epoch events live
    → Knows d new slot version epoch events live
read_beside d {slot = slot} {version = version} {epoch = epoch} {events = events} {old = old} {new = new} {live = live}
    run was = looked_at d slot version epoch events old new live live run (record {
      shown_same = λ honest. shown_stays (d.trail old) (d.trail new) live (run.moments honest)
          (apart_nowhere live.pages);
      kept_same = refl;
      area_same = refl;
      renewed_before = λ not. not;
      place_same = λ not. refl;
      told = live_stays d live run (apart_nowhere live.pages) was.4;
      live = was.3;
    }) was

module _ {D : Type 0} (d : Ghosts D) {slot version epoch events : ℕ} {old : D} {live : LiveDesktop}
    (was : Knows d old slot version epoch events live) (honest : d.honest old) where
  abbrev pub standing : Standing
  standing = ((was.5 honest).0).standing

  pub stands_now : Stands (d.size old) (now (d.trail old)).reads standing
  stands_now = ((was.5 honest).0).settled.stands

  -- what the disk shows has so many events
  pub up_to : IsUpTo (d.size old) (d.trail old) slot events standing
  up_to = record {
    settled = ((was.5 honest).0).settled;
    slot_is = ((was.5 honest).0).slot;
    count = ((was.5 honest).0).events;
  }

  pub up_to_any : StandingLaw → (s : Standing) → Stands (d.size old) (now (d.trail old)).reads s
      → IsUpTo (d.size old) (d.trail old) slot events s
  up_to_any law s stands = subst (λ x. IsUpTo (d.size old) (d.trail old) slot events x)
      (law (d.size old) (now (d.trail old)).reads standing s stands_now stands) up_to

  -- its epoch, and its version
  pub epoch_any : StandingLaw → (s : Standing) → Stands (d.size old) (now (d.trail old)).reads s → s.epoch ≡ epoch
  epoch_any law s stands =
      ap (λ x. x.epoch) (sym (law (d.size old) (now (d.trail old)).reads standing s stands_now stands))
      ∙ ((was.5 honest).0).epoch

-- what stops a desktop stops a look
pub as_look : {V : Type 0} (result : Result V Error) → IfErr result OfDesktop → IfErr result OfLook
as_look (Ok value) stops = tt
as_look (Err e) (inl memory) = inl memory
as_look (Err e) (inr fault) = inr (inl fault)

-- from this store on, up to this state of its disk, a crash leaves what the disk showed, or the rest of it
abbrev pub Leaving : {D : Type 0} → Ghosts D → ℕ → StoreView D → D → Type 0
Leaving d count old disk = old.must_reopen ≡ false → d.honest old.disk → (s : Standing) → ShowsStanding d old s
    → (events : List Event) × (rest : Standing) × (length events ≤ count) × LeavesRest d events s rest old.disk disk

-- ---- nothing is taken back

pub none_behind_it : (s : Standing) → s ≡ and_all s []
none_behind_it s = λ i. record {
  slot = s.slot;
  version = s.version;
  epoch = s.epoch;
  past = s.past;
  start = s.start;
  events = sym (append-nil s.events) i;
}

-- nothing was written
pub looked_only : {D : Type 0} (d : Ghosts D) {old new : D} {slot n : ℕ} {s : Standing} (t : Standing)
    → IsUpTo (d.size old) (d.trail old) slot n s → Touches Nowhere (d.trail old) (d.trail new)
    → LeavesOnly (d.trail old) (d.trail new) (StandsOneOf (d.size old) s t)
looked_only d {old = old} {s = s} t at run = spared (StandsOneOf (d.size old) s t) at.settled.quiet run
    (λ c same. inr (subst (λ x. Stands (d.size old) x s) (sym (λ i n. same n (λ none. none) i)) at.settled.stands))

pub nothing_back : {D : Type 0} (d : Ghosts D) {old new : D} {slot n : ℕ} {s : Standing}
    → IsUpTo (d.size old) (d.trail old) slot n s → IsConfined d.size d.honest d.trail Nowhere old new → d.honest old
    → LeavesRest d [] s s old new
nothing_back d {s = s} at run honest = record {
  is_rest = within (none_behind_it s);
  any_moment = looked_only d s at (run.moments honest);
  gates = confined.widened d.size d.honest d.trail (λ n none. absurd none) run;
}

-- a store as its callers see it
abbrev pub viewed : {D : Type 0} → Ghosts D → D → LiveDesktop → ℕ → ℕ → ℕ → Bool → StoreView D
viewed d disk live version epoch events must_reopen = record {
  disk = disk;
  desktop = seen_live (now (d.trail disk)).reads live;
  kept = live.desktop;
  layout = version;
  epoch = epoch;
  events = events;
  must_reopen = must_reopen;
}

-- nothing was written, and the store is as it was
pub is_left : {D : Type 0} (d : Ghosts D) {old mid : D} (live : LiveDesktop) (version epoch events : ℕ) (must_reopen : Bool)
    → IsConfined d.size d.honest d.trail Nowhere old mid
    → IsLeft d (viewed d old live version epoch events must_reopen) (viewed d mid live version epoch events must_reopen)
is_left d {old = old} {mid = mid} live version epoch events must_reopen run = record {
  desktop = λ honest. shown_stays (d.trail old) (d.trail mid) live (run.moments honest) (apart_nowhere live.pages);
  kept = refl;
  layout = refl;
  epoch = refl;
  events = refl;
  disk = record {
    device = record { as_large = run.as_large; still = run.still; already = run.already };
    unwritten = λ honest.
        let touches = run.moments honest in
        record {
          later = touches.later;
          kept = touches.kept;
          each = λ t above below c image n quiet. image n (touches.settled t above below n (λ none. none) quiet)
              ∙ touches.reads t above below n (λ none. none);
        };
  };
}

-- Ok, and none was there
pub nothing_taken : {D : Type 0} (d : Ghosts D) {slot version epoch events count slot' number left : ℕ} {old mid : D}
    {live : LiveDesktop} (must_reopen : Bool) (law : StandingLaw) (was : Knows d old slot version epoch events live)
    → (run : IsConfined d.size d.honest d.trail Nowhere old mid)
    → IsCountedBack slot epoch events count slot' number left 0
    → (d.honest old → (s : Standing) → IsUpTo (d.size old) (d.trail old) slot events s → s.epoch ≡ epoch → events < count
    → number ≡ epoch → NothingBefore (now (d.trail old)).reads s) → must_reopen ≡ false
    → IsLeft d (viewed d old live version epoch events must_reopen) (viewed d mid live version epoch events must_reopen)
    → IsTakenBack d count [] (viewed d old live version epoch events must_reopen)
    (viewed d mid live version epoch events must_reopen)
nothing_taken d {events = events} {count = count} {mid = mid} {live = live} must_reopen law was run counted crosses usable
    is_left =
    record {
      back = λ honest s at. (
        s,
        record {
          leaves = nothing_back d (up_to_any d was honest law s at) run honest;
          left = (still_up_to d (up_to_any d was honest law s at) run honest).settled.stands;
          desktop = is_left.desktop honest ∙ sym ((was.5 honest).0).is
              ∙ ap desktop_of (law _ _ (standing d was honest) s (stands_now d was honest) at);
        },
      );
      durable = λ honest. let knows = read_beside d run was in
          kept_shows _ _ _ _ _ _ _ (knows.5 honest).0;
      few = omega arith;
      as_many = elim (cases_lt events count) [
        | inl less ↦ elim (counted.other less) [
          | inl same ↦ inr (sym same.3)
          | inr other ↦ absurd (omega (arith, other.2))
        ]
        | inr room ↦ elim counted.as_many [
          | inl none ↦ inr (omega (arith, none, (counted.own room).2))
          | inr all ↦ inl all
        ]
      ];
      own = λ room. (refl, omega arith);
      other = λ less. elim (counted.other less) [
        | inl same ↦ inl (refl, sym same.3, same.3)
        | inr other ↦ absurd (omega (arith, other.2))
      ];
      crosses = λ honest s at less same. crosses honest s (up_to_any d was honest law s at)
          (epoch_any d was honest law s at) less (elim (counted.other less) [
            | inl here ↦ here.1
            | inr other ↦ absurd (omega (arith, other.2))
          ]);
      layout = refl;
      usable = usable;
      none = λ _. is_left;
    }

-- ---- events are taken back

-- what the gates are apart from
apart_gates : (live : LiveDesktop) (slot to k : ℕ) → IsLive live → slot < SLOTS → to < SLOTS → k < JOURNAL_EVENTS
    → IsApart (InUndo slot to k) live.pages
apart_gates live slot to k is low low_to room n from to_end here = elim here [
  | inl a ↦ omega (arith, is.based, from, a, low_to, room)
  | inr a ↦ omega (arith, is.based, from, a.1, low)
]

module _ {D : Type 0} (d : Ghosts D) {slot version epoch events : ℕ} {old mid new : D} {live live' : LiveDesktop}
    {slot' number left count : ℕ} {undone : List Event} (was : Knows d old slot version epoch events live)
    (law : StandingLaw) (run : IsConfined d.size d.honest d.trail Nowhere old mid)
    (writes : IsConfined d.size d.honest d.trail (InUndo slot slot' left) mid new)
    (counted : IsCountedBack slot epoch events count slot' number left (length undone)) (some : 0 < length undone)
    (shown : d.honest old → (s : Standing) → IsUpTo (d.size old) (d.trail old) slot events s → s.epoch ≡ epoch
    → IsEarlier (now (d.trail mid)).reads slot' number left s live' undone) where
  module _ (honest : d.honest old) (s : Standing) (stands : Stands (d.size old) (now (d.trail old)).reads s) where
    at : IsUpTo (d.size old) (d.trail old) slot events s
    at = up_to_any d was honest law s stands

    pub earlier : IsEarlier (now (d.trail mid)).reads slot' number left s live' undone
    earlier = shown honest s at (epoch_any d was honest law s stands)

    goes : GoesBackTo (d.size mid) (d.trail mid) slot slot' left s earlier.rest undone
    goes =
        let still = still_up_to d at run honest in
        record {
          settled = still.settled;
          slot_is = still.slot_is;
          some = some;
          is_rest = earlier.is_rest;
          to_is = earlier.slot_is;
          long = earlier.long;
        }

    -- whatever the gates hold
    pub undone_moments : (d.honest mid → (s rest : Standing) (events : List Event)
        → GoesBackTo (d.size mid) (d.trail mid) slot slot' left s rest events
        → LeavesOnly (d.trail mid) (d.trail new) (StandsOneOf (d.size mid) s rest))
        → LeavesRest d undone s earlier.rest old new
    undone_moments after = record {
      is_rest = subst (λ c. IsRest c undone s earlier.rest)
          (still_all (d.trail old) (d.trail mid) (run.moments honest)) earlier.is_rest;
      any_moment = chained (looked_only d earlier.rest at (run.moments honest))
          (subst (λ n. LeavesOnly (d.trail mid) (d.trail new) (StandsOneOf n s earlier.rest)) run.as_large
          (after (run.still honest) s earlier.rest undone goes));
      gates = subst (λ n. IsConfined d.size d.honest d.trail (InUndo n earlier.rest.slot (length earlier.rest.events)) old new)
          (sym at.slot_is)
          (subst (λ n. IsConfined d.size d.honest d.trail (InUndo slot n (length earlier.rest.events)) old new)
          (sym earlier.slot_is)
          (subst (λ n. IsConfined d.size d.honest d.trail (InUndo slot slot' n) old new) (sym earlier.long)
          (confined.joined d.size d.honest d.trail
          (confined.widened d.size d.honest d.trail (λ n none. absurd none) run) writes)));
    }

    -- they are closed
    settled_after : (d.honest mid → (s rest : Standing) (events : List Event)
        → GoesBackTo (d.size mid) (d.trail mid) slot slot' left s rest events
        → IsSettled (d.size mid) (d.trail new) rest) → IsSettled (d.size new) (d.trail new) earlier.rest
    settled_after after = subst (λ n. IsSettled n (d.trail new) earlier.rest) (sym writes.as_large)
        (after (run.still honest) s earlier.rest undone goes)

  module _ (is_live : IsLive live') (told : HasTrueCache d mid live')
      (after : d.honest mid → (s rest : Standing) (events : List Event)
      → GoesBackTo (d.size mid) (d.trail mid) slot slot' left s rest events
      → IsSettled (d.size mid) (d.trail new) rest) where
    seen_after : d.honest mid → seen_live (now (d.trail new)).reads live' ≡ seen_live (now (d.trail mid)).reads live'
    seen_after honest = shown_stays (d.trail mid) (d.trail new) live' (writes.moments honest)
        (apart_gates live' slot slot' left is_live was.0 counted.two (counted.short some))

    head_after : d.honest mid → (now (d.trail new)).reads (slot_head slot') ≡ (now (d.trail mid)).reads (slot_head slot')
    head_after honest =
        let low = counted.two in
        let room = counted.short some in
        still_reads (d.trail mid) (d.trail new) (writes.moments honest) (slot_head slot') (λ here. elim here [
          | inl a ↦ omega (arith, a, low, room)
          | inr a ↦ omega (arith, a.1, low, was.0)
        ])

    pub undone_knows : Knows d new slot' version number left live'
    undone_knows = (
      counted.two,
      (let room = counted.short some in omega (arith, room)),
      omega (arith, was.2, run.as_large, writes.as_large),
      is_live,
      live_stays d live' writes (apart_gates live' slot slot' left is_live was.0 counted.two (counted.short some)) told,
      λ honest.
          let before = run.already (writes.already honest) in
          let mid_honest = writes.already honest in
          let s = standing d was before in
          let stands = stands_now d was before in
          let e = earlier before s stands in
          let kept = (was.5 before).0 in
          let head_now = head_after mid_honest in (
            record {
              standing = e.rest;
              settled = settled_after before s stands after;
              slot = e.slot_is;
              version_is = e.version_is ∙ kept.version_is;
              epoch = e.epoch_is;
              events = e.long;
              is = sym e.shown ∙ sym (seen_after mid_honest);
            },
            record {
              area_is = ap (λ b. (head_of b).area) head_now ∙ e.named.area_is;
              named = λ not. ap (λ b. full_sectors (head_of b).written) head_now ∙ e.named.named not;
            },
          ),
    )

    shows_rest : (honest : d.honest old) (s : Standing) (stands : Stands (d.size old) (now (d.trail old)).reads s)
        → Stands (d.size new) (now (d.trail new)).reads (earlier honest s stands).rest
        × (seen_live (now (d.trail new)).reads live' ≡ desktop_of (earlier honest s stands).rest)
    shows_rest honest s stands = (
      (settled_after honest s stands after).stands,
      seen_after (run.still honest) ∙ (earlier honest s stands).shown,
    )

    pub some_taken : (must_reopen : Bool)
        → (d.honest old → (s : Standing) → IsUpTo (d.size old) (d.trail old) slot events s → s.epoch ≡ epoch
        → events < count → number ≡ epoch → NothingBefore (now (d.trail old)).reads s)
        → (d.honest mid → (s rest : Standing) (events : List Event)
        → GoesBackTo (d.size mid) (d.trail mid) slot slot' left s rest events
        → LeavesOnly (d.trail mid) (d.trail new) (StandsOneOf (d.size mid) s rest))
        → IsTakenBack d count undone (viewed d old live version epoch events must_reopen)
        (viewed d new live' version number left false)
    some_taken must_reopen crosses moments = record {
      back = λ honest s at. (
        (earlier honest s at).rest,
        record {
          leaves = undone_moments honest s at moments;
          left = (shows_rest honest s at).0;
          desktop = (shows_rest honest s at).1;
        },
      );
      durable = λ honest. kept_shows _ _ _ _ _ _ _ (undone_knows.5 honest).0;
      few = counted.few;
      as_many = elim counted.as_many [
        | inl none ↦ inr none
        | inr all ↦ inl all
      ];
      own = λ room. ((counted.own room).1, (counted.own room).2);
      other = λ less. elim (counted.other less) [
        | inl same ↦ inl (same.1, same.2, same.3)
        | inr other ↦ inr (other.1, other.2)
      ];
      crosses = λ honest s at less same. crosses honest s (up_to_any d was honest law s at)
          (epoch_any d was honest law s at) less same;
      layout = refl;
      usable = refl;
      none = λ none. absurd (omega (arith, some, ap length none));
    }

-- reads, and then writes
pub read_then_same : {D : Type 0} (d : Ghosts D) {old mid new : D} → IsConfined d.size d.honest d.trail Nowhere old mid
    → IsSameDevice d mid new → IsSameDevice d old new
read_then_same d run same = record {
  as_large = same.as_large ∙ run.as_large;
  still = λ h. same.still (run.still h);
  already = λ h. run.already (same.already h);
}

pub read_then_within : {D : Type 0} (d : Ghosts D) {old mid new : D} → IsConfined d.size d.honest d.trail Nowhere old mid
    → StaysWithin d mid new → StaysWithin d old new
read_then_within d run inside = confined.joined d.size d.honest d.trail
    (confined.widened d.size d.honest d.trail (λ n none. absurd none) run) inside

-- reads, and then gates
pub gates_same : {D : Type 0} (d : Ghosts D) {old mid new : D} {area : ℕ → Type 0}
    → IsConfined d.size d.honest d.trail Nowhere old mid → IsConfined d.size d.honest d.trail area mid new
    → IsSameDevice d old new
gates_same d run writes = read_then_same d run (record {
  as_large = writes.as_large;
  still = writes.still;
  already = writes.already;
})

pub gates_within : {D : Type 0} (d : Ghosts D) {old mid new : D} {slot to k : ℕ} → slot < SLOTS → to < SLOTS
    → k < JOURNAL_EVENTS → IsConfined d.size d.honest d.trail Nowhere old mid
    → IsConfined d.size d.honest d.trail (InUndo slot to k) mid new → StaysWithin d old new
gates_within d low low_to room run writes = read_then_within d run (confined.widened d.size d.honest d.trail
    (λ n here. elim here [
      | inl a ↦ omega (arith, a, low_to, room)
      | inr a ↦ omega (arith, a.1, low)
    ]) writes)

-- a checkpoint first, and then the event
pub added_behind : {D : Type 0} (d : Ghosts D) (event : Event) (old mid new : StoreView D) → IsRenewed d old mid
    → IsSameDevice d old.disk mid.disk → IsDueBefore old → IsAdded d event mid new → IsAdded d event old new
added_behind d event old mid new renewed device need added = record {
  behind = λ honest. let x = added.behind (device.still honest) in (x.0, x.1, x.2 ∙ renewed.desktop honest);
  more = λ honest room. absurd (no_need old room need);
}
