-- What is written behind the sectors of a store touches nothing that it rests on. `d` is what is known of a disk.
use Rattle.std.proofs.Common.{◌≡◌, inr, ◌+◌, ◌-◌, ◌<◌, ◌≤◌, ℕ, List, sym, ◌∙◌, ap, subst, arith, false}
use Rattle.sector_disk.specs.declared.disk.Disk.{Ghosts}
use Rattle.sector_disk.specs.Confined.{IsConfined}
use Rattle.sector_disk.specs.Trail.{Content, Nowhere, now, LeavesOnly}
use Rattle.sector_disk.proofs.Touching as touching
use Rattle.sector_disk.proofs.Touching.{spared, still_reads}
use Rattle.store_layout.specs.declared.layout.TheConstants.{STORE_SECTORS}
use Rattle.store_layout.specs.Finding.{StandingLaw}
use Rattle.desktop_definitions.specs.Desktop.{Desktop}
use Rattle.document_filing.specs.Bringing.{Documents, brought_in}
use Rattle.store_slots.specs.Beside.{StandsBeside, StandsOneOf}
use Rattle.store_slots.specs.Written.{anew_from, ContinuesArea, IsBeside, KeepsStandings, LeavesBeside, StandsAnew}
use Rattle.store_slots.specs.declared.place.SlotPlace.{SlotPlace}
use Rattle.store_layout.specs.Filling.{InRange}
use Rattle.store_layout.specs.Layout.{head_of, slot_head}
use Rattle.store_layout.specs.Meaning.{Standing, Stands, desktop_of, full_sectors}
use Rattle.store_layout.proofs.StandingLaws.{IsApart, footprint, journal_short}
use Rattle.store_slots.specs.declared.live.LiveDesktop.{LiveDesktop}
use Rattle.store_slots.specs.Live.{seen_live, IsLive}
use Rattle.store_slots.proofs.Staying.{IsApart as IsAsideOf, live_stays, shown_stays}
use Rattle.desk_journal.specs.Behind.{KeepsWith, StandsWith, brought_from, renewed_from}
use Rattle.desk_journal.proofs.Storing.{Knows, beside}

-- a sector behind a store is apart from what a standing rests on
pub apart_behind : {size : ℕ} (c : Content) (s : Standing) → Stands size c s → (n : ℕ) → STORE_SECTORS ≤ n
    → IsApart c s n
apart_behind c s was n far = record {
  label = λ is. omega (arith, far, is);
  gates = λ slot low is. omega (arith, far, is, low);
  heads = λ slot low opened is. omega (arith, far, is, low);
  image = λ k room is. omega (arith, far, is, was.two, room, was.good.extent);
  area = λ k room is. omega (arith, far, is, room, was.good.written, was.good.area);
  journal = λ k high room is. omega (arith, far, is, was.two, room);
  bodies = λ k high is. (let few = journal_short s.events c s.slot 0 (omega arith) was.journal in
      omega (arith, far, is, was.two, high, few));
}

-- so what a content shows, another one shows that agrees with it there
pub stands_behind : {size : ℕ} (c c' : Content) (s : Standing) → Stands size c s
    → ((n : ℕ) → n < STORE_SECTORS → c' n ≡ c n) → Stands size c' s
stands_behind c c' s was same = footprint c c' s was (λ n counts. same n (omega (
  arith,
  λ (far : STORE_SECTORS ≤ n). counts (apart_behind c s was n far),
)))

-- and from the characters of a desktop
pub aside_behind : (live : LiveDesktop) (from limit : ℕ) → IsLive live → STORE_SECTORS ≤ from
    → IsAsideOf (InRange from limit) live.pages
aside_behind live from limit is far n above below within =
    omega (arith, is.based, is.low, far, above, below, within.0, live.pages.few)

module _ {D : Type 0} (d : Ghosts D) {slot version epoch events : ℕ} {old new : D} {live : LiveDesktop} {from : ℕ}
    (limit : ℕ) (far : STORE_SECTORS ≤ from) (run : IsConfined d.size d.honest d.trail (InRange from limit) old new)
    (was : Knows d old slot version epoch events live) where
  -- at each moment a crash leaves what the disk showed
  pub stands_aside : d.honest old → (s : Standing) → Stands (d.size old) (now (d.trail old)).reads s
      → LeavesOnly (d.trail old) (d.trail new) (λ c. Stands (d.size old) c s)
  stands_aside honest s stands = spared (λ c. Stands (d.size old) c s) (was.5 honest).0.settled.quiet
      (run.moments honest)
      (λ c same. stands_behind (now (d.trail old)).reads c s stands
      (λ n low. same n (λ within. omega (arith, within.0, low, far))))

  same_below : d.honest old → (n : ℕ) → n < STORE_SECTORS → (now (d.trail new)).reads n ≡ (now (d.trail old)).reads n
  same_below honest n low = still_reads (d.trail old) (d.trail new) (run.moments honest) n
      (λ within. omega (arith, within.0, low, far))

  pub still_shown : d.honest old → (s : Standing) → Stands (d.size old) (now (d.trail old)).reads s
      → Stands (d.size new) (now (d.trail new)).reads s
  still_shown honest s stands = subst (λ n. Stands n (now (d.trail new)).reads s) (sym run.as_large)
      (stands_behind (now (d.trail old)).reads (now (d.trail new)).reads s stands (same_below honest))

  pub seen_aside : d.honest old → seen_live (now (d.trail new)).reads live ≡ seen_live (now (d.trail old)).reads live
  seen_aside honest = shown_stays (d.trail old) (d.trail new) live (run.moments honest)
      (aside_behind live from limit was.3 far)

  -- and the store knows of its disk what it knew
  pub knows_aside : (d.honest old → (n : ℕ) → (now (d.trail new)).pending n ≡ false)
      → Knows d new slot version epoch events live
  knows_aside quiet = (
    was.0,
    was.1,
    omega (arith, was.2, run.as_large),
    was.3,
    live_stays d live run (aside_behind live from limit was.3 far) was.4,
    λ honest.
        let before = run.already honest in
        let kept = (was.5 before).0 in
        let same = same_below before (slot_head slot) (omega (arith, was.0)) in (
          record {
            standing = kept.standing;
            settled = record {
              quiet = quiet before;
              stands = still_shown before kept.standing kept.settled.stands;
            };
            slot = kept.slot;
            version_is = kept.version_is;
            epoch = kept.epoch;
            events = kept.events;
            is = kept.is ∙ sym (seen_aside before);
          },
          record {
            area_is = ap (λ b. (head_of b).area) same ∙ (was.5 before).1.area_is;
            named = λ not. ap (λ b. full_sectors (head_of b).written) same ∙ (was.5 before).1.named not;
          },
        ),
  )

-- ---- a desktop that goes into the other slot, event by event

-- `mid` is the disk, which shows `shown` by its slot in use, and `live` the desktop that comes to the place.
module _ {D : Type 0} (d : Ghosts D) {slot version epoch events : ℕ} {mid : D} {shown : Desktop} (live : LiveDesktop)
    (law : StandingLaw) (honest : d.honest mid) (s : Standing) (at : Stands (d.size mid) (now (d.trail mid)).reads s)
    (place : SlotPlace) (b : IsBeside place (d.size mid) (d.trail mid) slot version epoch events shown)
    (other : place.slot ≡ 1 - slot) where
  same : b.kept.standing ≡ s
  same = law (d.size mid) (now (d.trail mid)).reads b.kept.standing s b.kept.settled.stands at

  abbrev after : Desktop
  after = seen_live (now (d.trail mid)).reads live

  as_next : anew_from b.kept.standing place.slot place.past after ≡ anew_from s (1 - s.slot) place.past after
  as_next =
      (λ i. anew_from b.kept.standing (other i) place.past after)
      ∙ sym (λ i. anew_from b.kept.standing (1 - b.kept.slot i) place.past after)
      ∙ ap (λ x. anew_from x (1 - x.slot) place.past after) same

  pub next_standings : (new : D) → KeepsStandings d place live mid new
      → LeavesOnly (d.trail mid) (d.trail new)
      (StandsOneOf (d.size mid) s (anew_from s (1 - s.slot) place.past after))
  next_standings new keeps =
      subst (λ (t : Standing × Standing). LeavesOnly (d.trail mid) (d.trail new) (StandsOneOf (d.size mid) t.0 t.1))
      (λ i. (same i, as_next i)) (keeps honest slot version epoch events shown b)

  -- and bytes behind the store
  pub next_with : (from : ℕ) (bytes : List ℕ) (new : D) → KeepsWith d place from bytes live mid new
      → LeavesOnly (d.trail mid) (d.trail new)
      (StandsWith (d.size mid) s (anew_from s (1 - s.slot) place.past after) from bytes)
  next_with from bytes new keeps =
      subst (λ (t : Standing × Standing). LeavesOnly (d.trail mid) (d.trail new)
      (StandsWith (d.size mid) t.0 t.1 from bytes)) (λ i. (same i, as_next i))
      (keeps honest slot version epoch events shown b)

  pub next_shows : (new : D) → StandsAnew d place live mid new
      → Stands (d.size mid) (now (d.trail new)).reads (anew_from s (1 - s.slot) place.past after)
  next_shows new stands = subst (λ t. Stands (d.size mid) (now (d.trail new)).reads t) as_next
      (stands honest slot version epoch events shown b)

  pub next_former : (new : D) → LeavesBeside d place mid new → StandsBeside (now (d.trail new)).reads (1 - s.slot) s
  next_former new leaves =
      subst (λ x. StandsBeside (now (d.trail new)).reads (1 - x.slot) x) same
      (subst (λ n. StandsBeside (now (d.trail new)).reads n b.kept.standing)
      (other ∙ ap (λ n. 1 - n) (sym b.kept.slot))
      (leaves honest slot version epoch events shown b))

module _ {D : Type 0} (d : Ghosts D) {slot version epoch events : ℕ} {old : D} {live : LiveDesktop} (law : StandingLaw)
    (was : Knows d old slot version epoch events live) (honest : d.honest old) (s : Standing)
    (at : Stands (d.size old) (now (d.trail old)).reads s) where
  -- nothing was written
  pub still_stands : (t : Standing) → LeavesOnly (d.trail old) (d.trail old) (StandsOneOf (d.size old) s t)
  still_stands t = spared (StandsOneOf (d.size old) s t) (was.5 honest).0.settled.quiet
      (touching.stays_put Nowhere (d.trail old))
      (λ c same. inr (subst (λ x. Stands (d.size old) x s) (sym (λ i n. same n (λ none. none) i)) at))

  -- what the store shows is what the standing comes to
  pub shown_is : seen_live (now (d.trail old)).reads live ≡ desktop_of s
  shown_is = let kept = (was.5 honest).0 in
      sym kept.is ∙ ap desktop_of (law (d.size old) (now (d.trail old)).reads kept.standing s kept.settled.stands at)

  -- a checkpoint
  module _ (place : SlotPlace) (two : slot + place.slot ≡ 1) (other : place.slot ≡ 1 - slot)
      (next : epoch + 1 ≡ place.epoch) (goes : ContinuesArea place live) where
    here : IsBeside place (d.size old) (d.trail old) slot version epoch events (seen_live (now (d.trail old)).reads live)
    here = beside place live (was.5 honest).0 was.3 (was.5 honest).1 two next goes

    pub renewed_standings : {new : D} → KeepsStandings d place live old new
        → LeavesOnly (d.trail old) (d.trail new) (StandsOneOf (d.size old) s (renewed_from place.past s))
    renewed_standings {new = new} keeps =
        subst (λ (x : Desktop). LeavesOnly (d.trail old) (d.trail new)
        (StandsOneOf (d.size old) s (anew_from s (1 - s.slot) place.past x))) shown_is
        (next_standings d live law honest s at place here other new keeps)

    pub renewed_shows : {new : D} → StandsAnew d place live old new
        → Stands (d.size old) (now (d.trail new)).reads (renewed_from place.past s)
    renewed_shows {new = new} stands =
        subst (λ (x : Desktop). Stands (d.size old) (now (d.trail new)).reads (anew_from s (1 - s.slot) place.past x))
        shown_is (next_shows d live law honest s at place here other new stands)

    pub renewed_former : {new : D} → LeavesBeside d place old new
        → StandsBeside (now (d.trail new)).reads (1 - s.slot) s
    renewed_former {new = new} leaves = next_former d live law honest s at place here other new leaves

  -- documents: `mid` is the disk, to which nothing was written, when the desktop with them is in memory
  module _ {mid : D} (run : IsConfined d.size d.honest d.trail Nowhere old mid) where
    at_mid : Stands (d.size mid) (now (d.trail mid)).reads s
    at_mid = subst (λ n. Stands n (now (d.trail mid)).reads s) (sym run.as_large)
        (subst (λ c. Stands (d.size old) c s) (sym (touching.still_all (d.trail old) (d.trail mid) (run.moments honest))) at)

    pub looked_standings : (t : Standing) → LeavesOnly (d.trail old) (d.trail mid) (StandsOneOf (d.size old) s t)
    looked_standings t = spared (StandsOneOf (d.size old) s t) (was.5 honest).0.settled.quiet (run.moments honest)
        (λ c same. inr (subst (λ x. Stands (d.size old) x s) (sym (λ i n. same n (λ none. none) i)) at))

    module _ (live' : LiveDesktop) (documents : Documents)
        (done : seen_live (now (d.trail mid)).reads live'
        ≡ (brought_in (seen_live (now (d.trail old)).reads live) documents).desktop)
        (place : SlotPlace)
        (b : IsBeside place (d.size mid) (d.trail mid) slot version epoch events
        (seen_live (now (d.trail old)).reads live))
        (other : place.slot ≡ 1 - slot) where
      done_there : seen_live (now (d.trail mid)).reads live' ≡ (brought_in (desktop_of s) documents).desktop
      done_there = done ∙ ap (λ x. (brought_in x documents).desktop) shown_is

      pub brought_standings : {new : D} → KeepsStandings d place live' mid new
          → LeavesOnly (d.trail old) (d.trail new) (StandsOneOf (d.size old) s (brought_from place.past documents s))
      brought_standings {new = new} keeps = touching.chained (looked_standings (brought_from place.past documents s))
          (subst (λ n. LeavesOnly (d.trail mid) (d.trail new) (StandsOneOf n s (brought_from place.past documents s)))
          run.as_large
          (subst (λ (x : Desktop). LeavesOnly (d.trail mid) (d.trail new)
          (StandsOneOf (d.size mid) s (anew_from s (1 - s.slot) place.past x))) done_there
          (next_standings d live' law (run.still honest) s at_mid place b other new keeps)))

      pub brought_shows : {new : D} → StandsAnew d place live' mid new
          → Stands (d.size mid) (now (d.trail new)).reads (brought_from place.past documents s)
      brought_shows {new = new} stands =
          subst (λ (x : Desktop). Stands (d.size mid) (now (d.trail new)).reads
          (anew_from s (1 - s.slot) place.past x)) done_there
          (next_shows d live' law (run.still honest) s at_mid place b other new stands)

      pub brought_former : {new : D} → LeavesBeside d place mid new
          → StandsBeside (now (d.trail new)).reads (1 - s.slot) s
      brought_former {new = new} leaves = next_former d live' law (run.still honest) s at_mid place b other new leaves
