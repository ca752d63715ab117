-- A past that begins. `d` is what is known of a disk.
use Rattle.std.proofs.Common.{◌≡◌, ◌⊎◌, inl, inr, ◌+◌, ◌<◌, ◌≤◌, ℕ, List, [], length, refl, sym, ◌∙◌, ap, subst, arith, false}
use Rattle.std.specs.Prelude.{Bool, Result, nat_lt, if◌then◌else◌}
use Rattle.std.proofs.Common.{length-append}
use Rattle.std.proofs.lemmas.Bool.{cases_lt, lt-ltb, le-ltb}
use Rattle.sector_disk.specs.declared.disk.Disk.{Ghosts}
use Rattle.sector_disk.specs.Confined.{IsConfined}
use Rattle.sector_disk.specs.Trail.{Content, now, LeavesOnly}
use Rattle.sector_disk.proofs.Touching.{at_last, chained, read_is_an_image, spared, still_reads as reads_stay, weakened}
use Rattle.desktop_definitions.specs.Desktop.{Desktop}
use Rattle.store_layout.specs.declared.layout.TheConstants.{STORE_SECTORS}
use Rattle.store_layout.specs.declared.head.PastEnd.{PastEnd}
use Rattle.store_layout.specs.Filling.{InRange}
use Rattle.store_layout.specs.Meaning.{Means, Standing, Stands, desktop_of}
use Rattle.store_slots.specs.Device.{IsOnlyRead, IsSameDevice, StaysWithin}
use Rattle.store_slots.specs.declared.error.Error.{Error}
use Rattle.desk_journal.proofs.Aside.{stands_behind}
use Rattle.desk_journal.specs.Behind.{IsWrittenBehind, KeepsStanding, LeavesNext, ShowsNext, renewed_from}
use Rattle.desk_journal.specs.Checkpointing.{IsRenewed, LeavesDesktop}
use Rattle.desk_journal.specs.Looking.{OnlyLooks}
use Rattle.desk_journal.specs.Undoing.{IsLeft, ShowsStanding}
use Rattle.desk_journal.specs.View.{StoreView, IsDurable}
use Rattle.past_pages.specs.Laying.{StandsFrom}
use Rattle.past_pages.specs.Reading.{IsOnlyReadFrom, IsQuiet}
use Rattle.past_pages.proofs.StillReads.{resized}
use Rattle.desk_past.specs.Beginning.{GoesOnFrom, IsApart, IsAside, SparesAllBut, SparesOthers, begun_at, copied_back}
use Rattle.desk_past.specs.Deeds.{PastDeed, all_posted}
use Rattle.desk_past.specs.Past.{HoldsPages, KeepsAll, Remembers, Start, all_deeds}
use Rattle.desk_past.proofs.Carrying.{both_leave, written_stays}
use Rattle.desk_past.proofs.Moments.{many_posted}
use Rattle.desk_past.proofs.Remembering.{remembers_on}
use Rattle.desk_past.proofs.Sparing.{but_none, but_read, but_then, but_touched}

pub same_both : {D : Type 0} (d : Ghosts D) {old mid new : D} → IsSameDevice d old mid → IsSameDevice d mid new
    → IsSameDevice d old new
same_both d first second = record {
  as_large = second.as_large ∙ first.as_large;
  still = λ honest. second.still (first.still honest);
  already = λ honest. first.already (second.already honest);
}

pub device_of : {D : Type 0} (d : Ghosts D) {area : ℕ → Type 0} {old new : D}
    → IsConfined d.size d.honest d.trail area old new → IsSameDevice d old new
device_of d run = record { as_large = run.as_large; still = run.still; already = run.already }

module _ {D : Type 0} (d : Ghosts D) (base limit : ℕ) where
  -- ---- what is spared

  pub spared_none : {store : StoreView D} → (store.must_reopen ≡ false → d.honest store.disk → IsQuiet d store)
      → SparesAllBut d base limit store store
  spared_none quiet = but_none d (InRange base limit) quiet

  pub spared_read : {old new : StoreView D} → IsOnlyRead d old.disk new.disk
      → (old.must_reopen ≡ false → d.honest old.disk → IsQuiet d old) → SparesAllBut d base limit old new
  spared_read run quiet = but_read d (InRange base limit) run quiet

  pub spared_write : {old new : StoreView D} (from count : ℕ) → base ≤ from → from + count ≤ base + limit
      → IsConfined d.size d.honest d.trail (InRange from count) old.disk new.disk
      → (old.must_reopen ≡ false → d.honest old.disk → IsQuiet d old) → SparesAllBut d base limit old new
  spared_write from count low high only quiet = but_touched d (InRange base limit)
      (λ honest n within. (omega (arith, low, within.0), omega (arith, high, within.1))) only quiet

  pub spared_then : {old mid : StoreView D} (new : StoreView D) → IsSameDevice d old.disk mid.disk
      → mid.must_reopen ≡ false → SparesAllBut d base limit old mid → SparesAllBut d base limit mid new
      → SparesAllBut d base limit old new
  spared_then new device closed first second = but_then d (InRange base limit) new device closed first second

  -- what the store shows stays
  pub spared_keeps : {old new : StoreView D} → STORE_SECTORS ≤ base → SparesAllBut d base limit old new
      → KeepsStanding d old new
  spared_keeps {old = old} behind spares usable honest s at = weakened (spares.moments usable honest) (λ c same.
      stands_behind (now (d.trail old.disk)).reads c s at
      (λ n low. same n (λ within. omega (arith, within.0, low, behind))))

  pub desktop_spared : (old new : StoreView D) → STORE_SECTORS ≤ base
      → (old.must_reopen ≡ false → IsDurable d old) → SparesAllBut d base limit old new → LeavesDesktop d old new
  desktop_spared old new behind durable spares usable honest =
      let shows = durable usable honest (now (d.trail old.disk)).reads (read_is_an_image (now (d.trail old.disk))) in
      weakened (spared_keeps behind spares usable honest shows.standing shows.stands)
      (λ c stands. (shows.standing, stands, shows.is))

module _ {D : Type 0} (d : Ghosts D) (base : ℕ) where
  -- ---- the same of a start

  pub spares_none : {store : StoreView D} → (store.must_reopen ≡ false → d.honest store.disk → IsQuiet d store)
      → SparesOthers d base store store
  spares_none quiet = spared_none d base STORE_SECTORS quiet

  pub spares_read : {old new : StoreView D} → IsOnlyRead d old.disk new.disk
      → (old.must_reopen ≡ false → d.honest old.disk → IsQuiet d old) → SparesOthers d base old new
  spares_read run quiet = spared_read d base STORE_SECTORS run quiet

  pub spares_write : {old new : StoreView D} (from limit : ℕ) → base ≤ from → from + limit ≤ base + STORE_SECTORS
      → IsConfined d.size d.honest d.trail (InRange from limit) old.disk new.disk
      → (old.must_reopen ≡ false → d.honest old.disk → IsQuiet d old) → SparesOthers d base old new
  spares_write from limit low high only quiet = spared_write d base STORE_SECTORS from limit low high only quiet

  pub spares_then : {old mid : StoreView D} (new : StoreView D) → IsSameDevice d old.disk mid.disk
      → mid.must_reopen ≡ false → SparesOthers d base old mid → SparesOthers d base mid new
      → SparesOthers d base old new
  spares_then new device closed first second = spared_then d base STORE_SECTORS new device closed first second

  pub spares_keeps : {old new : StoreView D} → STORE_SECTORS ≤ base → SparesOthers d base old new
      → KeepsStanding d old new
  spares_keeps behind spares = spared_keeps d base STORE_SECTORS behind spares

  pub spares_shows : {old new : StoreView D} → STORE_SECTORS ≤ base → SparesOthers d base old new
      → IsSameDevice d old.disk new.disk → old.must_reopen ≡ false → d.honest old.disk → (s : Standing)
      → ShowsStanding d old s → ShowsStanding d new s
  spares_shows {new = new} behind spares device usable honest s at =
      subst (λ n. Stands n (now (d.trail new.disk)).reads s) (sym device.as_large)
      (at_last (spares_keeps behind spares usable honest s at) (now (d.trail new.disk)).reads
      (read_is_an_image (now (d.trail new.disk))))

module _ {D : Type 0} (d : Ghosts D) where
  -- ---- calls one after another

  pub aside_none : (store : StoreView D) → store.must_reopen ≡ false → IsAside d store store
  aside_none store usable = record {
    usable = usable;
    desktop = λ honest. refl;
    kept = refl;
    layout = refl;
    epoch = refl;
    events = refl;
  }

  pub aside_left : {old new : StoreView D} → IsLeft d old new → new.must_reopen ≡ false → IsAside d old new
  aside_left left usable = record {
    usable = usable;
    desktop = left.desktop;
    kept = left.kept;
    layout = left.layout;
    epoch = left.epoch;
    events = left.events;
  }

  pub aside_read : {old new : StoreView D} → IsOnlyReadFrom d old new → IsAside d old new
  aside_read still = aside_left still.left still.usable

  pub aside_looked : {T : Type 0} {old new : StoreView D} (result : Result T Error) → old.must_reopen ≡ false
      → OnlyLooks d result old new → IsAside d old new
  aside_looked result usable look = record {
    usable = look.usable ∙ usable;
    desktop = look.desktop;
    kept = look.kept;
    layout = look.layout;
    epoch = look.epoch;
    events = look.events;
  }

  pub aside_written : {old new : StoreView D} {from : ℕ} {bytes : List ℕ} → IsWrittenBehind d from bytes old new
      → IsAside d old new
  aside_written done = record {
    usable = done.usable;
    desktop = done.desktop;
    kept = done.kept;
    layout = done.layout;
    epoch = done.epoch;
    events = done.events;
  }

  pub aside_both : {old mid new : StoreView D} → IsSameDevice d old.disk mid.disk → IsAside d old mid
      → IsAside d mid new
      → IsAside d old new
  aside_both device first second = record {
    usable = second.usable;
    desktop = λ honest. second.desktop (device.still honest) ∙ first.desktop honest;
    kept = second.kept ∙ first.kept;
    layout = second.layout ∙ first.layout;
    epoch = second.epoch ∙ first.epoch;
    events = second.events ∙ first.events;
  }

  -- and then a checkpoint
  pub renewed_aside : {old mid new : StoreView D} → IsSameDevice d old.disk mid.disk → IsAside d old mid
      → IsRenewed d mid new → IsRenewed d old new
  renewed_aside device first second = record {
    desktop = λ honest. second.desktop (device.still honest) ∙ first.desktop honest;
    kept = second.kept ∙ first.kept;
    layout = second.layout;
    epoch = second.epoch ∙ ap (λ n. n + 1) first.epoch;
    events = second.events;
    durable = second.durable;
    usable = second.usable;
  }

  -- ---- the desktop

  pub desktop_kept : (base : ℕ) (old new : StoreView D) → STORE_SECTORS ≤ base
      → (old.must_reopen ≡ false → IsDurable d old) → SparesOthers d base old new → LeavesDesktop d old new
  desktop_kept base old new behind durable spares = desktop_spared d base STORE_SECTORS old new behind durable spares

  pub desktop_then : {old mid : StoreView D} (new : StoreView D) → IsSameDevice d old.disk mid.disk
      → LeavesDesktop d old mid
      → IsAside d old mid → LeavesDesktop d mid new → LeavesDesktop d old new
  desktop_then {old = old} {mid = mid} new device first aside second usable honest =
      chained (first usable honest)
      (subst (λ (x : ℕ × Desktop). LeavesOnly (d.trail mid.disk) (d.trail new.disk) (Means x.0 x.1))
      (λ i. (device.as_large i, aside.desktop honest i)) (second aside.usable (device.still honest)))

abbrev pub end_at : ℕ → ℕ → PastEnd
end_at next before = record { next = next; before = before }

-- ---- the start that was copied

-- `c` is the content behind a checkpoint of a store whose start was copied, or in the midst of it; `x` was there before
-- it.
module _ (size base : ℕ) (x c : Content) (s : Standing) (room : base + STORE_SECTORS ≤ size)
    (behind : STORE_SECTORS ≤ base)
    (same : (n : ℕ) → n < STORE_SECTORS → x (base + n) ≡ x n)
    (still : (n : ℕ) → STORE_SECTORS ≤ n → c n ≡ x n) (at : Stands size x s) where
  pub stands_there : StandsFrom c base s
  stands_there = stands_behind x (λ n. c (base + n)) s (resized STORE_SECTORS x s (omega arith) at)
      (λ n low. still (base + n) (omega (arith, behind)) ∙ same n low)

  -- the start begins a past
  abbrev pub begun_there : (desktop : Desktop) (before : ℕ) (end : PastEnd) → desktop_of s ≡ desktop
      → before ≡ s.past.before + length s.events → end.next ≡ base + STORE_SECTORS → end.before ≡ before
      → Stands size c (renewed_from end s) → Remembers size (begun_at desktop before base) [] desktop c
  begun_there desktop before end is counted next told anew = record {
    standing = renewed_from end s;
    pages = [];
    past = record {
      stands = anew;
      newest = refl;
      written = (record { standing = s; stands = stands_there; is = is; counted = sym counted }, tt);
      good = tt;
      turns = tt;
      up_to = sym next;
      room = omega (arith, next, room);
      counted = omega (arith, told);
      leads = sym is;
    };
    all = refl;
    is = is;
  }

  -- copied back it gives what there was
  same_back : (n : ℕ) → copied_back base c n ≡ x n
  same_back n = elim (cases_lt n STORE_SECTORS) [
    | inl low ↦ ap (λ (b : Bool). if b then c (base + n) else c n) (lt-ltb n STORE_SECTORS low)
        ∙ still (base + n) (omega (arith, behind)) ∙ same n low
    | inr high ↦ ap (λ (b : Bool). if b then c (base + n) else c n) (le-ltb n STORE_SECTORS high) ∙ still n high
  ]

  pub former_there : {start : Start} {deeds : List PastDeed} {desktop : Desktop} → Remembers size start deeds desktop x
      → Remembers size start deeds desktop (copied_back base c)
  former_there {start = start} {deeds = deeds} {desktop = desktop} r =
      subst (Remembers size start deeds desktop) (sym (λ i n. same_back n i)) r

-- ---- a past that stays while a start is copied

module _ {D : Type 0} (d : Ghosts D) {start : Start} {deeds : List PastDeed} {desktop : Desktop} {old : StoreView D}
    (keeps : KeepsAll d start deeds desktop old) (honest : d.honest old.disk) (base : ℕ) (behind : STORE_SECTORS ≤ base)
    (apart : IsApart d base keeps) {mid : StoreView D} (device : IsSameDevice d old.disk mid.disk)
    (spares : SparesOthers d base old mid) where
  -- the past is there at each moment up to this one
  there : LeavesOnly (d.trail old.disk) (d.trail mid.disk)
      (λ c. Stands (d.size old.disk) c keeps.remembers.standing × HoldsPages c start keeps.remembers.pages)
  there = both_leave (spares_keeps d base behind spares keeps.usable honest keeps.remembers.standing
      keeps.remembers.past.stands)
      (weakened (spares.moments keeps.usable honest)
      (λ c same. written_stays keeps.remembers.pages (now (d.trail old.disk)).reads c start
      (λ n low high. same n (λ within. elim apart [
        | inl before ↦ omega (arith, before, low, within.1)
        | inr after ↦ omega (arith, after, high, within.0, keeps.remembers.past.up_to)
      ])) keeps.remembers.past.written))

  pub still_remembered : LeavesOnly (d.trail old.disk) (d.trail mid.disk)
      (λ c. Remembers (d.size old.disk) start deeds desktop c ⊎ GoesOnFrom (d.size old.disk) base start deeds desktop c)
  still_remembered = weakened there (λ c x. inl (remembers_on keeps.remembers refl x.0 x.1))

  at_mid : Stands (d.size old.disk) (now (d.trail mid.disk)).reads keeps.remembers.standing
      × HoldsPages (now (d.trail mid.disk)).reads start keeps.remembers.pages
  at_mid = at_last there (now (d.trail mid.disk)).reads (read_is_an_image (now (d.trail mid.disk)))

  shows_mid : ShowsStanding d mid keeps.remembers.standing
  shows_mid = subst (λ n. Stands n (now (d.trail mid.disk)).reads keeps.remembers.standing) (sym device.as_large)
      at_mid.0

  -- a checkpoint begins the next past
  module _ (usable : mid.must_reopen ≡ false) (quiet : IsQuiet d mid) (new : StoreView D)
      (room : base + STORE_SECTORS ≤ d.size old.disk) (within : StaysWithin d mid.disk new.disk)
      (same : (n : ℕ) → n < STORE_SECTORS
      → (now (d.trail mid.disk)).reads (base + n) ≡ (now (d.trail mid.disk)).reads n)
      (before : ℕ) (end : PastEnd) (counted : before ≡ keeps.remembers.standing.past.before + length
      keeps.remembers.standing.events)
      (next : end.next ≡ base + STORE_SECTORS) (told : end.before ≡ before) where
    before_is : before ≡ start.before + length deeds
    before_is = let all = ap length keeps.remembers.all in
        let long = length-append (all_deeds keeps.remembers.pages) (all_posted keeps.remembers.standing.events) in
        let many = many_posted keeps.remembers.standing.events in
        omega (arith, counted, keeps.remembers.past.counted, all, long, many)

    goes_on_there : (c : Content) → ((n : ℕ) → STORE_SECTORS ≤ n → c n ≡ (now (d.trail mid.disk)).reads n)
        → Stands (d.size old.disk) c (renewed_from end keeps.remembers.standing)
        → GoesOnFrom (d.size old.disk) base start deeds desktop c
    goes_on_there c still anew = record {
      anew = begun_there (d.size old.disk) base (now (d.trail mid.disk)).reads c keeps.remembers.standing room behind
          same still
          at_mid.0 desktop (start.before + length deeds) end keeps.remembers.is (sym before_is ∙ counted) next
          (told ∙ before_is) anew;
      former = former_there (d.size old.disk) base (now (d.trail mid.disk)).reads c keeps.remembers.standing room behind
          same
          still at_mid.0 (remembers_on keeps.remembers refl at_mid.0 at_mid.1);
    }

    pub begins_anew : LeavesNext d (renewed_from end) mid new
        → LeavesOnly (d.trail old.disk) (d.trail new.disk)
        (λ c. Remembers (d.size old.disk) start deeds desktop c ⊎ GoesOnFrom (d.size old.disk) base start deeds desktop
        c)
    begins_anew renewed =
        let at_each : LeavesOnly (d.trail mid.disk) (d.trail new.disk)
        (λ c. (n : ℕ) → STORE_SECTORS ≤ n → c n ≡ (now (d.trail mid.disk)).reads n) =
        spared (λ c. (n : ℕ) → STORE_SECTORS ≤ n → c n ≡ (now (d.trail mid.disk)).reads n) quiet
        (within.moments (device.still honest))
        (λ c same n far. same n (λ low. omega (arith, low, far))) in
        chained still_remembered
        (weakened (both_leave (renewed usable (device.still honest) keeps.remembers.standing shows_mid) at_each)
        (λ c x. elim x.0 [
          | inl anew ↦ inr (goes_on_there c x.1
              (subst (λ n. Stands n c (renewed_from end keeps.remembers.standing)) device.as_large anew))
          | inr was ↦ inl (remembers_on keeps.remembers refl
              (subst (λ n. Stands n c keeps.remembers.standing) device.as_large was)
              (written_stays keeps.remembers.pages (now (d.trail mid.disk)).reads c start
              (λ n low high. x.1 n (omega (arith, low, keeps.behind))) at_mid.1))
        ]))

    pub goes_on_now : ShowsNext d (renewed_from end) mid new
        → GoesOnFrom (d.size old.disk) base start deeds desktop (now (d.trail new.disk)).reads
    goes_on_now shows = goes_on_there (now (d.trail new.disk)).reads
        (λ n far. reads_stay (d.trail mid.disk) (d.trail new.disk) (within.moments (device.still honest)) n
        (λ low. omega (arith, low, far)))
        (subst (λ n. Stands n (now (d.trail new.disk)).reads (renewed_from end keeps.remembers.standing))
        (within.as_large ∙ device.as_large) (shows (device.still honest) keeps.remembers.standing shows_mid))

-- ---- a past that begins where there was none

module _ {D : Type 0} (d : Ghosts D) (old new : StoreView D) (base before : ℕ) (end : PastEnd)
    (honest : d.honest old.disk)
    (behind : STORE_SECTORS ≤ base) (room : base + STORE_SECTORS ≤ d.size old.disk)
    (within : StaysWithin d old.disk new.disk)
    (same : (n : ℕ) → n < STORE_SECTORS → (now (d.trail old.disk)).reads (base + n) ≡ (now (d.trail old.disk)).reads n)
    (s : Standing) (at : ShowsStanding d old s) (counted : before ≡ s.past.before + length s.events) where
  abbrev pub has_begun : (desktop : Desktop) → desktop_of s ≡ desktop → end.next ≡ base + STORE_SECTORS
      → end.before ≡ before
      → new.must_reopen ≡ false → ShowsNext d (renewed_from end) old new
      → KeepsAll d (begun_at desktop before base) [] desktop new
  has_begun desktop is next told usable shows = record {
    usable = usable;
    behind = behind;
    remembers = begun_there (d.size new.disk) base (now (d.trail old.disk)).reads (now (d.trail new.disk)).reads s
        (omega (arith, room, within.as_large)) behind same
        (λ n far. reads_stay (d.trail old.disk) (d.trail new.disk) (within.moments honest) n
        (λ low. omega (arith, low, far)))
        (subst (λ n. Stands n (now (d.trail old.disk)).reads s) (sym within.as_large) at) desktop before end is counted
        next
        told (shows honest s at);
  }
