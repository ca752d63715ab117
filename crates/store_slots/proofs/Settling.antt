-- What stands on a settled disk, and what a crash leaves of it.
use Rattle.std.proofs.Common.{◌≡◌, ℕ, refl, sym, subst, arith, false}
use Rattle.sector_disk.specs.Trail.{Content, Moment, Trail, now, IsCrashImage, Leaves, LeavesOnly, Touches, Nowhere}
use Rattle.sector_disk.proofs.Touching.{spared, still_all, still_settled}
use Rattle.desktop_definitions.specs.Desktop.{Desktop}
use Rattle.store_layout.specs.Kept.{ShowsSettled}
use Rattle.store_layout.specs.Meaning.{Stands, Means, Shows}

-- what holds of every image now holds at this one moment
pub at_start : (t : Trail) (P : Content → Type 0) → Leaves (now t) P → LeavesOnly t t P
at_start t P leaves = record {
  later = omega arith;
  kept = λ u le. refl;
  each = λ u above below c image. let here : u ≡ t.clock = omega (arith, above, below) in leaves c
      (subst (λ k. IsCrashImage (t.at k) c) here image);
}

-- what is shown is meant
pub shows_means : {version : ℕ} (size number count : ℕ) (desktop : Desktop) (c : Content)
    → Shows size version number count desktop c → Means size desktop c
shows_means size number count desktop c shows = (shows.standing, shows.stands, shows.is)

-- the only image of a settled disk is what it reads
one_image : (m : Moment) (c : Content) → ((n : ℕ) → m.pending n ≡ false) → IsCrashImage m c → c ≡ m.reads
one_image m c quiet image = λ i n. image n (quiet n) i

pub kept_shows : (size : ℕ) (disk : Trail) (live version number count : ℕ) (desktop : Desktop)
    → ShowsSettled size disk live version number count desktop → Leaves (now disk) (Shows size version number count desktop)
kept_shows size disk live version number count desktop kept = λ c image. record {
  standing = kept.standing;
  stands = subst (λ content. Stands size content kept.standing)
      (sym (one_image (now disk) c kept.settled.quiet image)) kept.settled.stands;
  version_is = kept.version_is;
  epoch = kept.epoch;
  events = kept.events;
  is = kept.is;
}

module _ (size : ℕ) (old new : Trail) (live version number count : ℕ) (desktop : Desktop)
    (kept : ShowsSettled size old live version number count desktop) (run : Touches Nowhere old new) where
  -- what is kept stays kept where nothing is touched
  pub kept_on : ShowsSettled size new live version number count desktop
  kept_on = record {
    standing = kept.standing;
    settled = record {
      quiet = λ n. still_settled old new run n (λ none. none) (kept.settled.quiet n);
      stands = subst (λ content. Stands size content kept.standing) (sym (still_all old new run)) kept.settled.stands;
    };
    slot = kept.slot;
    version_is = kept.version_is;
    epoch = kept.epoch;
    events = kept.events;
    is = kept.is;
  }

  -- and every image still means it
  pub means_on : LeavesOnly old new (Means size desktop)
  means_on = spared (Means size desktop) kept.settled.quiet run (λ c same. (
    kept.standing,
    subst (λ content. Stands size content kept.standing)
        (sym (λ i n. same n (λ none. none) i)) kept.settled.stands,
    kept.is,
  ))
