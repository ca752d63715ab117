-- What is kept of the sectors stays what the calls left, when a call is added.
use Rattle.std.proofs.Common.{◌≡◌, inl, inr, ℕ, ◌≤◌, List, [], ◌∷◌, ◌++◌, length, sym, ◌∙◌, ap, arith}
use Rattle.std.proofs.lemmas.Bool.{cases_lt}
use Rattle.std.proofs.lemmas.Bool.Decides.{nat_tests}
use Rattle.sector_disk.specs.declared.call.DiskCall.{DiskCall}
use Rattle.sector_disk.specs.declared.call.DiskCall.TheVariants.{Write, Sync}
use Rattle.sector_disk.specs.declared.sectors.Sectors.{Sectors}
use Rattle.sector_disk.specs.Trail.{written, after_sync}
use Rattle.sector_disk.specs.Memory.{trail_of, IsLastSync}
use Rattle.sector_disk.specs.Sectors.{moment_of, synced_content, IsLeftBy}
use Rattle.sector_disk.proofs.Replay.{long, past, now_after}

-- a write
module _ (calls new : List DiskCall) (n : ℕ) (bytes : List ℕ) (is : new ≡ calls ++ Write n bytes ∷ []) where
  wrote_since : (s : ℕ) → s ≤ length calls → IsLastSync (trail_of calls) s → IsLastSync (trail_of new) s
  wrote_since s early was = record {
    within = omega (arith, long calls new (Write n bytes) is);
    quiet = λ k. ap (λ m. m.pending k) (past calls new (Write n bytes) is s early) ∙ was.quiet k;
    last = λ u after before. elim (cases_lt (length calls) u) [
      | inr le ↦ let earlier = was.last u after le in
          (earlier.0, ap (λ m. m.pending earlier.0) (past calls new (Write n bytes) is u le) ∙ earlier.1)
      | inl beyond ↦
          let same : u ≡ length new = omega (arith, long calls new (Write n bytes) is) in (
            n,
            ap (λ t. ((trail_of new).at t).pending n) same
                ∙ ap (λ m. m.pending n) (now_after calls new (Write n bytes) is) ∙ grind (arith, nat_tests),
          )
    ];
  }

  pub kept_written : (old sectors : Sectors) → moment_of sectors ≡ written (moment_of old) n bytes
      → synced_content sectors ≡ synced_content old
      → IsLeftBy calls old → IsLeftBy new sectors
  kept_written old sectors reads settled was = record {
    moment = was.moment;
    last_sync = wrote_since was.moment was.last_sync.within was.last_sync;
    reads = reads ∙ ap (λ m. written m n bytes) was.reads ∙ sym (now_after calls new (Write n bytes) is);
    settled = settled ∙ was.settled
        ∙ sym (ap (λ m. m.reads) (past calls new (Write n bytes) is was.moment was.last_sync.within));
  }

-- a sync
module _ (calls new : List DiskCall) (is : new ≡ calls ++ Sync ∷ []) where
  pub kept_synced : (old sectors : Sectors) → moment_of sectors ≡ after_sync (moment_of old)
      → synced_content sectors ≡ (moment_of old).reads
      → IsLeftBy calls old → IsLeftBy new sectors
  kept_synced old sectors reads settles was = record {
    moment = length new;
    last_sync = record {
      within = omega arith;
      quiet = λ k. ap (λ m. m.pending k) (now_after calls new Sync is);
      last = λ u after before. absurd (omega arith);
    };
    reads = reads ∙ ap after_sync was.reads ∙ sym (now_after calls new Sync is);
    settled = settles ∙ ap (λ m. m.reads) was.reads ∙ sym (ap (λ m. m.reads) (now_after calls new Sync is));
  }
