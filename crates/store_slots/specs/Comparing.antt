-- What is known of bytes that are compared with those of a slot's image, as they come.
use Rattle.std.specs.Prelude.{◌≡◌, ◌++◌, ℕ, List, true}
use Rattle.sector_disk.specs.Stored.{stored}
use Rattle.sector_disk.specs.Trail.{Content}
use Rattle.store_layout.specs.Draining.{IsSectorLoaded, bytes_left, extent_of, start_sector}
use Rattle.store_slots.specs.declared.comparing.Comparing.{Comparing}

-- These bytes came. Unless it was seen that they differ, they are the first that stand there, and the others are left.
pub record HasAgreed (c : Content) (x : Comparing) (bytes : List ℕ) : Type 0 where
  pub loaded : IsSectorLoaded c x.draining
  pub agrees : x.same ≡ true
      → stored c (start_sector x.draining) (extent_of x.draining) ≡ bytes ++ bytes_left c x.draining
