-- Lemmas of the crate below that those above cite too.
pub use Rattle.store_slots.proofs.Settling.{at_start, shows_means}
pub use Rattle.store_slots.proofs.Recording.{steps_on}
