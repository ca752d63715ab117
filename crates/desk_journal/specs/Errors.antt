-- The errors of a store and of each of its calls, passed on from the crate below.
pub use Rattle.store_slots.specs.declared.error.Error.{Error}
pub use Rattle.store_slots.specs.declared.error.Error.TheVariants.{NotAStore, Damaged, TooSmall, Worn, Fault, NoMemory}
pub use Rattle.store_slots.specs.declared.error.Error.TheVariants.{MustReopen}
pub use Rattle.store_slots.specs.Errors.{OfFormat, OfOpen, OfReopen, OfPost, OfLook, OfCheckpoint}
