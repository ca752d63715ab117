-- What is said of the disk of a store, passed on from the crate below.
pub use Rattle.store_slots.specs.Device.{IsOnlyRead, IsSameDevice, StaysWithin, WritesNothing, disk_after, result_of}
