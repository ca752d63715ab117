-- Scrolling, as a store tells of it.
pub use Rattle.desk_input.specs.declared.wish.Wish.{Wish}
pub use Rattle.desk_input.specs.Scrolling.{Scrolls, presses_to}
pub use Rattle.desk_input.specs.declared.wish.Wish.TheVariants.{Up, Down, PageUp, PageDown, Line}
