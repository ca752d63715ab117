-- What is wished of the caret, as a store tells of it.
pub use Rattle.caret_moves.specs.declared.wish.Step.{Step}
pub use Rattle.caret_moves.specs.declared.wish.KeyWish.{KeyWish}
pub use Rattle.caret_moves.specs.declared.wish.WhyNot.{WhyNot}
pub use Rattle.caret_moves.specs.Leading.{DoesWish, led}
