-- What a click would lose, as a store tells of it.
pub use Rattle.desk_views.specs.Losses.{loss_at}
pub use Rattle.desk_views.specs.declared.losses.Loss.{Loss}
pub use Rattle.desk_views.specs.declared.losses.Loss.TheVariants.{Closed, Taken, Rivalled}
