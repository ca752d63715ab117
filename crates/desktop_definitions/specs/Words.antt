-- The words of other crates, and the types of the code, that most files here speak of.
pub use Rattle.std.specs.Option.{unwrap_or}
pub use Rattle.std.specs.Ordering.{nat_cmp}
pub use Rattle.std.specs.BTreeMap.{is_at}
pub use Rattle.std.specs.Map.{keys_of}
pub use Rattle.piece_ring.specs.declared.piece.Look.{Look}
pub use Rattle.piece_ring.specs.declared.piece.Piece.{Piece}
pub use Rattle.piece_ring.specs.Look.{default_look}
pub use Rattle.piece_ring.specs.Text.{Text}
pub use Rattle.piece_ring.specs.Flat.{flat}
pub use Rattle.desktop_definitions.specs.declared.look_change.LookChange.{LookChange}
pub use Rattle.desktop_definitions.specs.declared.viewer.Viewer.{Viewer}
pub use Rattle.desktop_definitions.specs.declared.viewer.Caret.{Caret}
pub use Rattle.desktop_definitions.specs.declared.viewer.Selection.{Selection}
pub use Rattle.desktop_definitions.specs.declared.viewer.ClosedViewer.{ClosedViewer}
