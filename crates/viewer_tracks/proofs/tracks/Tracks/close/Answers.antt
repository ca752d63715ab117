use Rattle.std.proofs.Common.{sym}
use Rattle.viewer_tracks.specs.declared.display.Track.TheVariants.{User, System}
use Rattle.viewer_tracks.proofs.ColumnLemmas.{columns, closes}
use Rattle.viewer_tracks.proofs.tracks.Tracks.close.Goals as goal

pub invariant_of-self : goal.invariant_of-self
invariant_of-self c =
    closes (columns c.self.inside.user c.self.inside.system) _ User _ _ _ c.self.invariant c.self.view_is
    (sym c.in-User.is) c.column_of.ensures.shown c.close.ensures

pub returns-in-User-clause-sound : goal.returns-in-User-clause-sound
returns-in-User-clause-sound c =
    closes (columns c.self.inside.user c.self.inside.system) _ User _ _ _ c.self.invariant c.self.view_is
    (sym c.in-User.is) c.column_of.ensures.shown c.close.ensures

pub invariant_of-self-in-System : goal.invariant_of-self-in-System
invariant_of-self-in-System c =
    closes (columns c.self.inside.user c.self.inside.system) _ System _ _ _ c.self.invariant c.self.view_is
    (sym c.in-System.is) c.column_of.ensures.shown c.close-in-System.ensures

pub returns-in-System-clause-sound : goal.returns-in-System-clause-sound
returns-in-System-clause-sound c =
    closes (columns c.self.inside.user c.self.inside.system) _ System _ _ _ c.self.invariant c.self.view_is
    (sym c.in-System.is) c.column_of.ensures.shown c.close-in-System.ensures
