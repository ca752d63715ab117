use Rattle.viewer_tracks.specs.declared.display.Track.TheVariants.{User, System}
use Rattle.viewer_tracks.proofs.ColumnLemmas.{columns, covers}
use Rattle.viewer_tracks.proofs.tracks.Tracks.open_track.Goals as goal

pub invariant_of-self : goal.invariant_of-self
invariant_of-self c =
    covers (columns c.self.inside.user c.self.inside.system) _ User _ _ _ c.self.invariant c.self.view_is
    c.requires.fresh c.in-User.ensures c.requires.room c.cover.ensures

pub returns-in-User-clause-sound : goal.returns-in-User-clause-sound
returns-in-User-clause-sound c =
    covers (columns c.self.inside.user c.self.inside.system) _ User _ _ _ c.self.invariant c.self.view_is
    c.requires.fresh c.in-User.ensures c.requires.room c.cover.ensures

pub invariant_of-self-in-System : goal.invariant_of-self-in-System
invariant_of-self-in-System c =
    covers (columns c.self.inside.user c.self.inside.system) _ System _ _ _ c.self.invariant c.self.view_is
    c.requires.fresh c.in-System.ensures c.requires.room c.cover-in-System.ensures

pub returns-in-System-clause-sound : goal.returns-in-System-clause-sound
returns-in-System-clause-sound c =
    covers (columns c.self.inside.user c.self.inside.system) _ System _ _ _ c.self.invariant c.self.view_is
    c.requires.fresh c.in-System.ensures c.requires.room c.cover-in-System.ensures
