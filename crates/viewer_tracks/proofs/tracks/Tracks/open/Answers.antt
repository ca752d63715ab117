use Rattle.viewer_tracks.specs.declared.display.Track.TheVariants.{User, System}
use Rattle.viewer_tracks.proofs.ColumnLemmas.{columns, opens}
use Rattle.viewer_tracks.proofs.tracks.Tracks.open.Goals as goal

pub invariant_of-self : goal.invariant_of-self
invariant_of-self c =
    opens (columns c.self.inside.user c.self.inside.system) _ User _ _ _ c.self.invariant c.self.view_is
    c.requires.fresh c.open.ensures.stack

pub returns-in-User-clause-sound : goal.returns-in-User-clause-sound
returns-in-User-clause-sound c =
    opens (columns c.self.inside.user c.self.inside.system) _ User _ _ _ c.self.invariant c.self.view_is
    c.requires.fresh c.open.ensures.stack

pub invariant_of-self-in-System : goal.invariant_of-self-in-System
invariant_of-self-in-System c =
    opens (columns c.self.inside.user c.self.inside.system) _ System _ _ _ c.self.invariant c.self.view_is
    c.requires.fresh c.open-in-System.ensures.stack

pub returns-in-System-clause-sound : goal.returns-in-System-clause-sound
returns-in-System-clause-sound c =
    opens (columns c.self.inside.user c.self.inside.system) _ System _ _ _ c.self.invariant c.self.view_is
    c.requires.fresh c.open-in-System.ensures.stack
