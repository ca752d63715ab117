use Rattle.std.proofs.Common.{◌<◌, List, refl, sym, subst}
use Rattle.viewer_tracks.specs.Viewers.{Entry, times_in}
use Rattle.viewer_tracks.proofs.ColumnLemmas.{columns, found_user, found_system}
use Rattle.viewer_tracks.proofs.tracks.Tracks.column_of.Goals as goal

pub returns-then-contains-clause-column : goal.returns-then-contains-clause-column
returns-then-contains-clause-column c =
    (found_user (columns c.self.inside.user c.self.inside.system) _ _ c.self.invariant c.self.view_is
    (subst (λ (t : List Entry). 0 < times_in c.args.viewer.0 t) c.shown.ensures (c.if-contains.ensures.0 refl))).0

pub returns-else-contains-clause-column : goal.returns-else-contains-clause-column
returns-else-contains-clause-column c =
    (found_system (columns c.self.inside.user c.self.inside.system) _ _ c.self.invariant c.self.view_is c.requires
    (λ some. c.if-contains.ensures.1
    (subst (λ (t : List Entry). 0 < times_in c.args.viewer.0 t) (sym c.shown.ensures) some))).0
