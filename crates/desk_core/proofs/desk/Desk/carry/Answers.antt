use Rattle.std.specs.Prelude.{⊤}
use Rattle.std.proofs.Common.{rules, ◌≡◌, ◌+◌, ℕ, Some, sym, ap, subst, ◌∙◌}
use Rattle.viewer_tracks.specs.Columns.{Columns, IsColumns, times_placed, times_meant, after_close}
use Rattle.desktop_definitions.specs.Viewers.{opened_at}
use Rattle.desktop_definitions.specs.Opening.{without_unshown}
use Rattle.desktop_definitions.specs.Gesture.{after_move}
use Rattle.desktop_definitions.proofs.PlacedLaws.{over_columns, closed_fresh, carried_answered}
use Rattle.desk_core.specs.Kept.{kept_desktop}
use Rattle.desk_core.proofs.ArmLemmas.{answered_there}
use Rattle.desk_core.proofs.UnreadLemmas.{over_all}
use Rattle.desk_core.proofs.desk.Desk.carry.Goals as goal

pub open_at-requires-clause-fresh : goal.open_at-requires-clause-fresh
open_at-requires-clause-fresh g c =
    let old = g.S.CharSource.characters c.args.source.now in
    let d = kept_desktop c.args.self.now in
    let hold = over_columns old d c.requires.over in
    closed_fresh d.columns c.close.new.self c.args.id hold
    (subst (λ (closed : Columns). times_placed c.args.id closed + times_meant c.args.id (Some c.args.id)
    ≡ times_placed c.args.id d.columns) (sym c.close.ensures.closed)
    (c.edits_place_viewers.ensures.closed d.columns c.args.id c.args.id hold c.requires.placed))

pub returns : goal.returns
unfolding after_move
returns g c = record {
  answered =
      let d = kept_desktop c.args.self.now in
      let v = c.args.id in
      let closed = after_close d.columns v in
      let closed_hold = subst IsColumns c.close.ensures.closed c.close.ensures.sound in
      let hold = over_columns _ d c.requires.over in
      let left = λ (w : ℕ). c.edits_place_viewers.ensures.closed d.columns v w hold c.requires.placed in
      answered_there (c.open_at.ensures
      ∙ ap (λ (columns : Columns). without_unshown (opened_at (record d { columns = columns }) v (c.args.x, c.args.y + 1)))
      c.close.ensures.closed)
      (carried_answered _ _ d c.requires.over v c.args.x c.args.y c.requires.placed (record {
        hold = c.edits_keep_columns.ensures.opened closed v c.args.x (c.args.y + 1) closed_hold
            (closed_fresh d.columns closed v hold (left v));
        places = λ w.
            c.edits_place_viewers.ensures.opened closed v c.args.x (c.args.y + 1) w closed_hold ∙ left w;
      }));
  unread = λ calm all long.
      let d = kept_desktop c.args.self.now in
      let v = c.args.id in
      let closed = after_close d.columns v in
      let closed_hold = subst IsColumns c.close.ensures.closed c.close.ensures.sound in
      let over = over_all c.requires.over all long in
      let hold = over_columns all d over in
      let left = λ (w : ℕ). c.edits_place_viewers.ensures.closed d.columns v w hold c.requires.placed in
      (answered_there (c.open_at.ensures
      ∙ ap (λ (columns : Columns). without_unshown (opened_at (record d { columns = columns }) v (c.args.x, c.args.y + 1)))
      c.close.ensures.closed)
      (carried_answered ⊤ all d over v c.args.x c.args.y c.requires.placed (record {
        hold = c.edits_keep_columns.ensures.opened closed v c.args.x (c.args.y + 1) closed_hold
            (closed_fresh d.columns closed v hold (left v));
        places = λ w.
            c.edits_place_viewers.ensures.opened closed v c.args.x (c.args.y + 1) w closed_hold ∙ left w;
      }))).exact tt;
  uses = search (rules, g.met.S.CharSource.ground_self, g.met.S.CharSource.ground_through);
}
