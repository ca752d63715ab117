use Rattle.std.specs.Prelude.{⊤}
use Rattle.std.proofs.Common.{rules, ◌+◌, subst, arith}
use Rattle.viewer_tracks.specs.Columns.{IsColumns}
use Rattle.desktop_definitions.specs.Gesture.{resized}
use Rattle.desktop_definitions.proofs.PlacedLaws.{over_columns, resized_answered}
use Rattle.desk_core.specs.Kept.{kept_desktop}
use Rattle.desk_core.proofs.ArmLemmas.{answered_there}
use Rattle.desk_core.proofs.UnreadLemmas.{over_all}
use Rattle.desk_core.proofs.desk.Desk.resize.Goals as goal

pub returns : goal.returns
unfolding resized
returns g c = record {
  answered =
      let d = kept_desktop c.args.self.now in
      answered_there (λ k. record d { columns = c.change.ensures.changed k })
      (resized_answered _ _ d c.requires.over c.args.id c.args.y c.requires.placed (record {
        hold = subst IsColumns c.change.ensures.changed c.change.ensures.sound;
        places = λ w.
            let same = c.edits_place_viewers.ensures.changed d.columns c.args.id (c.args.y + 1) w
            (over_columns _ d c.requires.over) c.requires.placed in
            omega (arith, same);
      }));
  unread = λ calm all long.
      let d = kept_desktop c.args.self.now in
      let over = over_all c.requires.over all long in
      (answered_there (λ k. record d { columns = c.change.ensures.changed k })
      (resized_answered ⊤ all d over c.args.id c.args.y c.requires.placed (record {
        hold = subst IsColumns c.change.ensures.changed c.change.ensures.sound;
        places = λ w.
            let same = c.edits_place_viewers.ensures.changed d.columns c.args.id (c.args.y + 1) w
            (over_columns all d over) c.requires.placed in
            omega (arith, same);
      }))).exact tt;
  uses = search (rules, g.met.S.CharSource.ground_self, g.met.S.CharSource.ground_through);
}
