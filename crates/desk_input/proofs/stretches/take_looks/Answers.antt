use Rattle.std.proofs.Common.{rules, ◌∙◌, sym, subst}
use Rattle.piece_ring.specs.Flat.{flat}
use Rattle.viewer_tracks.specs.Columns.{Columns, IsOnTop}
use Rattle.desktop_definitions.specs.Looks.{IsLook}
use Rattle.desktop_definitions.specs.Viewers.{viewer_or_none, kept_main}
use Rattle.desktop_definitions.specs.Seen.{seen}
use Rattle.desktop_definitions.proofs.RowLaws.{known_no_selection, over_built}
use Rattle.desktop_definitions.proofs.LookedLaws.{look_at_looks, kept_text_looks}
use Rattle.desktop_definitions.proofs.KeyLaws.{looks_taken_none, looks_taken_answered}
use Rattle.desk_core.specs.Kept.{kept_desktop}
use Rattle.desk_core.proofs.StretchLemmas.{refused_effect}
use Rattle.desk_input.proofs.StillLemmas.{does_unread}
use Rattle.desk_input.proofs.stretches.take_looks.Goals as goal

pub returns-in_default : goal.returns-in_default
unfolding seen
returns-in_default g c =
    does_unread g.S.CharSource g.met.S.CharSource.ground_self _ _ (kept_desktop c.args.desk.now) _ _ c.requires.over
    (λ H all over. refused_effect over known_no_selection
    (looks_taken_none _ (sym c.selection.ensures.is ∙ c.in_default.is) _ _))

pub set_looks-requires-clause-look : goal.set_looks-requires-clause-look
set_looks-requires-clause-look g c =
    let d = kept_desktop c.args.desk.now in
    subst IsLook (sym c.look_at-look.ensures) (look_at_looks c.args.pos (flat (kept_main d c.args.id))
    (kept_text_looks _ d (over_built _ d c.requires.over) (viewer_or_none d.viewers c.args.id).main))

pub returns : goal.returns
returns g c = record {
  answered =
      let stands = c.in-Some.ensures in
      let set = c.in_ok-set_looks.ensures in
      looks_taken_answered _ _ _ _ c.requires.over _ stands.some stands.stands.place _ _ _ c.look_at-look.ensures
      (set.changed _ (over_built _ (kept_desktop c.args.desk.now) c.requires.over))
      (subst (λ (columns : Columns). IsOnTop c.args.id columns) (sym set.columns) c.requires.at.placed)
      c.requires.at.place (sym stands.is);
  unread = search (rules, g.met.S.CharSource.ground_self, g.met.S.CharSource.ground_through);
  uses = search (rules, g.met.S.CharSource.ground_self, g.met.S.CharSource.ground_through);
}
