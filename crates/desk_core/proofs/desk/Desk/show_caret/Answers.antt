use Rattle.desk_core.specs.Kept.{kept_desktop}
use Rattle.desktop_definitions.proofs.PlaceLaws.{on_top_placed}
use Rattle.desk_core.proofs.TextLemmas.{movable, caret_put}
use Rattle.desk_core.proofs.desk.Desk.show_caret.Goals as goal

pub rows_of-rows-requires : goal.rows_of-rows-requires
rows_of-rows-requires g c = on_top_placed c.args.self.now.tracks c.args.id c.requires.at.placed

pub org_in-requires-clause-movable : goal.org_in-requires-clause-movable
org_in-requires-clause-movable g c = movable _ (kept_desktop c.args.self.now) c.args.id c.requires.built
    (on_top_placed c.args.self.now.tracks c.args.id c.requires.at.placed)

pub returns-clause-changed : goal.returns-clause-changed
returns-clause-changed g c =
    let s = g.S.CharSource in
    caret_put (s.characters c.args.source.now) (kept_desktop c.args.self.now) c.args.id c.requires.built c.requires.at.placed
    (s.honest c.args.source.now) c.args.pos c.in_ok-org.org c.rows_of-rows.result c.set_org.new.viewers.items
    c.requires.at.place c.in_ok-org.ensures.within c.rows_of-rows.ensures.rows c.in_ok-org.ensures.exact
    c.set_org.ensures
