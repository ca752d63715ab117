use Rattle.desktop_definitions.proofs.LogLaws.{showing_put}
use Rattle.desk_core.specs.Kept.{kept_desktop}
use Rattle.desk_core.proofs.TextLemmas.{movable}
use Rattle.desk_core.proofs.desk.Desk.show.Goals as goal

pub org_in-requires-clause-movable : goal.org_in-requires-clause-movable
org_in-requires-clause-movable g c = movable _ (kept_desktop c.args.self.now) c.args.id c.requires.built c.requires.placed

pub returns-clause-changed : goal.returns-clause-changed
returns-clause-changed g c =
    let s = g.S.CharSource in
    showing_put (s.honest c.args.source.now) (s.characters c.args.source.now) (kept_desktop c.args.self.now) c.args.id
    c.args.pos
    c.in_ok-first.first c.rows_of-rows.result c.set_org.new.viewers.items c.requires.built
    c.in_ok-first.ensures.within c.rows_of-rows.ensures.rows c.in_ok-first.ensures.exact c.set_org.ensures
