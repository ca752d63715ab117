use Rattle.std.proofs.Common.{rules}
use Rattle.desk_core.specs.Kept.{kept_desktop}
use Rattle.desk_core.proofs.MarkLemmas.{none_drawn, one_drawn}
use Rattle.desk_core.proofs.desk.Desk.select.Goals as goal

pub returns-then-is_some_stretch : goal.returns-then-is_some_stretch
returns-then-is_some_stretch g c = record {
  answered =
      one_drawn _ _ (kept_desktop c.args.self.now) c.requires.over c.args.drawn c.requires.at.placed c.requires.at.place
      c.is_some_stretch.result c.is_some_stretch.ensures
      c.select.new.selections.items c.if-is_some_stretch.true c.in_ok-select.ensures;
  uses = search (rules, g.met.S.CharSource.ground_self, g.met.S.CharSource.ground_through);
}

pub returns : goal.returns
returns g c = record {
  answered =
      none_drawn _ _ (kept_desktop c.args.self.now) c.requires.over c.args.drawn c.requires.at.placed c.requires.at.place
      c.is_some_stretch.result c.is_some_stretch.ensures
      c.unselect.new.selections.items c.if-is_some_stretch.false c.unselect.ensures;
  uses = search (rules, g.met.S.CharSource.ground_self, g.met.S.CharSource.ground_through);
}
