use Rattle.std.proofs.Common.{rules}
use Rattle.desk_core.specs.Kept.{kept_desktop}
use Rattle.desk_core.proofs.MarkLemmas.{caret_answered}
use Rattle.desk_core.proofs.desk.Desk.set_caret.Goals as goal

pub returns : goal.returns
returns g c = record {
  answered =
      caret_answered _ _ (kept_desktop c.args.self.now) c.requires.over c.args.id c.args.pos c.requires.at.placed
      c.requires.at.place;
  uses = search (rules, g.met.S.CharSource.ground_self, g.met.S.CharSource.ground_through);
}
