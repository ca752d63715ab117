use Rattle.desktop_definitions.specs.Effects.{look_set}
use Rattle.desktop_definitions.proofs.LookLaws.{none_set_answered, look_set_answered}
use Rattle.desktop_definitions.specs.Seen.{seen}
use Rattle.desk_core.specs.Kept.{kept_desktop}
use Rattle.std.proofs.Common.{rules, Ok}
use Rattle.desk_commands.proofs.looks.set_look.Goals as goal

pub returns-in_default : goal.returns-in_default
returns-in_default g c = record {
  answered =
      let s = g.S.CharSource in
      let old = s.characters c.args.source.now in
      let d = kept_desktop c.args.desk.now in
      none_set_answered (s.honest c.args.source.now) old d c.requires.over c.args.new
      (λ set. Ok (look_set (seen old d) set)) c.in_default.is;
  uses = search (rules, g.met.S.CharSource.ground_self, g.met.S.CharSource.ground_through);
}

pub returns : goal.returns
returns g c = record {
  answered =
      let s = g.S.CharSource in
      let old = s.characters c.args.source.now in
      let d = kept_desktop c.args.desk.now in
      look_set_answered (s.honest c.args.source.now) old d c.requires.over c.args.new
      c.in-Some.change c.relooked-desk.result c.requires.sets c.in-Some.is c.relooked-desk.ensures;
  uses = search (rules, g.met.S.CharSource.ground_self, g.met.S.CharSource.ground_through);
}
