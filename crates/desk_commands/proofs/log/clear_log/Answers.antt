use Rattle.std.proofs.Common.{rules, ◌≡◌, sym, ◌∙◌, arith}
use Rattle.desktop_definitions.proofs.LogLaws.{empty_cleared, log_was_cleared}
use Rattle.desk_core.specs.Kept.{kept_desktop}
use Rattle.desk_commands.proofs.log.clear_log.Goals as goal

pub returns-in_ok-delete : goal.returns-in_ok-delete
returns-in_ok-delete g c = record {
  answered =
      let s = g.S.CharSource in
      let reads = c.in_ok-delete.ensures.reads in
      log_was_cleared (s.honest c.args.source.now) (s.characters c.args.source.now) (kept_desktop c.args.desk.now)
      c.requires.over (s.characters c.delete.new.source) (kept_desktop c.delete.new.self) c.log_len-len.result _
      c.log_len-len.ensures reads.as_long reads.same c.in_ok-delete.ensures.changed;
  uses = search (rules, g.met.S.CharSource.ground_self, g.met.S.CharSource.ground_through);
}

pub returns-else-len-gt0 : goal.returns-else-len-gt0
returns-else-len-gt0 g c = record {
  answered =
      let s = g.S.CharSource in
      let none : c.log_len-len.result ≡ 0 = let low = c.if-len-gt0.false in omega (arith, low) in
      empty_cleared (s.honest c.args.source.now) (s.characters c.args.source.now) (kept_desktop c.args.desk.now) c.requires.over
      (sym c.log_len-len.ensures ∙ none);
  uses = search (rules, g.met.S.CharSource.ground_self, g.met.S.CharSource.ground_through);
}
