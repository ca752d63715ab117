use Rattle.std.proofs.Common.{rules, sym, ◌∙◌}
use Rattle.desktop_definitions.proofs.LogLaws.{log_shown_here, log_elsewhere, log_nowhere}
use Rattle.desk_core.specs.Kept.{kept_desktop}
use Rattle.desk_commands.proofs.log.show_log_in.Goals as goal
use Rattle.desk_commands.proofs.log.show_log_in.Goals.{else-main_of-eq0-via-then-main_of-eq0+else-contains}
use Rattle.desk_commands.proofs.log.show_log_in.Goals.{else-main_of-eq0-via-else-main_of-eq0}

pub returns-in_ok-show : goal.returns-in_ok-show
returns-in_ok-show g c = record {
  changed =
      log_shown_here (g.S.CharSource.characters c.args.source.now) (kept_desktop c.args.desk.now) c.args.id
      (kept_desktop c.show.new.self) c.log_len-end.result
      (sym c.main_of.ensures ∙ c.if-main_of-eq0.true) (c.contains.ensures.placed.0 c.if-contains.true)
      c.log_len-end.ensures c.in_ok-show.ensures.changed;
  reads = search (rules, g.met.S.CharSource.ground_self, g.met.S.CharSource.ground_through);
  faults = search rules;
}

pub returns-else-main_of-eq0 : goal.returns-else-main_of-eq0
returns-else-main_of-eq0 g c = record {
  changed =
      let cs = g.S.CharSource.characters c.args.source.now in
      let d = kept_desktop c.args.desk.now in
      elim c.else-main_of-eq0.branch [
        | else-main_of-eq0-via-then-main_of-eq0+else-contains w ↦
            log_nowhere cs d c.args.id c.requires.built (λ placed. cc (
              w.if-contains.false,
              w.contains.ensures.placed.1
                  placed,
            ))
        | else-main_of-eq0-via-else-main_of-eq0 w ↦
            log_elsewhere cs d c.args.id c.requires.built (λ is. absurd (w.if-main_of-eq0.false (c.main_of.ensures ∙ is)))
      ];
  reads = search (rules, g.met.S.CharSource.ground_self, g.met.S.CharSource.ground_through);
  faults = search rules;
}
