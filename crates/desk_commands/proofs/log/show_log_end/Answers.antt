use Rattle.std.proofs.Common.{rules, arith, ◌∙◌}
use Rattle.char_file.proofs.Reading.{read_on}
use Rattle.desktop_definitions.proofs.LogLaws.{shown_more, shown_whole}
use Rattle.desk_core.specs.Kept.{kept_desktop}
use Rattle.desk_commands.proofs.log.show_log_end.Goals as goal

pub loop-at-preserved : goal.loop-at-preserved
loop-at-preserved g c =
    let s = g.S.CharSource in
    let i = c.loop-at.invariant in
    record {
      shown = shown_more (s.characters c.args.source.now) (s.characters c.loop-at.source) (kept_desktop c.args.desk.now)
          (kept_desktop c.loop-at.desk) (kept_desktop c.show_log_in.new.desk) c.loop-at.at _ c.viewer_at-id.result (omega arith)
          i.reads.still i.reads.as_long i.reads.same i.shown c.viewer_at-id.ensures
          c.in_ok-show_log_in.ensures.changed;
      reads = read_on s.characters s.failures s.honest s.same_ground g.met.S.CharSource.ground_through _ _ _ i.reads
          c.in_ok-show_log_in.ensures.reads;
      calm = c.in_ok-show_log_in.ensures.faults.calm (λ wrong. absurd cc) ∙ i.calm;
    }

pub returns : goal.returns
returns g c = record {
  changed =
      shown_whole (g.S.CharSource.characters c.args.source.now) (kept_desktop c.args.desk.now) (kept_desktop c.loop-at.desk) c.loop-at.at
      (omega (arith, c.loop-at-test.false, c.viewer_count-at-end.ensures)) c.loop-at.invariant.shown;
  reads = c.loop-at.invariant.reads;
  faults = search rules;
}
