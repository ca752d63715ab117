use Rattle.std.proofs.Common.{rules, ◌+◌, ◌∙◌, List, ℕ, length, Some, Ok, arith, ap, sym, subst}
use Rattle.std.proofs.lemmas.Option.{slice_get-get_or}
use Rattle.desktop_definitions.specs.Log.{logged}
use Rattle.desktop_definitions.specs.Changed.{IsExtended}
use Rattle.desktop_definitions.proofs.LogLaws.{logging_more, logging_whole}
use Rattle.desk_core.specs.Kept.{kept_desktop}
use Rattle.desk_core.proofs.Calm.{grown_on}
use Rattle.desk_commands.proofs.log.log_lines.Goals as goal

pub loop-line-preserved : goal.loop-line-preserved
loop-line-preserved g c =
    let s = g.S.CharSource in
    let i = c.loop-line.invariant in
    let mid = s.characters c.loop-line.source in
    let new = s.characters c.log_line.new.source in
    record {
      logging = logging_more (s.characters c.args.source.now) mid (kept_desktop c.args.desk.now) (kept_desktop c.loop-line.desk)
          (λ l. l.items) c.args.lines.now c.loop-line.line-index c.line-item.result
          (slice_get-get_or c.args.lines.now c.loop-line.line-index c.line-item.result
          (let low = c.loop-line-test.true in omega (arith, low)) ∙ ap Some (sym c.line-item.is)) i.logging new
          (kept_desktop c.log_line.new.desk) (c.loop-line.line-index + 1) (omega arith) (λ h. i.grown.source.premise.1 h)
          (subst (λ (l : List ℕ). IsExtended (s.honest c.loop-line.source) mid new (kept_desktop c.loop-line.desk)
          (kept_desktop c.log_line.new.desk) (λ d. logged d l) (length l)) c.as_slice.ensures.value
          c.in_ok-log_line.ensures.logged);
      grown = grown_on s g.met.S.CharSource.ground_through c.args.source.now c.loop-line.source c.log_line.new.source
          (Ok c.in_ok-log_line.field-0) (λ wrong. absurd cc) i.grown c.in_ok-log_line.ensures.uses;
    }

pub returns : goal.returns
returns g c = record {
  logged =
      let s = g.S.CharSource in
      logging_whole (s.characters c.args.source.now) (s.characters c.loop-line.source) (kept_desktop c.args.desk.now)
      (kept_desktop c.loop-line.desk) (λ l. l.items) c.args.lines.now c.loop-line.line-index
      (let past = c.loop-line-test.false in omega (arith, past)) c.loop-line.invariant.logging;
  uses = search (rules, g.met.S.CharSource.ground_self, g.met.S.CharSource.ground_through);
}
