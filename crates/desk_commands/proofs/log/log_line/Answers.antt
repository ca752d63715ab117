use Rattle.std.proofs.Common.{rules, ◌≡◌, ◌+◌, ◌∙◌, length, ap, sym, subst, length-append, arith}
use Rattle.piece_ring.specs.Look.{default_look}
use Rattle.piece_ring.specs.Flat.{flat}
use Rattle.piece_ring.proofs.Lengths.{length-run}
use Rattle.piece_ring.proofs.Offsets.{run-AreWithin}
use Rattle.piece_ring.specs.Text.{AreWithin}
use Rattle.desktop_definitions.proofs.RowLaws.{built_longer, text_held}
use Rattle.desktop_definitions.proofs.LogLaws.{log_kept, line_put, line_logged}
use Rattle.desk_core.specs.Kept.{kept_desktop}
use Rattle.desktop_definitions.specs.Looks.{AreLooks}
use Rattle.desktop_definitions.proofs.LookedLaws.{default_is_look, run_looks}
use Rattle.desk_commands.proofs.log.log_line.Goals as goal

pub insert-requires-clause-at : goal.insert-requires-clause-at
insert-requires-clause-at g c =
    let old = g.S.CharSource.characters c.args.source.now in
    let now = g.S.CharSource.characters c.append.new.self in
    let grown : length now ≡ length old + length c.args.line.now =
    ap length c.in_ok-append.ensures.added ∙ length-append old c.args.line.now in
    let place = c.log_len-end.ensures in
    record {
      built = built_longer (length old) (length now) (kept_desktop c.args.desk.now) (omega (arith, grown))
          c.requires.stands.built;
      there = log_kept _ (kept_desktop c.args.desk.now) c.requires.stands.built;
      place = omega (arith, place);
    }

pub insert-requires-clause-goes : goal.insert-requires-clause-goes
insert-requires-clause-goes g c =
    let all = text_held (kept_desktop c.args.desk.now) 0 in
    let low = c.requires.short in
    let size : length (flat c.in_ok-buffer.buffer) ≡ length c.args.line.now =
    ap length c.in_ok-buffer.ensures ∙ length-run c.args.desk.now.written (length c.args.line.now) default_look in
    let old = g.S.CharSource.characters c.args.source.now in
    let now = g.S.CharSource.characters c.append.new.self in
    let grown : length now ≡ length old + length c.args.line.now =
    ap length c.in_ok-append.ensures.added ∙ length-append old c.args.line.now in
    record {
      short = omega (arith, all, low, size);
      within = subst (AreWithin (length now)) (sym c.in_ok-buffer.ensures)
          (run-AreWithin (length now) c.args.desk.now.written (length c.args.line.now) default_look
          (omega (arith, grown, c.requires.stands.counted)));
      looks = subst AreLooks (sym c.in_ok-buffer.ensures)
          (run_looks c.args.desk.now.written (length c.args.line.now) default_look default_is_look);
    }

pub show_log_end-requires : goal.show_log_end-requires
show_log_end-requires g c =
    let s = g.S.CharSource in
    let reads = c.in_ok-insert.ensures.reads in
    let premise = c.in_ok-append.ensures.keeps.premise in
    record {
      built = (line_put (s.characters c.args.source.now) c.args.line.now (s.characters c.append.new.self)
          (s.characters c.insert.new.source) (kept_desktop c.args.desk.now) (kept_desktop c.insert.new.self) c.log_len-end.result
          c.in_ok-buffer.buffer c.requires.stands c.in_ok-append.ensures.added (λ h. premise.1 h) reads.as_long
          (λ h. reads.same (premise.1 h)) c.in_ok-buffer.ensures c.log_len-end.ensures
          c.in_ok-insert.ensures.changed).stands.built;
    }

pub returns : goal.returns
returns g c = record {
  logged =
      let s = g.S.CharSource in
      let reads = c.in_ok-insert.ensures.reads in
      let again = c.in_ok-show_log_end.ensures.reads in
      let premise = c.in_ok-append.ensures.keeps.premise in
      line_logged (s.characters c.args.source.now) c.args.line.now (s.characters c.append.new.self)
      (s.characters c.insert.new.source) (kept_desktop c.args.desk.now) (kept_desktop c.insert.new.self) c.log_len-end.result
      c.in_ok-buffer.buffer c.requires.stands c.in_ok-append.ensures.added (λ h. premise.1 h) reads.as_long
      (λ h. reads.same (premise.1 h)) c.in_ok-buffer.ensures c.log_len-end.ensures c.in_ok-insert.ensures.changed
      (s.characters c.show_log_end.new.source) (kept_desktop c.show_log_end.new.desk) (λ h. reads.still (premise.1 h))
      again.as_long (λ h. again.same (reads.still (premise.1 h))) c.in_ok-show_log_end.ensures.changed;
  uses = search (rules, g.met.S.CharSource.ground_self, g.met.S.CharSource.ground_through);
}
