use Rattle.std.proofs.Common.{rules, ◌∙◌, ℕ, [], ap, sym, arith}
use Rattle.arrayvec.specs.ArrayVec.{ArrayVec}
use Rattle.desktop_definitions.specs.Seen.{seen}
use Rattle.desktop_definitions.proofs.RowLaws.{space_written}
use Rattle.desktop_definitions.specs.DeskWords.{has_space}
use Rattle.desktop_definitions.proofs.LogLaws.{line_bytes_map}
use Rattle.desktop_definitions.proofs.StoreLaws.{files_small, deleting_refused, deleting_full, deleting_stands}
use Rattle.desktop_definitions.proofs.StoreLaws.{deleting_short, deleting_answered}
use Rattle.desk_core.specs.Kept.{kept_desktop}
use Rattle.desk_commands.specs.Lines.{bytes_of_lines, length_of_lines}
use Rattle.desk_commands.proofs.stores.delete_files.Goals as goal

pub returns-then-not-can_be_deleted : goal.returns-then-not-can_be_deleted
returns-then-not-can_be_deleted g c = record {
  answered =
      deleting_refused _ _ (kept_desktop c.args.desk.now) c.requires.over c.args.names.now
      (sym c.if-not-can_be_deleted.true ∙ c.can_be_deleted.ensures);
  uses = search (rules, g.met.S.CharSource.ground_self, g.met.S.CharSource.ground_through);
}

pub lengths_of-requires-clause-files : goal.lengths_of-requires-clause-files
unfolding seen
lengths_of-requires-clause-files g c =
    files_small (seen [] (kept_desktop c.args.desk.now)) (c.requires.over.whole.sound [])

pub returns-then-not-fits_more : goal.returns-then-not-fits_more
returns-then-not-fits_more g c = record {
  answered =
      let old = g.S.CharSource.characters c.args.source.now in
      deleting_full _ old (kept_desktop c.args.desk.now) c.requires.over c.args.names.now
      (bytes_of_lines c.as_slice-lines.result.now) c.total-count.result c.lengths_of.result
      (sym c.if-not-can_be_deleted.false ∙ c.can_be_deleted.ensures)
      (ap bytes_of_lines c.as_slice-lines.ensures.value ∙ c.in_ok-made.ensures) c.lengths_of.ensures.sum
      (c.total-count.ensures.value ∙ sym (line_bytes_map (λ (l : ArrayVec ℕ). l.items) c.as_slice-lines.result.now))
      (sym (c.fits_more.ensures old) ∙ c.if-not-fits_more.true);
  uses = search (rules, g.met.S.CharSource.ground_self, g.met.S.CharSource.ground_through);
}

pub log_lines-requires : goal.log_lines-requires
unfolding seen
log_lines-requires g c = record {
  stands =
      deleting_stands (g.S.CharSource.honest c.args.source.now) _ (kept_desktop c.args.desk.now) c.requires.over c.args.names.now
      (bytes_of_lines c.as_slice-lines.result.now) c.total-count.result c.lengths_of.result
      (sym c.if-not-can_be_deleted.false ∙ c.can_be_deleted.ensures)
      (ap bytes_of_lines c.as_slice-lines.ensures.value ∙ c.in_ok-made.ensures) c.lengths_of.ensures.sum
      c.remove.new.files.entries c.remove.ensures;
  room =
      let low = space_written (seen [] (kept_desktop c.args.desk.now)) c.total-count.result c.total-count.result
      c.lengths_of.result (sym (c.fits_more.ensures []) ∙ c.if-not-fits_more.false) in
      omega (arith, low, c.total-count.ensures.value);
  short =
      let s = g.S.CharSource in
      let low = deleting_short (s.honest c.args.source.now) (s.characters c.args.source.now) (kept_desktop c.args.desk.now)
      c.requires.over c.args.names.now (bytes_of_lines c.as_slice-lines.result.now) c.total-count.result
      c.lengths_of.result (sym c.if-not-can_be_deleted.false ∙ c.can_be_deleted.ensures)
      (ap bytes_of_lines c.as_slice-lines.ensures.value ∙ c.in_ok-made.ensures) c.lengths_of.ensures.sum
      c.remove.new.files.entries c.remove.ensures (sym (c.fits_more.ensures []) ∙ c.if-not-fits_more.false) in
      omega (arith, low, c.total-count.ensures.value);
}

pub returns : goal.returns
returns g c = record {
  answered =
      let d = kept_desktop c.args.desk.now in
      let gone = c.lengths_of.result in
      let lines = c.as_slice-lines.result.now in
      deleting_answered _ _ d c.requires.over c.args.names.now (bytes_of_lines lines) (length_of_lines lines) gone
      (sym c.if-not-can_be_deleted.false ∙ c.can_be_deleted.ensures)
      (ap bytes_of_lines c.as_slice-lines.ensures.value ∙ c.in_ok-made.ensures) c.lengths_of.ensures.sum
      c.remove.new.files.entries c.remove.ensures _ (kept_desktop c.log_lines.new.desk) c.in_ok-log_lines.ensures.logged
      (λ all. ap (λ n. has_space (seen all d) n n gone) (sym c.total-count.ensures.value) ∙ sym (c.fits_more.ensures all)
      ∙ c.if-not-fits_more.false);
  uses = search (rules, g.met.S.CharSource.ground_self, g.met.S.CharSource.ground_through);
}
