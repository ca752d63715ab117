use Rattle.std.proofs.Common.{rules, ◌∙◌, List, [], ℕ, refl, length, ap, sym, arith}
use Rattle.std.proofs.lemmas.List.{length-map}
use Rattle.arrayvec.specs.ArrayVec.{ArrayVec}
use Rattle.desktop_definitions.specs.Seen.{seen}
use Rattle.desktop_definitions.proofs.RowLaws.{space_written}
use Rattle.desktop_definitions.specs.DeskWords.{has_space}
use Rattle.desktop_definitions.proofs.LogLaws.{line_bytes_map, directory_full, directory_answered, directory_few}
use Rattle.desk_core.specs.Kept.{kept_desktop}
use Rattle.desk_commands.specs.Lines.{bytes_of_lines, length_of_lines}
use Rattle.desk_commands.proofs.log.log_directory.Goals as goal

pub total-count-requires : goal.total-count-requires
total-count-requires g c =
    let s = g.S.CharSource in
    let old = s.characters c.args.source.now in
    let few = directory_few (s.honest c.args.source.now) old (kept_desktop c.args.desk.now) c.requires.over
    (bytes_of_lines c.in_ok-made.made.items) _ (c.in_ok-made.ensures old) refl in
    let long = length-map {B = List ℕ} c.in_ok-made.made.items (λ (l : ArrayVec ℕ). l.items) in
    let same = ap length c.as_slice-lines.ensures.value in
    omega (arith, few, long, same)

pub returns-then-not-fits_more : goal.returns-then-not-fits_more
returns-then-not-fits_more g c = record {
  answered =
      let old = g.S.CharSource.characters c.args.source.now in
      directory_full _ old (kept_desktop c.args.desk.now) c.requires.over
      (bytes_of_lines c.as_slice-lines.result.now) c.total-count.result
      (ap bytes_of_lines c.as_slice-lines.ensures.value ∙ c.in_ok-made.ensures old)
      (c.total-count.ensures.value ∙ sym (line_bytes_map (λ (l : ArrayVec ℕ). l.items) c.as_slice-lines.result.now))
      (sym (c.fits_more.ensures old) ∙ c.if-not-fits_more.true);
  uses = search (rules, g.met.S.CharSource.ground_self, g.met.S.CharSource.ground_through);
}

pub log_lines-requires : goal.log_lines-requires
unfolding seen
log_lines-requires g c = record {
  stands = search rules;
  room =
      let low = space_written (seen [] (kept_desktop c.args.desk.now)) c.total-count.result c.total-count.result 0
      (sym (c.fits_more.ensures []) ∙ c.if-not-fits_more.false) in
      omega (arith, low, c.total-count.ensures.value);
  short = search rules;
}

pub returns : goal.returns
returns g c = record {
  answered =
      let d = kept_desktop c.args.desk.now in
      let lines = c.as_slice-lines.result.now in
      directory_answered _ _ d c.requires.over (bytes_of_lines lines) (length_of_lines lines)
      (ap bytes_of_lines c.as_slice-lines.ensures.value ∙ c.in_ok-made.ensures _)
      (sym (line_bytes_map (λ (l : ArrayVec ℕ). l.items) lines)) _ (kept_desktop c.log_lines.new.desk)
      c.in_ok-log_lines.ensures.logged
      (λ all. ap (λ n. has_space (seen all d) n n 0) (sym c.total-count.ensures.value) ∙ sym (c.fits_more.ensures all)
      ∙ c.if-not-fits_more.false);
  uses = search (rules, g.met.S.CharSource.ground_self, g.met.S.CharSource.ground_through);
}
