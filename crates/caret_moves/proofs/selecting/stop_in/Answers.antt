use Rattle.std.proofs.Common.{◌∙◌, ◌≡◌, ◌-◌, refl, arith}
use Rattle.char_file.proofs.Reading.{read_on}
use Rattle.text_frames.specs.Lines.{line_start}
use Rattle.desktop_definitions.specs.Seen.{seen}
use Rattle.desk_core.specs.Kept.{kept_desktop}
use Rattle.desk_core.proofs.PositionLemmas.{offsets_kept}
use Rattle.caret_moves.specs.Leading.{has_column}
use Rattle.caret_moves.proofs.Told.{bytes_are}
use Rattle.caret_moves.proofs.StretchLaws.{stop_low}
use Rattle.caret_moves.proofs.StretchTold.{stop_told}
use Rattle.caret_moves.proofs.selecting.stop_in.Goals as goal

pub line_start-requires-clause-offsets : goal.line_start-requires-clause-offsets
line_start-requires-clause-offsets g c = offsets_kept _ _ _ _ _ c.main_text-text.ensures refl c.requires.over

pub has_column-requires-clause-at : goal.has_column-requires-clause-at
has_column-requires-clause-at g c = record {
  placed = c.requires.at.placed;
  place = (let low = c.requires.at.place in let less = c.saturating_sub.ensures in omega (arith, low, less));
}

pub returns-clause-told : goal.returns-clause-told
returns-clause-told g c =
    let s = g.S.CharSource in
    let old = s.characters c.args.source.now in
    let d = kept_desktop c.args.desk.now in
    let first = c.in_ok-start.ensures.source.reads in
    let second = c.in_ok-is_shown.ensures in
    let less : c.saturating_sub.result ≡ c.args.pos - 1 = (let is = c.saturating_sub.ensures in omega (arith, is)) in
    record {
      exact = λ h. c.stop_by.ensures
          ∙ stop_told (seen old d) c.args.id c.args.pos c.in_ok-start.start c.in_ok-is_shown.is_shown
          (c.in_ok-start.ensures.start h
          ∙ (λ k. line_start (bytes_are old d c.args.id c.main_text-text.result.now c.main_text-text.ensures k) c.args.pos))
          (second.exact (first.still h) ∙ (λ k. has_column (seen (first.same h k) d) c.args.id (less k)));
      reads = read_on s.characters s.failures s.honest s.same_ground g.met.S.CharSource.ground_through _ _ _ first
          second.reads;
      cause = second.cause ∙ c.in_ok-start.ensures.source.cause;
    }

pub returns-clause-within : goal.returns-clause-within
returns-clause-within g c =
    let is = c.stop_by.ensures in
    let low = stop_low c.args.pos c.in_ok-start.start c.in_ok-is_shown.is_shown in
    omega (arith, is, low)
