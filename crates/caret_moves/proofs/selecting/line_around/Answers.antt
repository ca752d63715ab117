use Rattle.std.proofs.Common.{◌∙◌, ◌≡◌, ◌+◌, ap, refl, arith, length, List}
use Rattle.std.specs.Prelude.{min}
use Rattle.char_file.proofs.Reading.{read_on}
use Rattle.piece_ring.specs.declared.piece.Piece.{Piece}
use Rattle.piece_ring.specs.Flat.{flat}
use Rattle.readers_scanners.specs.Reading.{bytes_of_text}
use Rattle.desk_core.specs.Kept.{kept_desktop}
use Rattle.desk_core.proofs.PositionLemmas.{offsets_kept}
use Rattle.caret_moves.specs.Steps.{end_of_line}
use Rattle.caret_moves.specs.Stretches.{stretch_of}
use Rattle.desktop_definitions.proofs.SearchLaws.{bytes_long}
use Rattle.caret_moves.proofs.StretchTold.{line_told}
use Rattle.caret_moves.proofs.selecting.line_around.Goals as goal

pub line_start-requires-clause-offsets : goal.line_start-requires-clause-offsets
line_start-requires-clause-offsets g c = offsets_kept _ _ _ _ _ c.main_text-text.ensures refl c.requires.over

pub end_of_line-requires : goal.end_of_line-requires
end_of_line-requires g c = record {
  order = omega arith;
  within = omega (
    arith,
    c.requires.at.place,
    ap (λ (t : List Piece). length (flat t)) c.main_text-text.ensures,
  );
  offsets = offsets_kept _ _ _ _ _ c.main_text-text.ensures c.in_ok-start.ensures.source.reads.as_long c.requires.over;
}

pub returns-clause-told : goal.returns-clause-told
returns-clause-told g c =
    let s = g.S.CharSource in
    let first = c.in_ok-start.ensures.source.reads in
    let text = c.main_text-text.result.now in
    let bs = bytes_of_text (s.characters c.args.source.now) (flat text) in
    record {
      exact = λ h.
          let end_is : c.in_ok-end.end ≡ end_of_line bs c.args.pos = c.in_ok-end.ensures.end (first.still h)
          ∙ (λ k. end_of_line (bytes_of_text (first.same h k) (flat text)) c.args.pos) in
          let upto : c.min.result ≡ min (c.in_ok-end.end + 1) (length bs) =
          (let least = c.min.ensures in let sum = c.saturating_add.ensures in let all = c.len.ensures in
          let long = bytes_long (s.characters c.args.source.now) (flat text) in omega (arith, least, sum, all, long)) in
          c.stretch_of.ensures
          ∙ ap (stretch_of c.args.id c.in_ok-start.start) upto
          ∙ line_told (s.characters c.args.source.now) (kept_desktop c.args.desk.now) c.args.id text c.main_text-text.ensures
          c.in_ok-start.start c.in_ok-end.end c.args.pos (c.in_ok-start.ensures.start h) end_is;
      reads = read_on s.characters s.failures s.honest s.same_ground g.met.S.CharSource.ground_through _ _ _ first
          c.in_ok-end.ensures.source.reads;
      cause = c.in_ok-end.ensures.source.cause ∙ c.in_ok-start.ensures.source.cause;
    }
