use Rattle.std.proofs.Common.{◌∙◌, ◌≤◌, ◌-◌, ℕ, length, sym, subst, arith}
use Rattle.std.specs.Prelude.{nat_lt}
use Rattle.std.proofs.lemmas.Result.{IfOk-weaker}
use Rattle.char_file.proofs.Reading.{read_on}
use Rattle.piece_ring.specs.Flat.{flat}
use Rattle.piece_ring.specs.Text.{AreWithin}
use Rattle.readers_scanners.specs.Reading.{bytes_of_text}
use Rattle.text_frames.specs.Cells.{column_of}
use Rattle.caret_moves.specs.Filling.{break_behind}
use Rattle.caret_moves.proofs.BreakLaws.{roomy, far, near}
use Rattle.caret_moves.proofs.filling.line_break.Goals as goal

pub returns-then-has_room-clause-place : goal.returns-then-has_room-clause-place
returns-then-has_room-clause-place g c = λ h.
    roomy (bytes_of_text (g.S.CharSource.characters c.args.source.now) (flat c.args.text.now)) c.args.pos c.args.w c.args.count
    c.saturating_sub.result c.saturating_sub.ensures c.in_ok-has_room.has_room (c.in_ok-has_room.ensures.is h) c.if-has_room.true

pub is_before-requires-2-clause-walk : goal.is_before-requires-2-clause-walk
is_before-requires-2-clause-walk g c = record {
  order = omega arith;
  within =
      (let low = c.requires.walk.within in
      let less = c.saturating_sub-2.ensures in
      omega (arith, low, less));
  offsets = subst (λ (n : ℕ). AreWithin n (flat c.args.text.now)) (sym c.in_ok-has_room.ensures.source.reads.as_long)
      c.requires.walk.offsets;
}

pub returns-then-not-is_near-clause-place : goal.returns-then-not-is_near-clause-place
returns-then-not-is_near-clause-place g c = λ h.
    let reads = c.in_ok-has_room.ensures.source.reads in
    far (bytes_of_text (g.S.CharSource.characters c.args.source.now) (flat c.args.text.now)) c.args.pos c.args.w c.args.count
    c.saturating_sub.result c.saturating_sub.ensures c.in_ok-has_room.has_room (c.in_ok-has_room.ensures.is h) c.if-has_room.false
    (sym c.if-not-is_near.true ∙ c.in_ok-is_near.ensures.is (reads.still h)
    ∙ (λ k. nat_lt (column_of (bytes_of_text (reads.same h k) (flat c.args.text.now)) 0 (c.saturating_sub-2.ensures k)) c.args.w))

pub returns-clause-place : goal.returns-clause-place
returns-clause-place g c =
    IfOk-weaker c.break_behind.result _ _ (λ place is h.
    let s = g.S.CharSource in
    let reads = c.in_ok-has_room.ensures.source.reads in
    let both = read_on s.characters s.failures s.honest s.same_ground g.met.S.CharSource.ground_through _ _ _ reads
    c.in_ok-is_near.ensures.source.reads in
    is (both.still h)
    ∙ (λ k. break_behind (bytes_of_text (both.same h k) (flat c.args.text.now)) c.args.pos)
    ∙ near (bytes_of_text (s.characters c.args.source.now) (flat c.args.text.now)) c.args.pos c.args.w c.args.count
    c.saturating_sub.result c.saturating_sub.ensures c.in_ok-has_room.has_room (c.in_ok-has_room.ensures.is h) c.if-has_room.false
    (sym c.if-not-is_near.false ∙ c.in_ok-is_near.ensures.is (reads.still h)
    ∙ (λ k. nat_lt (column_of (bytes_of_text (reads.same h k) (flat c.args.text.now)) 0 (c.saturating_sub-2.ensures k)) c.args.w)))
    c.break_behind.ensures.place
