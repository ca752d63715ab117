use Rattle.std.proofs.Common.{ℕ, ◌-◌, ◌∙◌, sym, ap}
use Rattle.std.specs.Prelude.{filter}
use Rattle.std.specs.List.{flat_map}
use Rattle.std.proofs.KnownBytes.{Keeps-refl}
use Rattle.screen_pictures.specs.Screen.{row_at}
use Rattle.screen_pictures.specs.Printed.{mark_line, has_mark_line}
use Rattle.byte_streams.proofs.Taking.{front_sent, taken_all}
use Rattle.screen_cells.proofs.Rows.{passing_taken, passing_front, no_line, no_rows}
use Rattle.screen_cells.proofs.screen.Screen.print_marks.Goals as goal

pub loop-y-preserved-in-Continue-1 : goal.loop-y-preserved-in-Continue-1
loop-y-preserved-in-Continue-1 g c =
    passing_taken (λ (y : ℕ). mark_line y (row_at c.args.self.now y))
    (λ (y : ℕ). has_mark_line (row_at c.args.self.now y)) _ _ _ _ _ c.loop-y.y c.loop-y-test.true
    (c.as_slice.ensures.value ∙ c.mark_line.ensures ∙ (λ k. mark_line (c.loop-y.y - 1) (c.row-row.ensures k)))
    (sym (c.has_mark_line.ensures ∙ (λ k. has_mark_line (c.row-row.ensures k))) ∙ c.if-has_mark_line.true)
    c.loop-y.invariant c.in_ok-send.ensures.sent

pub returns-in_err-send : goal.returns-in_err-send
returns-in_err-send g c = front_sent c.from_residual.result _ _ _ _ c.from_residual.ensures.1
    (passing_front (λ (y : ℕ). mark_line y (row_at c.args.self.now y))
    (λ (y : ℕ). has_mark_line (row_at c.args.self.now y)) _ _ _ _ _ c.loop-y.y c.loop-y-test.true
    (c.as_slice.ensures.value ∙ c.mark_line.ensures ∙ (λ k. mark_line (c.loop-y.y - 1) (c.row-row.ensures k)))
    (sym (c.has_mark_line.ensures ∙ (λ k. has_mark_line (c.row-row.ensures k))) ∙ c.if-has_mark_line.true)
    c.loop-y.invariant c.in_err-send.ensures.front)

pub loop-y-preserved : goal.loop-y-preserved
loop-y-preserved g c =
    no_line (λ (y : ℕ). mark_line y (row_at c.args.self.now y))
    (λ (y : ℕ). has_mark_line (row_at c.args.self.now y)) _ _ _ c.loop-y.y c.loop-y-test.true
    (sym (c.has_mark_line.ensures ∙ (λ k. has_mark_line (c.row-row.ensures k))) ∙ c.if-has_mark_line.false)
    c.loop-y.invariant

pub returns : goal.returns
returns g c = record {
  sent = taken_all _ _ _ _ _ c.loop-y.invariant
      (ap (λ rows. flat_map (λ (y : ℕ). mark_line y (row_at c.args.self.now y))
      (filter (λ (y : ℕ). has_mark_line (row_at c.args.self.now y)) rows)) (no_rows c.loop-y.y c.loop-y-test.false))
      (Keeps-refl (g.W.Write.contents c.loop-y.writer));
  front = tt;
}
