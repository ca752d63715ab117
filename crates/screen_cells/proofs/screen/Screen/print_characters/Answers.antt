use Rattle.std.proofs.Common.{ℕ, ◌-◌, ◌∙◌, ap}
use Rattle.std.specs.List.{flat_map}
use Rattle.std.proofs.KnownBytes.{Keeps-refl}
use Rattle.screen_pictures.specs.Screen.{row_at}
use Rattle.screen_pictures.specs.Printed.{character_line}
use Rattle.byte_streams.proofs.Taking.{front_sent, taken_all}
use Rattle.screen_cells.proofs.Rows.{line_taken, line_front, no_rows}
use Rattle.screen_cells.proofs.screen.Screen.print_characters.Goals as goal

pub loop-y-preserved : goal.loop-y-preserved
loop-y-preserved g c = line_taken
    (λ (y : ℕ). character_line y (row_at c.args.self.now y)) _ _ _ _ _ c.loop-y.y c.loop-y-test.true
    (c.as_slice.ensures.value ∙ c.character_line.ensures ∙ (λ k. character_line (c.loop-y.y - 1) (c.row-row.ensures k)))
    c.loop-y.invariant c.in_ok-send.ensures.sent

pub returns-in_err-send : goal.returns-in_err-send
returns-in_err-send g c = front_sent c.from_residual.result _ _ _ _ c.from_residual.ensures.1
    (line_front (λ (y : ℕ). character_line y (row_at c.args.self.now y)) _ _ _ _ _ c.loop-y.y c.loop-y-test.true
    (c.as_slice.ensures.value ∙ c.character_line.ensures ∙ (λ k. character_line (c.loop-y.y - 1) (c.row-row.ensures k)))
    c.loop-y.invariant c.in_err-send.ensures.front)

pub returns : goal.returns
returns g c = record {
  sent = taken_all _ _ _ _ _ c.loop-y.invariant
      (ap (flat_map (λ (y : ℕ). character_line y (row_at c.args.self.now y))) (no_rows c.loop-y.y c.loop-y-test.false))
      (Keeps-refl (g.W.Write.contents c.loop-y.writer));
  front = tt;
}
