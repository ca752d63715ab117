use Rattle.std.proofs.Common.{ℕ}
use Rattle.std.specs.Prelude.{All}
use Rattle.piece_ring.specs.Text.{Text as AText}
use Rattle.screen_cells.specs.Lines.{AreLinesOf, IsNumbered, HavePlaces}
use Rattle.screen_cells.specs.Walks.{AreKept}
use Rattle.screen_cells.proofs.Keeping.{AreKnown}
use Rattle.screen_cells.proofs.Painting.{ArePainted}
use Rattle.screen_cells.proofs.screen.Screen.paint.Given as goal

abbrev pub invariant-loop-y : goal.invariant-loop-y
invariant-loop-y g l =
    let s = g.S.CharSource in
    record {
      painted : ArePainted s.characters s.failures s.honest s.same_ground
          (AreKnown (s.characters l.fn.source) l.shown l.fn.lines) l.tracks l.shown l.marker l.fn.source l.source
          l.self-inside.rows l.y;
      kept : AreKept (s.honest l.source) (s.characters l.source) l.shown l.walks;
      lines : s.honest l.fn.source → (texts : ℕ → AText ℕ)
          → All (IsNumbered texts (s.characters l.fn.source)) l.shown → AreLinesOf texts l.fn.lines
          → AreLinesOf texts l.lines;
      ready : HavePlaces l.lines;
    }
