use Rattle.std.proofs.Common.{◌≡◌, ℕ, ◌-◌, ◌*◌}
use Rattle.char_file.specs.Source.{OnlyReads}
use Rattle.viewer_tracks.specs.declared.display.TheConstants.{COLUMNS, ROWS}
use Rattle.desktop_definitions.specs.Seen.{seen}
use Rattle.desk_core.specs.Kept.{kept_desktop}
use Rattle.caret_moves.specs.Calling.{calls_at, cell_numbered, first_where}
use Rattle.caret_moves.proofs.calling.word_number.Given as goal

-- the cells to come decide
abbrev pub invariant-loop-number : goal.invariant-loop-number
invariant-loop-number g l =
    let s = g.S.CharSource in
    let x = seen (s.characters l.fn.source) (kept_desktop l.desk) in
    record {
      reads : OnlyReads s.characters s.failures s.honest s.same_ground l.fn.source l.source;
      calm : s.failures l.source ≡ s.failures l.fn.source;
      so_far : s.honest l.fn.source
          → first_where (λ (n : ℕ). calls_at x l.command l.place (cell_numbered n)) 0 (COLUMNS * ROWS)
          ≡ first_where (λ (n : ℕ). calls_at x l.command l.place (cell_numbered n)) l.number (COLUMNS * ROWS - l.number);
    }
