use Rattle.std.proofs.Common.{drop}
use Rattle.desktop_definitions.proofs.LogLaws.{IsLogging}
use Rattle.desk_core.specs.Kept.{kept_desktop}
use Rattle.desk_commands.specs.Lines.{bytes_of_lines}
use Rattle.desk_core.proofs.Calm.{IsCalm}
use Rattle.desk_commands.proofs.log.log_lines.Given as goal

-- some lines were put in, and nothing failed
abbrev pub invariant-loop-line : goal.invariant-loop-line
invariant-loop-line g l =
    let s = g.S.CharSource in
    record {
      logging : IsLogging (s.honest l.fn.source) (s.characters l.fn.source) (s.characters l.source) (kept_desktop l.fn.desk)
          (kept_desktop l.desk) (bytes_of_lines l.lines) (bytes_of_lines (drop l.line-index l.lines));
      grown : IsCalm s l.fn.source l.source;
    }
