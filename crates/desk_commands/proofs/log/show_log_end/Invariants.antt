use Rattle.std.proofs.Common.{◌≡◌}
use Rattle.char_file.specs.Source.{OnlyReads}
use Rattle.desktop_definitions.specs.Changed.{IsChanged}
use Rattle.desktop_definitions.proofs.LogLaws.{shown_to}
use Rattle.desk_core.specs.Kept.{kept_desktop}
use Rattle.desk_commands.proofs.log.show_log_end.Given as goal

-- the viewers so far show the end of the log, and nothing failed
abbrev pub invariant-loop-at : goal.invariant-loop-at
invariant-loop-at g l =
    let s = g.S.CharSource in
    let old = s.characters l.fn.source in
    record {
      shown : IsChanged (s.honest l.fn.source) old (kept_desktop l.fn.desk) (kept_desktop l.desk)
          (shown_to old (kept_desktop l.fn.desk) l.at)
          0 0;
      reads : OnlyReads s.characters s.failures s.honest s.same_ground l.fn.source l.source;
      calm : s.failures l.source ≡ s.failures l.fn.source;
    }
