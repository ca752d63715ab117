-- What follows of each script that is played by lines.
use Rattle.std.specs.Prelude.{IfSome}
use Rattle.sector_disk.specs.declared.disk.Disk.{Ghosts}
use Rattle.oberon_main.specs.declared.playing.PlayEnd.{PlayEnd}
use Rattle.oberon_main.specs.Play.{PlayState}
use Rattle.oberon_main.specs.ByLines.{PlaysByLines}
use Rattle.oberon_main.specs.Told.{IsTold}
use Rattle.oberon_main.specs.Moments.{LeavesLines}
use Rattle.oberon_main.specs.Surviving.{ScriptSurvives}

-- what it is answered, where its bytes are known
abbrev pub ScriptsAreAnswered : {D : Type 0} → Ghosts D → Type 0
ScriptsAreAnswered {D = D} d = (why end : PlayEnd) (old new : PlayState D)
    → PlaysByLines d why end old new
    → IfSome old.left (λ script. IsTold script why end old new)

-- what a crash leaves at every moment of it
abbrev pub ScriptsAreCutOff : {D : Type 0} → Ghosts D → Type 0
ScriptsAreCutOff {D = D} d = (why end : PlayEnd) (old new : PlayState D)
    → PlaysByLines d why end old new
    → LeavesLines d old new

-- what a crash leaves of it in the end, where its bytes are known
abbrev pub ScriptsSurvive : {D : Type 0} → Ghosts D → Type 0
ScriptsSurvive {D = D} d = (why end : PlayEnd) (old new : PlayState D)
    → PlaysByLines d why end old new
    → IfSome old.left (λ script. ScriptSurvives d script old new)
