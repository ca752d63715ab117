-- What is sought in the caret's text.
use Rattle.std.specs.Prelude.{ℕ, Bool, if◌then◌else◌, List}
use Rattle.event_bytes.specs.Bytes.{is_typed_bytes}
use Rattle.press_tasks.specs.declared.finding.Finding.{Finding}
use Rattle.press_tasks.specs.declared.finding.Finding.TheVariants as finding

-- Words are sought; where there are none, or they can't be typed, those that were searched last.
abbrev pub words_finding : List ℕ → Bool → Finding
words_finding words before =
    if is_typed_bytes words then finding.Words words before else finding.On before
