-- What is asked about before a press is done.
use Rattle.std.specs.Prelude.{Bool, true, false, not, ◌==◌, ◌&&◌, if◌then◌else◌, Option, Some, None}
use Rattle.status_line.specs.declared.question.Question.{Question}
use Rattle.status_line.specs.declared.question.Question.TheVariants.{Leaving, Forgetting, Closing, Taking, Rivalled}
use Rattle.status_line.specs.declared.question.Question.TheVariants.{Deleting, Misnamed, Reopening}

abbrev pub is_same_question : Question → Question → Bool
is_same_question Leaving Leaving = true
is_same_question Forgetting Forgetting = true
is_same_question (Closing x y) (Closing u v) = (x == u) && (y == v)
is_same_question (Taking x y) (Taking u v) = (x == u) && (y == v)
is_same_question (Rivalled x y) (Rivalled u v) = (x == u) && (y == v)
is_same_question (Deleting x y) (Deleting u v) = (x == u) && (y == v)
is_same_question (Misnamed x y) (Misnamed u v) = (x == u) && (y == v)
is_same_question (Reopening x y) (Reopening u v) = (x == u) && (y == v)
is_same_question _ _ = false

abbrev pub is_asked : Option Question → Question → Bool
is_asked None question = false
is_asked (Some last) question = is_same_question last question

-- a question comes first, unless the last press has asked it
abbrev pub comes_first : Option Question → Option Question → Bool
comes_first last None = false
comes_first last (Some question) = not (is_asked last question)

abbrev pub asks_to_leave : Option Question → Bool
asks_to_leave (Some Leaving) = true
asks_to_leave (Some Forgetting) = true
asks_to_leave _ = false

-- what leaving would lose: a desktop in memory, or else what was taken back, where any of it can be done again
abbrev pub left_behind : Bool → Bool → Option Question
left_behind in_memory goes_again =
    if in_memory then Some Leaving else (if goes_again then Some Forgetting else None)
