-- The lines of a script and their answers, as lists.
use Rattle.std.proofs.Common.{◌≡◌, ◌≢◌, ℕ, List, [], ◌∷◌, ◌++◌, Option, None, Some, IfSome}
use Rattle.std.proofs.Common.{refl, sym, ap, ◌∙◌, subst, append_assoc, append-nil}
use Rattle.std.specs.List.{AllByRecursion, flat_map}
use Rattle.std.specs.Io.KnownBytes.{Consumes, IsAtEnd}
use Rattle.std.proofs.lemmas.List.Concat.{flat_map-append}
use Rattle.screen_pictures.specs.Printed.{ended_line}
use Rattle.script_lines.specs.Script.{IsLine, IsSplit, lines_at_end, AreLines, BeginsWith}
use Rattle.script_lines.specs.Request.{request_of}
use Rattle.script_lines.proofs.Splitting.{some_split}
use Rattle.desk_journal.specs.Session.{Session}
use Rattle.oberon_main.specs.Answers.{answer, session_after, answers_to, after_all}
use Rattle.oberon_main.specs.ByLines.{CameWhole}

-- ---- lists of lines

pub all_both : (lines more : List (List ℕ)) → AllByRecursion IsLine lines → AllByRecursion IsLine more
    → AllByRecursion IsLine (lines ++ more)
all_both [] more p q = q
all_both (line ∷ lines) more p q = (p.0, all_both lines more p.1 q)

pub out_both : (s : Session) (lines more : List (List ℕ)) → answers_to s (lines ++ more) ≡ answers_to s lines
    ++ answers_to (after_all s lines) more
out_both s [] more = refl
out_both s (line ∷ lines) more = ap (λ l. answer s (request_of line) ++ l)
    (out_both (session_after s (request_of line)) lines more)
    ∙ sym (append_assoc (answer s (request_of line)) (answers_to (session_after s (request_of line)) lines)
    (answers_to (after_all (session_after s (request_of line)) lines) more))

pub after_both : (s : Session) (lines more : List (List ℕ))
    → after_all s (lines ++ more) ≡ after_all (after_all s lines) more
after_both s [] more = refl
after_both s (line ∷ lines) more = after_both (session_after s (request_of line)) lines more

pub out_one : (s : Session) (line : List ℕ) → answers_to s (line ∷ []) ≡ answer s (request_of line)
out_one s line = append-nil (answer s (request_of line))

lines_both : (lines more : List (List ℕ)) (rest : List ℕ) → lines_at_end (lines ++ more) rest ≡ lines
    ++ lines_at_end more rest
lines_both lines more [] = refl
lines_both lines more (b ∷ bs) = append_assoc lines more ((b ∷ bs) ∷ [])

pub lines_then : (lines : List (List ℕ)) (rest : List ℕ) → lines_at_end lines rest ≡ lines ++ lines_at_end [] rest
lines_then lines [] = sym (append-nil lines)
lines_then lines (b ∷ bs) = refl

pub last_line : (rest : List ℕ) → rest ≢ [] → lines_at_end [] rest ≡ rest ∷ []
last_line [] there = absurd (there refl)
last_line (b ∷ bs) there = refl

-- ---- what was read is a prefix of the script

begins_split : (script pending : List ℕ) (lines : List (List ℕ)) → AllByRecursion IsLine lines
    → script ≡ flat_map ended_line lines ++ pending
    → ((more : List (List ℕ)) × (rest : List ℕ) × IsSplit pending more rest) → BeginsWith script lines
begins_split script pending lines each whole (more, rest, split) = (
  lines_at_end more rest,
  record {
    ends = lines ++ more;
    rest = rest;
    split = record {
      whole = whole ∙ ap (λ l. flat_map ended_line lines ++ l) split.whole
          ∙ sym (append_assoc (flat_map ended_line lines) (flat_map ended_line more) rest)
          ∙ ap (λ l. l ++ rest) (sym (flat_map-append ended_line lines more));
      each = all_both lines more each split.each;
      last = split.last;
    };
    are = sym (lines_both lines more rest);
  },
)

pub begins_read : (script : List ℕ) (left : Option (List ℕ)) (read pending : List ℕ) (lines : List (List ℕ))
    → Consumes (Some script) left read
    → AllByRecursion IsLine lines → read ≡ flat_map ended_line lines ++ pending → BeginsWith script lines
begins_read script None read pending lines came each parts = absurd came
begins_read script (Some left) read pending lines came each parts =
    begins_split script (pending ++ left) lines each (came ∙ ap (λ l. l ++ left) parts
    ∙ append_assoc (flat_map ended_line lines) pending left) (some_split (pending ++ left))

pub all_read : (script : List ℕ) (left : Option (List ℕ)) (read : List ℕ) → Consumes (Some script) left read
    → IsAtEnd left → script ≡ read
all_read script None read came end = absurd came
all_read script (Some left) read came end = came ∙ ap (λ l. read ++ l) end ∙ append-nil read

-- ---- what was read, line by line

-- what came with one line more
pub parts_more : (read read' pending pending' line : List ℕ) (lines : List (List ℕ)) → read ≡ flat_map ended_line lines
    ++ pending → pending ++ read' ≡ ended_line line ++ pending'
    → read ++ read' ≡ flat_map ended_line (lines ++ line ∷ []) ++ pending'
parts_more read read' pending pending' line lines before now =
    ap (λ l. l ++ read') before ∙ append_assoc (flat_map ended_line lines) pending read'
    ∙ ap (λ l. flat_map ended_line lines ++ l) now
    ∙ sym (append_assoc (flat_map ended_line lines) (ended_line line) pending')
    ∙ ap (λ l. l ++ pending') (ap (λ l. flat_map ended_line lines ++ l) (sym (append-nil (ended_line line)))
    ∙ sym (flat_map-append ended_line lines (line ∷ [])))

-- all that came, with a rest after the last line feed
pub split_rest : (read read' pending rest : List ℕ) (lines : List (List ℕ)) → read ≡ flat_map ended_line lines ++ pending
    → pending ++ read' ≡ rest
    → read ++ read' ≡ flat_map ended_line lines ++ rest
split_rest read read' pending rest lines before now = ap (λ l. l ++ read') before
    ∙ append_assoc (flat_map ended_line lines) pending read' ∙ ap (λ l. flat_map ended_line lines ++ l) now

pub begins_rest : (script : List ℕ) (lines : List (List ℕ)) (rest : List ℕ) → IsSplit script lines rest → rest ≢ []
    → BeginsWith script (lines ++ rest ∷ [])
begins_rest script lines rest split there = (
  [],
  record {
    ends = lines;
    rest = rest;
    split = split;
    are = append-nil (lines ++ rest ∷ [])
        ∙ sym (lines_then lines rest ∙ ap (λ ls. lines ++ ls) (last_line rest there));
  },
)

pub plain_rest : (rest : List ℕ) → IsLine rest → AllByRecursion IsLine (lines_at_end [] rest)
plain_rest [] plain = tt
plain_rest (b ∷ bs) plain = (plain, tt)

pub begins_all : (from : Option (List ℕ)) (lines : List (List ℕ)) → IfSome from (λ script. AreLines script lines)
    → IfSome from (λ script. BeginsWith script lines)
begins_all None lines are = tt
begins_all (Some script) lines are = ([], subst (AreLines script) (sym (append-nil lines)) are)

pub begins_came : (from left : Option (List ℕ)) (lines : List (List ℕ))
    → IfSome from (λ script. CameWhole script left lines) → IfSome from (λ script. BeginsWith script lines)
begins_came None left lines came = tt
begins_came (Some script) left lines came =
    begins_read script left came.0 came.1 lines came.2 came.3.each came.3.whole
