use Rattle.std.proofs.Common.{refl, []}
use Rattle.std.proofs.KnownBytes.{Keeps-refl}
use Rattle.byte_streams.proofs.Taking.{front_part, front_sent, taken_all, taken_part, whole_sent}
use Rattle.screen_cells.proofs.Printing.{nothing_taken, characters_taken, word_taken, marks_taken}
use Rattle.screen_cells.proofs.screen.Screen.print.Goals as goal

pub returns-in_err-print_characters : goal.returns-in_err-print_characters
returns-in_err-print_characters g c = front_sent c.from_residual.result _ _ _ _ c.from_residual.ensures.1
    (front_part _ _ _ _ _ _ (nothing_taken _ c.args.self.now) c.in_err-print_characters.ensures.front)

pub returns-in_err-send : goal.returns-in_err-send
returns-in_err-send g c =
    front_sent c.from_residual-in_err-send.result _ _ _ _ c.from_residual-in_err-send.ensures.1
    (front_part _ _ _ _ _ _ (characters_taken _ _ c.args.self.now c.in_ok-print_characters.ensures.sent)
    c.in_err-send.ensures.front)

pub returns-in_err-print_marks : goal.returns-in_err-print_marks
returns-in_err-print_marks g c =
    front_sent c.from_residual-in_err-print_marks.result _ _ _ _ c.from_residual-in_err-print_marks.ensures.1
    (front_part _ _ _ _ _ _
    (word_taken _ _ _ c.args.self.now c.in_ok-print_characters.ensures.sent c.in_ok-send.ensures.sent)
    c.in_err-print_marks.ensures.front)

pub returns-in_err-send-2 : goal.returns-in_err-send-2
returns-in_err-send-2 g c =
    front_sent c.from_residual-in_err-send-2.result _ _ _ _ c.from_residual-in_err-send-2.ensures.1
    (front_part _ _ _ _ _ [] (marks_taken _ _ _ _ c.args.self.now c.in_ok-print_characters.ensures.sent
    c.in_ok-send.ensures.sent c.in_ok-print_marks.ensures.sent) c.in_err-send-2.ensures.front)

pub returns : goal.returns
returns g c = whole_sent c.flush.result _ _ _ _
    (taken_all _ _ _ _ [] (taken_part _ _ _ _ _ [] (marks_taken _ _ _ _ c.args.self.now
    c.in_ok-print_characters.ensures.sent c.in_ok-send.ensures.sent c.in_ok-print_marks.ensures.sent)
    c.in_ok-send-2.ensures.sent) refl (Keeps-refl _)) c.flush.ensures
