use Rattle.std.proofs.Common.{sym, ap, subst, ◌∙◌}
use Rattle.std.specs.Io.KnownBytes.{Consumes}
use Rattle.std.proofs.KnownBytes.{Consumes-trans}
use Rattle.terminal_keyboard.specs.Hearings.{heard_bytes, is_quiet}
use Rattle.terminal_keyboard.proofs.Hearings.{bytes_again, bytes_not_quiet}
use Rattle.terminal_keyboard.proofs.terminal.listen.Goals as goal

pub returns-in-Ok-clause-bytes : goal.returns-in-Ok-clause-bytes
returns-in-Ok-clause-bytes g c =
    let came = Consumes-trans _ _ _ _ _ c.loop-count.invariant.0 c.in-Ok.ensures.bytes.0 in
    subst (Consumes _ _) (sym (ap heard_bytes c.of_bytes.ensures ∙ bytes_again _)) came

pub returns-in-Ok-clause-quiet : goal.returns-in-Ok-clause-quiet
returns-in-Ok-clause-quiet g c = ap is_quiet c.of_bytes.ensures ∙ bytes_not_quiet _

pub returns-in-Ok-clause-once : goal.returns-in-Ok-clause-once
returns-in-Ok-clause-once g c is = absurd cc (ap is_quiet c.of_bytes.ensures ∙ bytes_not_quiet _)
