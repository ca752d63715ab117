use Rattle.std.proofs.Common.{ap, subst, sym, ◌∙◌, false, drop, take}
use Rattle.terminal_keyboard.specs.Hearings.{IsWithinLine}
use Rattle.past_viewer.proofs.Lines.{bytes_told, line_front, line_quiet, line_rest}
use Rattle.past_viewer.proofs.keys.PastKeysKeySource.hear.Goals as goal

pub pass-requires-2-clause-line : goal.pass-requires-2-clause-line
pass-requires-2-clause-line g c =
    subst IsWithinLine (sym (c.split_at.ensures.back ∙ ap (drop c.max.result) c.as_slice-all.ensures.heard))
    (line_rest false c.max.result c.in_ok-heard.heard c.in_ok-heard.ensures.line)

pub returns-then-wants_quiet-clause-line : goal.returns-then-wants_quiet-clause-line
returns-then-wants_quiet-clause-line g c = subst IsWithinLine (sym c.quiet.ensures) line_quiet

pub returns-clause-bytes : goal.returns-clause-bytes
returns-clause-bytes g c =
    bytes_told _ _ _ c.max.result _ _ _ _ _ c.in_ok-heard.ensures.bytes c.as_slice-all.ensures.heard
    c.split_at.ensures.front c.split_at.ensures.back c.pass-2.ensures.later
    (ap g.K.KeySource.left c.pass-2.ensures.keys) _ c.of.ensures

pub returns-clause-line : goal.returns-clause-line
returns-clause-line g c =
    subst IsWithinLine
    (sym (c.of.ensures ∙ c.split_at.ensures.front ∙ ap (take c.max.result) c.as_slice-all.ensures.heard))
    (line_front false c.max.result c.in_ok-heard.heard c.in_ok-heard.ensures.line)
