use Rattle.std.proofs.Common.{◌∙◌, ap, set, length-set, arith}
use Rattle.terminal_keyboard.specs.HostPastes.{harmless}
use Rattle.past_viewer.proofs.Places.{next_changed}
use Rattle.past_viewer.proofs.held.make_harmless.Goals as goal

pub loop-i-preserved : goal.loop-i-preserved
loop-i-preserved c =
    let (long, so_far) = c.loop-i.invariant in
    let text = c.loop-i.text in
    let i = c.loop-i.i in (
      length-set text i _ ∙ long,
      ap (λ b. set text i b) c.harmless.ensures ∙ next_changed harmless c.args.text.now text i (omega arith) so_far,
    )
