use Rattle.std.proofs.Common.{◌∙◌}
use Rattle.std.proofs.lemmas.Result.{IfOk-weaker}
use Rattle.desk_sitting.specs.Clips.{clip_sent, clip_told}
use Rattle.terminal_clipboards.specs.Clips.{clip_bytes}
use Rattle.desk_sitting.specs.Telling.{scene_told}
use Rattle.desk_sitting.proofs.Marks.{looks_then}
use Rattle.terminal_sittings.proofs.telling.tell.Goals as goal

pub returns-clause-sent : goal.returns-clause-sent
unfolding scene_told
returns-clause-sent g c =
    let first = c.in_ok-mark_if_due.ensures in
    IfOk-weaker c.clip.result _ _ (λ clip both honest.
    let there = both (first.looks.disk.device.still honest) in
    let same = first.looks.desktop honest in
    let marked = first.marked honest in (
      there.0 ∙ (λ k. clip_bytes (clip_sent (same k) (marked k))),
      there.1 ∙ (λ k. clip_told (same k) (marked k)),
    )) c.clip.ensures.sent

pub returns-clause-looks : goal.returns-clause-looks
returns-clause-looks g c = looks_then g.D.Disk tt c.clip.result _ _ _ c.in_ok-mark_if_due.ensures.looks c.clip.ensures.looks
