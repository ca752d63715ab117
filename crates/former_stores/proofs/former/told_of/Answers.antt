use Rattle.std.proofs.Common.{◌∙◌, ap, arith}
use Rattle.std.proofs.lemmas.Result.{IfOk-weaker}
use Rattle.sector_disk.specs.Memory.{trail_of}
use Rattle.sector_disk.specs.Trail.{now}
use Rattle.desk_past.proofs.InMemory.{zeros_are}
use Rattle.former_stores.proofs.former.told_of.Goals as goal

pub told_at-requires-clause-blank : goal.told_at-requires-clause-blank
told_at-requires-clause-blank g c = record {
  room = omega (arith, ap (λ d. d.size) c.in_ok-disk.ensures);
  zeros = λ n. ap (λ d. (now (trail_of d.calls)).reads n) c.in_ok-disk.ensures ∙ zeros_are;
}

pub returns-clause-told : goal.returns-clause-told
returns-clause-told g c = IfOk-weaker c.told_at.result _ _ (λ found fact honest. fact honest tt) c.told_at.ensures.told
