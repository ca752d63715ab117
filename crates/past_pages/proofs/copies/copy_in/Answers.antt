use Rattle.std.proofs.Common.{◌≡◌, ◌∙◌, ap, arith}
use Rattle.std.proofs.lemmas.Result.{IfOk-weaker}
use Rattle.sector_disk.specs.Memory.{trail_of}
use Rattle.sector_disk.specs.Trail.{now}
use Rattle.past_pages.proofs.CopyReads.{some_then, zeros_are}
use Rattle.past_pages.proofs.copies.copy_in.Goals as goal

pub copy_at-requires-clause-blank : goal.copy_at-requires-clause-blank
copy_at-requires-clause-blank g c = record {
  room = let size = ap (λ d. d.size) c.in_ok-disk.ensures in omega (arith, size);
  zeros = λ n. ap (λ d. (now (trail_of d.calls)).reads n) c.in_ok-disk.ensures ∙ zeros_are;
}

pub returns-clause-found : goal.returns-clause-found
returns-clause-found g c = IfOk-weaker c.copy_at.result _ _ (λ found fact honest to has room.
    some_then found (fact honest tt to has) (λ shown is. is.desktop)) c.copy_at.ensures.shown
