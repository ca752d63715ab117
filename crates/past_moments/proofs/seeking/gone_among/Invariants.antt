use Rattle.std.proofs.Common.{◌≡◌, take}
use Rattle.desktop_definitions.specs.Step.{steps}
use Rattle.past_moments.specs.Seeking.{IsLastGone, stands}
use Rattle.past_moments.proofs.seeking.gone_among.Given as goal

-- so many events were posted, and the word stands there or not
abbrev pub invariant-loop-i : goal.invariant-loop-i
invariant-loop-i l = record {
  shown : l.shown.desktop ≡ steps l.fn.shown.desktop (take l.i l.events);
  was : l.was ≡ stands l.word l.shown.desktop;
  last : IsLastGone (λ i. stands l.word (steps l.fn.shown.desktop (take i l.events))) l.i l.last;
}
