use Rattle.std.proofs.Common.{◌≡◌, ◌∙◌, ◌+◌, ◌-◌, ap, arith, drop, subst, sym, take}
use Rattle.desktop_definitions.specs.Desktop.{Desktop}
use Rattle.desktop_definitions.specs.Step.{steps}
use Rattle.past_moments.specs.Seeking.{IsLastGone, stands}
use Rattle.past_moments.proofs.Gone.{gone_more, steps_on}
use Rattle.past_moments.proofs.seeking.gone_among.Goals as goal

pub loop-i-preserved : goal.loop-i-preserved
loop-i-preserved c =
    let was = c.loop-i.invariant in
    let i = c.loop-i.i in
    let events = c.args.events.now in
    let here = c.args.shown.now.desktop in
    let word = c.args.word.now in
    let next : c.post_all.new.shown.desktop ≡ steps here (take (i + 1) events) =
    c.in_ok-post_all.ensures.led.desktop tt ∙ ap (λ (d : Desktop). steps d (take (i + 1 - i) (drop i events))) was.shown
    ∙ sym (steps_on here events i (i + 1 - i) (i + 1) (omega arith)) in
    record {
      shown = c.in_ok-is.ensures.same ∙ next;
      was = c.in_ok-is.ensures.is ∙ ap (stands word) (sym c.in_ok-is.ensures.same);
      last = subst (IsLastGone (λ n. stands word (steps here (take n events))) (i + 1)) (sym c.last_gone-last.ensures)
          (gone_more (λ n. stands word (steps here (take n events))) i c.loop-i.last c.loop-i.was c.in_ok-is.is'
          (was.was ∙ ap (stands word) was.shown) (c.in_ok-is.ensures.is ∙ ap (stands word) next) was.last);
    }
