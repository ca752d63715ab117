use Rattle.std.proofs.Common.{arith, subst, sym}
use Rattle.past_moments.specs.Moments.{IsLastOf}
use Rattle.past_moments.proofs.Carried.{extent_on, moments_on, told_on}
use Rattle.past_moments.proofs.Kept.{found_both, found_then, whatever}
use Rattle.past_moments.proofs.Telling.{last_is, told_between, told_first, told_last}
use Rattle.past_moments.proofs.moments.Moments.look.Goals as goal

pub returns-then-k-self-clause-words : goal.returns-then-k-self-clause-words
returns-then-k-self-clause-words g c = found_then c.look_plain.result (λ look words. λ are.
    told_on g.D.Disk c.look_plain.ensures.still c.requires (c.shows_what_crashes_leave.ensures.quiet c.requires) c.args.k
    look.words.items (told_first g.D.Disk c.args.self.now.extent c.args.k look.words.items are.extent c.if-k-self.true words))
    c.look_plain.ensures.words

pub returns-then-k-self-2-clause-shown : goal.returns-then-k-self-2-clause-shown
returns-then-k-self-2-clause-shown g c = found_then c.look_now.result (λ look shown. λ are.
    shown c.args.k (subst (λ n. IsLastOf g.D.Disk n c.args.store.now) (sym c.if-k-self-2.true)
    (last_is g.D.Disk c.args.self.now.extent are.extent))) c.look_now.ensures.shown

pub returns-then-k-self-2-clause-words : goal.returns-then-k-self-2-clause-words
returns-then-k-self-2-clause-words g c = found_then c.look_now.result (λ look words. λ are.
    told_on g.D.Disk c.look_now.ensures.still c.requires (c.shows_what_crashes_leave.ensures.quiet c.requires) c.args.k
    look.words.items (told_last g.D.Disk c.args.self.now.extent c.args.k look.words.items are.extent
    (omega (arith, c.if-k-self.false)) c.if-k-self-2.true words)) c.look_now.ensures.words

pub returns-then-k-self-2-clause-are : goal.returns-then-k-self-2-clause-are
returns-then-k-self-2-clause-are g c = whatever c.look_now.result (λ are. moments_on g.D.Disk c.look_now.ensures.still c.requires
    (c.shows_what_crashes_leave.ensures.quiet c.requires) c.args.self.now are)

pub returns-clause-words : goal.returns-clause-words
returns-clause-words g c = found_both c.look_led.result (λ look shown deed. λ are.
    let d = g.D.Disk in
    let quiet = c.shows_what_crashes_leave.ensures.quiet c.requires in
    told_between d c.args.self.now.extent c.args.k look.words.items look.shown.desktop
    (extent_on d c.look_led.ensures.still c.requires quiet c.args.self.now.extent are.extent) (omega (arith, c.if-k-self.false))
    c.if-k-self-2.false (shown are) (deed are)) c.look_led.ensures.shown c.look_led.ensures.words
