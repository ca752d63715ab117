use Rattle.std.proofs.Common.{◌∙◌, arith}
use Rattle.std.proofs.lemmas.Result.{on_ok_weaker}
use Rattle.past_moments.proofs.Carried.{moments_on}
use Rattle.all_moments.specs.Parts.IsDesktopThen.{in_use}
use Rattle.all_moments.proofs.AtHand.{all_now, found_then, words_in_use, words_oldest_in_use}
use Rattle.all_moments.proofs.Backward.{all_on}
use Rattle.all_moments.proofs.all.AllMoments.look_in_use.Goals as goal

pub returns-then-k-self-clause-shown : goal.returns-then-k-self-clause-shown
returns-then-k-self-clause-shown g c =
    found_then c.look.result (λ look fact is. in_use (fact is.known.in_use)) c.look.ensures.shown

pub returns-then-k-self-clause-words : goal.returns-then-k-self-clause-words
returns-then-k-self-clause-words g c = found_then c.look.result (λ look fact is.
    let quiet = c.shows_what_crashes_leave.ensures.quiet c.requires.usable in
    words_in_use g.D.Disk c.look.new.store c.args.self.now.in_use c.args.k look.words.items
    (moments_on g.D.Disk c.look.ensures.still c.requires.usable quiet c.args.self.now.in_use is.known.in_use) c.if-k-self.true
    (fact is.known.in_use))
    c.look.ensures.words

pub returns-then-k-self-clause-are : goal.returns-then-k-self-clause-are
returns-then-k-self-clause-are g c = on_ok_weaker c.look.result (λ are is.
    all_now g.D.Disk c.look.new.store c.args.self.now c.look.new.self (are is.known.in_use)
    (all_on g.D.Disk c.look.ensures.still c.requires.usable (c.shows_what_crashes_leave.ensures.quiet c.requires.usable)
    c.args.self.now is)) c.look.ensures.are

pub returns-clause-shown : goal.returns-clause-shown
returns-clause-shown g c =
    found_then c.look_plain.result (λ look fact is. in_use (fact is.known.in_use)) c.look_plain.ensures.shown

pub returns-clause-words : goal.returns-clause-words
returns-clause-words g c = found_then c.look_plain.result (λ look fact is.
    let quiet = c.shows_what_crashes_leave.ensures.quiet c.requires.usable in
    words_oldest_in_use g.D.Disk c.look_plain.new.store c.args.self.now c.args.k look.words.items c.requires.none
    (omega (arith, c.if-k-self.false)) (fact ∙ c.words.ensures)
    (all_on g.D.Disk c.look_plain.ensures.still c.requires.usable quiet c.args.self.now is))
    c.look_plain.ensures.words

pub returns-clause-are : goal.returns-clause-are
returns-clause-are g c = on_ok_weaker c.look_plain.result (λ are is.
    all_now g.D.Disk c.look_plain.new.store c.args.self.now c.look_plain.new.self (are is.known.in_use)
    (all_on g.D.Disk c.look_plain.ensures.still c.requires.usable (c.shows_what_crashes_leave.ensures.quiet c.requires.usable)
    c.args.self.now is)) c.look_plain.ensures.are
