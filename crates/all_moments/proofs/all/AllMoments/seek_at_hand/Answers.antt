use Rattle.std.proofs.lemmas.Result.{IfOk-weaker, on_ok_weaker}
use Rattle.all_moments.specs.Parts.IsSoughtThen.{in_use}
use Rattle.all_moments.proofs.AtHand.{all_now, all_stays, ok_both, sought_at_hand}
use Rattle.all_moments.proofs.Backward.{all_on}
use Rattle.all_moments.proofs.all.AllMoments.seek_at_hand.Goals as goal

pub returns-in-None-clause-sought : goal.returns-in-None-clause-sought
returns-in-None-clause-sought g c =
    IfOk-weaker c.seek_page.result _ _ (λ sought fact is. in_use (fact is.known.in_use)) c.seek_page.ensures.sought

pub returns-in-None-clause-are : goal.returns-in-None-clause-are
returns-in-None-clause-are g c = on_ok_weaker c.seek_page.result (λ are is.
    all_now g.D.Disk c.seek_page.new.store c.args.self.now c.seek_page.new.self (are is.known.in_use)
    (all_on g.D.Disk c.seek_page.ensures.still c.requires (c.shows_what_crashes_leave.ensures.quiet c.requires)
    c.args.self.now is)) c.seek_page.ensures.are

pub returns-in-Some-clause-sought : goal.returns-in-Some-clause-sought
returns-in-Some-clause-sought g c = ok_both c.seek_page-in-Some.result (λ sought stays fact is.
    sought_at_hand g.D.Disk c.args.store.now c.args.self.now c.in-Some.part c.seek_page-in-Some.new.self c.in-Some.is stays is
    c.args.k c.args.word.now sought fact) c.seek_page-in-Some.ensures.stays c.seek_page-in-Some.ensures.sought

pub returns-in-Some-clause-are : goal.returns-in-Some-clause-are
returns-in-Some-clause-are g c = on_ok_weaker c.seek_page-in-Some.result (λ stays is.
    all_stays g.D.Disk c.args.store.now c.args.self.now c.in-Some.part c.seek_page-in-Some.new.self c.in-Some.is stays is)
    c.seek_page-in-Some.ensures.stays
