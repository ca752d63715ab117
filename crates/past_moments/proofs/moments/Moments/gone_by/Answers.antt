use Rattle.std.proofs.Common.{◌≡◌, ◌∙◌, ◌+◌, ◌-◌, ap, arith, subst, sym, true}
use Rattle.std.proofs.lemmas.Result.{IfOk-weaker}
use Rattle.past_pages.proofs.StillReads.{still_none}
use Rattle.past_moments.specs.Seeking.{IsSoughtBy, stands, stands_at_moment}
use Rattle.past_moments.specs.declared.seeking.Sought.TheVariants.{Before}
use Rattle.past_moments.proofs.Gone.{sought_between}
use Rattle.past_moments.proofs.moments.Moments.gone_by.Goals as goal

pub returns-then-k-first-clause-still : goal.returns-then-k-first-clause-still
returns-then-k-first-clause-still g c = still_none g.D.Disk c.args.store.now c.requires

pub returns-in_err-shows_word-clause-still : goal.returns-in_err-shows_word-clause-still
returns-in_err-shows_word-clause-still g c = still_none g.D.Disk c.args.store.now c.requires

pub returns-then-branch-clause-sought : goal.returns-then-branch-clause-sought
returns-then-branch-clause-sought g c = IfOk-weaker c.gone_at.result _ _ (λ sought fact. λ are is. fact are (λ past lies.
    let word = c.args.word.now in
    let same : c.args.mark.place.k ≡ c.args.k - 1 = omega (arith, c.if-k-first.false, c.if-k-first-gt1.false) in
    let seen : stands word c.args.mark.shown.desktop ≡ true = sym c.in_ok-shows_word.ensures.is ∙ c.if-branch.true in
    ap (stands_at_moment past.start past.deeds word) (sym same) ∙ ap (stands word) (sym (is.shown past lies).is) ∙ seen))
    c.gone_at.ensures.sought

pub returns-clause-sought : goal.returns-clause-sought
returns-clause-sought g c = λ are is past lies.
    let word = c.args.word.now in
    let at = stands_at_moment past.start past.deeds word in
    let first = c.args.mark.place.k in
    let same : first + 1 ≡ c.args.k = omega (arith, c.if-k-first.false, c.if-k-first-gt1.false) in
    subst (λ n. IsSoughtBy at n (Before first)) same (sought_between at first (λ goes.
    absurd (let wrong : ⊥ = cc (goes.0, ap (stands word) (is.shown past lies).is, c.in_ok-shows_word.ensures.is, c.if-branch.false) in
    wrong)))

pub returns-clause-still : goal.returns-clause-still
returns-clause-still g c = still_none g.D.Disk c.args.store.now c.requires
