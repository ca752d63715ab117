use Rattle.std.proofs.Common.{◌∙◌, sym}
use Rattle.desk_sitting.proofs.Marks.{looks_none, says_mark, unmarked}
use Rattle.desk_sitting.proofs.unstored.mark.Goals as goal

pub returns-then-not-rests-clause-marked : goal.returns-then-not-rests-clause-marked
returns-then-not-rests-clause-marked g c = λ honest. unmarked c.args.store.now.desktop c.args.sitting.now
    (sym c.rests.ensures ∙ c.if-not-rests.true)

pub returns-then-not-rests-clause-looks : goal.returns-then-not-rests-clause-looks
returns-then-not-rests-clause-looks g c = looks_none g.D.Disk tt c.args.store.now c.requires

pub returns-clause-marked : goal.returns-clause-marked
returns-clause-marked g c = λ honest. says_mark c.args.store.now.desktop c.args.sitting.now c.rest_saying-sitting.result c.in_ok-found.found
    (sym c.rests.ensures ∙ c.if-not-rests.false) c.rest_saying-sitting.ensures (c.in_ok-found.ensures.told honest)
