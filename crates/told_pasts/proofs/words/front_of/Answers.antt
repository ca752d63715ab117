use Rattle.std.proofs.Common.{arith, sym}
use Rattle.std.proofs.lemmas.List.{take_all}
use Rattle.told_pasts.specs.declared.words.TheConstants.{MOST_TOLD}
use Rattle.told_pasts.proofs.words.front_of.Goals as goal

pub returns-else-bytes-gt-MOST_TOLD : goal.returns-else-bytes-gt-MOST_TOLD
returns-else-bytes-gt-MOST_TOLD c =
    sym (take_all MOST_TOLD c.args.bytes.now (omega (arith, c.if-bytes-gt-MOST_TOLD.false)))
