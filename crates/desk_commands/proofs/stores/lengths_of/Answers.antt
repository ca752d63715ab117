use Rattle.std.proofs.Common.{[], arith}
use Rattle.desktop_definitions.proofs.StoreLaws.{lengths_gone}
use Rattle.desktop_definitions.specs.DeskWords.{kept_size}
use Rattle.desk_commands.proofs.StoredLemmas.{sum_from, sum_end}
use Rattle.desk_commands.proofs.stores.lengths_of.Goals as goal

pub overflow_add-sum : goal.overflow_add-sum
overflow_add-sum c =
    let here = sum_from (kept_size c.args.files.now.entries) c.args.names.now c.loop-name.name-index c.name-item.result
    c.loop-name-test.true c.name-item.is in
    let all = lengths_gone c.args.files.now.entries c.args.names.now c.requires.distinct [] in
    omega (arith, here, all, c.size_of-sum.ensures, c.loop-name.invariant, c.requires.files)

pub loop-name-preserved : goal.loop-name-preserved
loop-name-preserved c =
    let here = sum_from (kept_size c.args.files.now.entries) c.args.names.now c.loop-name.name-index c.name-item.result
    c.loop-name-test.true c.name-item.is in
    omega (arith, here, c.size_of-sum.ensures, c.loop-name.invariant)

pub returns-clause-sum : goal.returns-clause-sum
returns-clause-sum c = λ characters.
    let none = sum_end (kept_size c.args.files.now.entries) c.args.names.now c.loop-name.name-index
    c.loop-name-test.false in
    let all = lengths_gone c.args.files.now.entries c.args.names.now c.requires.distinct characters in
    omega (arith, none, all, c.loop-name.invariant)

pub returns-clause-few : goal.returns-clause-few
returns-clause-few c =
    let none = sum_end (kept_size c.args.files.now.entries) c.args.names.now c.loop-name.name-index
    c.loop-name-test.false in
    let all = lengths_gone c.args.files.now.entries c.args.names.now c.requires.distinct [] in
    omega (arith, none, all, c.loop-name.invariant, c.requires.files)
