use Rattle.std.proofs.Common.{rules, ◌≡◌, ◌∙◌, ◌<◌, drop, false, length, sym, true}
use Rattle.past_moments.specs.Seeking.{begins_with}
use Rattle.past_moments.proofs.Gone.{row_has, row_more}
use Rattle.past_moments.proofs.seeking.has_word.Goals as goal

pub returns-then-begins_with : goal.returns-then-begins_with
returns-then-begins_with c =
    let low : c.loop-x.x < length c.args.row.now = search rules in
    let is : begins_with (drop c.loop-x.x c.args.row.now) c.args.word.now ≡ true = search rules in
    sym (c.loop-x.invariant ∙ row_has c.args.row.now c.args.word.now c.loop-x.x low is)

pub loop-x-preserved : goal.loop-x-preserved
loop-x-preserved c =
    let low : c.loop-x.x < length c.args.row.now = search rules in
    let is : begins_with (drop c.loop-x.x c.args.row.now) c.args.word.now ≡ false = search rules in
    c.loop-x.invariant ∙ row_more c.args.row.now c.args.word.now c.loop-x.x low is
