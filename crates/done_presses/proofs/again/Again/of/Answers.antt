use Rattle.std.proofs.Common.{◌≡◌, ◌∙◌, ap, arith, length}
use Rattle.done_presses.specs.Again.{AgainView, Unmade, again_of, many_back, no_again, unmade}
use Rattle.done_presses.specs.Past.{no_past, past_of}
use Rattle.done_presses.proofs.again.Again.of.Goals as goal

pub returns : goal.returns
unfolding again_of
returns c =
    let end : c.loop-count._count ≡ length c.args.events.items = omega
    (arith, c.loop-count-test.false, c.loop-count.auto._count-end, c.len-count-end.ensures, c.args.events.ok) in
    ap (λ (a : AgainView). record a { place = c.args.place })
    (c.again-2.view_is ∙ ap (λ (u : Unmade). u.again)
    (c.loop-count.invariant
    ∙ ap (λ n. many_back n (unmade c.args.events.items (past_of c.args.events.items no_past) no_again)) end))
