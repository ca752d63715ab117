use Rattle.std.proofs.Common.{◌≡◌, ◌+◌, ◌++◌, ◌∷◌, [], ◌∙◌, ap, arith, sym}
use Rattle.std.proofs.lemmas.List.{take_all}
use Rattle.past_pages.proofs.PageReads.{next_there, read_on}
use Rattle.past_pages.proofs.pages.events_in.Goals as goal

pub loop-k-init : goal.loop-k-init
loop-k-init c = record {
  within = omega arith;
  read = λ events rest valid long is. (c.in_ok-events.ensures.items, is);
}

pub returns-in_default : goal.returns-in_default
returns-in_default c = λ events rest valid long is.
    let next = next_there _ c.loop-k.k events rest valid (omega (arith, c.loop-k-test.true, long))
    (c.split_at.ensures.back ∙ (c.loop-k.invariant.read events rest valid long is).1) in
    (let wrong : ⊥ = cc (c.decode.ensures.only next.event next.begins, c.in_default.is) in wrong)

pub loop-k-preserved : goal.loop-k-preserved
loop-k-preserved c =
    let i = c.loop-k.invariant in
    record {
      within = omega (arith, c.in-Some.ensures.within, c.split_at.ensures.back_len, i.within);
      read = λ events rest valid long is.
          let was = i.read events rest valid long is in
          let on = read_on c.args.bytes.now _ c.loop-k.place c.loop-k.k events rest valid
          (omega (arith, c.loop-k-test.true, long)) c.split_at.ensures.back was.1 c.decode.ensures.only c.in-Some.is in (
            c.in_ok-push.ensures.items ∙ ap (λ l. l ++ c.in-Some.event ∷ []) was.0 ∙ on.0,
            on.1,
          );
    }

pub returns : goal.returns
returns c = λ events rest valid long is.
    (c.loop-k.invariant.read events rest valid long is).0
    ∙ take_all c.loop-k.k events (omega (arith, c.loop-k-test.false, c.loop-k.auto.k-end, long))
