use Rattle.std.proofs.Common.{◌≡◌, List, ◌∷◌, [], ◌++◌, refl, sym, ◌∙◌, ap, subst, arith, rules, length, get_or, ◌<◌}
use Rattle.store_runs.specs.Deeds.{Deed, IsRun, called}
use Rattle.store_runs.proofs.Chaining.{answered, deeds_grow, none_done, one_deed_more}
use Rattle.store_runs.proofs.run.serve_all.Goals as goal

pub loop-call-init : goal.loop-call-init
loop-call-init g c = record {
  count = search rules;
  room = search rules;
  run =
      let store = c.args.store.now in
      let undone : answered c.args.calls.now c.in_ok-answers.answers.items
      ≡ [] = ap (answered c.args.calls.now) c.in_ok-answers.ensures.items ∙ none_done c.args.calls.now in
      subst (λ (deeds : List Deed). IsRun g.D.Disk deeds store store) (sym undone) refl;
}

pub loop-call-preserved : goal.loop-call-preserved
loop-call-preserved g c =
    let i = c.loop-call.invariant in
    let calls = c.args.calls.now in
    let answers = c.loop-call.answers.items in
    let answer = c.serve-answer.result in
    let call = c.call-item.result in
    record {
      count = search rules;
      room = search rules;
      run =
          let deed : Deed = called call answer in
          let goes = one_deed_more g.D.Disk (answered calls answers) deed c.args.store.now c.loop-call.store
          c.serve-answer.new.store i.run c.serve-answer.ensures in
          let long : length answers ≡ c.loop-call.call-index = search rules in
          let room : length answers < length calls = omega (arith, long, c.loop-call-test.true) in
          let here : get_or calls (length answers) call ≡ call = ap (λ k. get_or calls k call) long
          ∙ sym c.call-item.is in
          let grown : answered calls c.push_reserved.new.self.items ≡ answered calls answers ++ deed ∷ [] =
          ap (answered calls) c.push_reserved.ensures.items ∙ deeds_grow calls answers answer call room
          ∙ ap (λ x. answered calls answers ++ called x answer ∷ []) here in
          subst (λ (ds : List Deed). IsRun g.D.Disk ds c.args.store.now c.serve-answer.new.store) (sym grown) goes;
    }

pub returns-clause-any_moment : goal.returns-clause-any_moment
returns-clause-any_moment g c = c.runs_survive.ensures _ _ _ c.loop-call.invariant.run c.requires
    (c.shows_what_crashes_leave.ensures.durable c.requires)
