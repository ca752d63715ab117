use Rattle.std.proofs.Common.{◌≡◌, ◌∙◌, arith, false, inl, inr, refl, rules}
use Rattle.std.proofs.lemmas.Result.{on_ok_weaker}
use Rattle.all_moments.proofs.AtHand.{begins_before, begins_from, found_then, part_moved}
use Rattle.all_moments.proofs.part.FormerPart.look.Goals as goal

-- ---- a deed led to it

pub returns-then-k-self-2-clause-words : goal.returns-then-k-self-2-clause-words
returns-then-k-self-2-clause-words c =
    let usable : c.args.self.now.store.must_reopen ≡ false = search rules in
    found_then c.look_led.result (λ look deed are. inl (
      begins_before c.look_led.ensures.still usable
          (c.shows_what_crashes_leave.ensures.quiet usable) c.args.self.now.moments c.args.k are c.if-k-self-2.true,
      deed are,
    ))
    c.look_led.ensures.words

pub returns-then-k-self-2-clause-stays : goal.returns-then-k-self-2-clause-stays
returns-then-k-self-2-clause-stays c =
    let usable : c.args.self.now.store.must_reopen ≡ false = search rules in
    on_ok_weaker c.look_led.result (λ are. part_moved c.args.self.now _ c.look_led.ensures.still usable
    (c.shows_what_crashes_leave.ensures.quiet usable) refl refl are) c.look_led.ensures.are

-- ---- it is the oldest one

pub returns-clause-words : goal.returns-clause-words
returns-clause-words c =
    let usable : c.args.self.now.store.must_reopen ≡ false = search rules in
    found_then c.look_plain.result (λ look words are. inr (
      begins_from c.look_plain.ensures.still usable
          (c.shows_what_crashes_leave.ensures.quiet usable) c.args.self.now.moments c.args.k are
          (omega (arith, c.if-k-self-2.false)),
      words ∙ c.words.ensures,
    )) c.look_plain.ensures.words

pub returns-clause-stays : goal.returns-clause-stays
returns-clause-stays c =
    let usable : c.args.self.now.store.must_reopen ≡ false = search rules in
    on_ok_weaker c.look_plain.result (λ are. part_moved c.args.self.now _ c.look_plain.ensures.still usable
    (c.shows_what_crashes_leave.ensures.quiet usable) refl refl are) c.look_plain.ensures.are
