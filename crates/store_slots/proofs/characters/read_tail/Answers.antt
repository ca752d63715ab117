use Rattle.std.proofs.Common.{rules, ◌∙◌, arith, sym}
use Rattle.std.proofs.lemmas.List.{length-set}
use Rattle.std.proofs.lemmas.Result.{err_from_is_err_and}
use Rattle.store_slots.proofs.Starting.{byte_taken, cut_short, taken_to}
use Rattle.store_slots.proofs.characters.read_tail.Goals as goal

pub loop-i-preserved : goal.loop-i-preserved
loop-i-preserved g c =
    let i = c.loop-i.invariant in
    let s = g.S.ByteSource in
    let first = c.next_byte.ensures.only in
    record {
      only = record {
        still = λ honest. first.still (i.only.still honest);
        stands = g.met.S.ByteSource.ground_through c.args.source.now c.loop-i.source c.next_byte.new.source i.only.stands
            first.stands;
      };
      calm = search rules;
      wide = length-set c.loop-i.tail c.loop-i.i c.in_ok-byte.byte ∙ i.wide;
      taken = λ honest.
          byte_taken (s.remaining c.args.source.now) c.loop-i.tail (s.remaining c.loop-i.source)
          (s.remaining c.next_byte.new.source) c.loop-i.i c.in_ok-byte.byte (i.taken honest)
          (c.in_ok-byte.ensures.next (i.only.still honest)) (omega (arith, c.loop-i-test.true, c.requires, i.wide));
    }

pub returns-in_err-byte-clause-damaged : goal.returns-in_err-byte-clause-damaged
returns-in_err-byte-clause-damaged g c =
    let p = err_from_is_err_and c.from_residual.result c.from_residual.ensures.1 in
    let i = c.loop-i.invariant in
    let s = g.S.ByteSource in
    λ is honest.
    cut_short (s.remaining c.args.source.now) c.loop-i.tail (s.remaining c.loop-i.source) c.loop-i.i c.args.count
    (i.taken honest) (c.in_err-byte.ensures.damaged (cc (p.1, p.2, is)) (i.only.still honest))
    (omega (arith, c.loop-i-test.true)) (omega (arith, c.requires, i.wide))

pub returns-clause-tail : goal.returns-clause-tail
returns-clause-tail g c = λ honest.
    let i = c.loop-i.invariant in
    sym (taken_to _ _ _ c.loop-i.i c.args.count (i.taken honest) c.loop-i-test.false c.loop-i.auto.i-end c.requires
    i.wide).first

pub returns-clause-rest : goal.returns-clause-rest
returns-clause-rest g c = λ honest.
    let i = c.loop-i.invariant in
    (taken_to _ _ _ c.loop-i.i c.args.count (i.taken honest) c.loop-i-test.false c.loop-i.auto.i-end c.requires
    i.wide).later

pub returns-clause-enough : goal.returns-clause-enough
returns-clause-enough g c = λ honest.
    let i = c.loop-i.invariant in
    (taken_to _ _ _ c.loop-i.i c.args.count (i.taken honest) c.loop-i-test.false c.loop-i.auto.i-end c.requires
    i.wide).enough
