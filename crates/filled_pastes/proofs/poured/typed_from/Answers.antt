use Rattle.std.proofs.Common.{arith, ◌∙◌, ap, length, get_or, refl}
use Rattle.std.proofs.lemmas.Slice.{between_to_end}
use Rattle.filled_pastes.specs.Poured.{column_then, turns}
use Rattle.filled_pastes.proofs.Pours.{all_poured, pours_on}
use Rattle.filled_pastes.proofs.poured.typed_from.Goals as goal

pub loop-i-preserved : goal.loop-i-preserved
loop-i-preserved c = record {
  done = pours_on c.args.w c.loop-i.at c.loop-i.i c.loop-i.begins c.args.bytes.now
      (get_or c.args.bytes.now c.loop-i.i 0) _ _ _ _ _ _ _ (omega arith) refl
      (c.turns-ends.ensures ∙ ap (turns c.args.w c.loop-i.at c.loop-i.begins)
      (between_to_end c.args.bytes.now c.loop-i.i (length c.args.bytes.now) (omega arith)))
      c.end_if.ensures.value c.push.ensures.items c.loop-i.invariant.done
      (c.column_then-at.ensures.value
      ∙ ap (λ column. column_then c.args.w column (get_or c.args.bytes.now c.loop-i.i 0)) c.column_from.ensures)
      c.parts_words-begins.ensures;
  few = omega arith;
  near = c.column_then-at.ensures.within;
}

pub returns : goal.returns
returns c = all_poured c.args.w c.loop-i.at c.loop-i.i c.loop-i.begins c.args.bytes.now _ _ _ _ (omega arith)
    c.ends_behind-ends.ensures c.end_if-2.ensures.value c.loop-i.invariant.done
