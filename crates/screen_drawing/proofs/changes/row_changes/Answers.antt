use Rattle.std.proofs.Common.{arith, ◌≤◌, length, ◌∙◌, sym, ap, ◌+◌, ◌*◌, ◌++◌, List, None}
use Rattle.arrayvec.specs.ArrayVec.{array_vec_len}
use Rattle.std.specs.List.{list_all}
use Rattle.std.proofs.lemmas.Slice.{between_to_end}
use Rattle.screen_drawing.specs.declared.face.Face.{Face}
use Rattle.screen_drawing.specs.Changes.{is_blank_face}
use Rattle.screen_drawing.proofs.Steps.{left, none_done, all_done, kept_step, cleared_step, put_step}
use Rattle.screen_drawing.proofs.changes.row_changes.Goals as goal

pub loop-x-init : goal.loop-x-init
loop-x-init c = record {
  done = ap (λ l. l ++ left None c.args.row 0 c.args.olds.now c.args.news.now) c.new-operations.ensures
      ∙ none_done c.args.row c.args.olds.now c.args.news.now;
  few = omega (arith, ap length c.new-operations.ensures);
}

pub loop-x-preserved-then-is_same : goal.loop-x-preserved-then-is_same
loop-x-preserved-then-is_same c = record {
  done = kept_step _ _ c.loop-x.x c.from-at.result c.args.olds.now c.args.news.now _ _ _ c.loop-x.invariant.done
      (omega arith) (omega arith) (omega arith) (sym c.is_same.ensures ∙ c.if-is_same.true);
  few = omega arith;
}

pub loop-x-preserved : goal.loop-x-preserved
loop-x-preserved c =
    let room : array_vec_len c.push-in-loop-x.new.self ≤ 3 * (c.loop-x.x + 1) = omega arith in
    record {
      done = put_step _ _ c.loop-x.x c.from-at.result c.args.olds.now c.args.news.now _ _ _ c.loop-x.invariant.done
          (omega arith) (omega arith) (omega arith) (sym c.is_same.ensures ∙ c.if-is_same.false) _ _
          (ap (λ (l : List Face). list_all is_blank_face l)
          (sym (between_to_end c.args.news.now c.from-at.result (length c.args.news.now) (omega arith)))
          ∙ sym c.is_blank.ensures ∙ c.if-is_blank.false)
          c.reach-in-loop-x.ensures.value c.push-in-loop-x.ensures.items;
      few = room;
    }

pub returns-then-is_blank : goal.returns-then-is_blank
returns-then-is_blank c =
    cleared_step _ _ c.loop-x.x c.from-at.result c.args.olds.now c.args.news.now _ _ _ c.loop-x.invariant.done
    (omega arith) (omega arith) (omega arith) (sym c.is_same.ensures ∙ c.if-is_same.false) _ _ _
    (ap (λ (l : List Face). list_all is_blank_face l)
    (sym (between_to_end c.args.news.now c.from-at.result (length c.args.news.now) (omega arith)))
    ∙ sym c.is_blank.ensures ∙ c.if-is_blank.true)
    c.plain.ensures c.reach.ensures.value c.push.ensures.items

pub returns : goal.returns
returns c =
    all_done _ _ c.loop-x.x c.args.olds.now c.args.news.now _ _ c.loop-x.invariant.done (omega arith)
