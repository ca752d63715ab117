use Rattle.std.proofs.Common.{◌≡◌, ◌+◌, ◌-◌, ◌*◌, ◌/◌, ◌≤◌, [], ◌∷◌, ◌++◌, length, refl, sym, ap, subst, ◌∙◌, arith}
use Rattle.piece_ring.specs.declared.table.Mark.{Mark}
use Rattle.piece_ring.specs.Place.{IsSeam}
use Rattle.piece_ring.specs.Table.{IsParted, mark_of_seam, top}
use Rattle.std.proofs.lemmas.List.{take_all}
use Rattle.piece_ring.proofs.Marks.{nth_all, nth_top, pushed, top-push, length-push}
use Rattle.piece_ring.proofs.table.Stacks.fill_gap.Goals as goal

pub loop-mark-init : goal.loop-mark-init
loop-mark-init c =
    let r = c.requires in let front = c.args.self.now.front.items in let n = c.nth-mark.ensures in
    let long = c.len.ensures in let back_top = c.top.ensures in let counted = r.list.counted in
    let meets = r.parted.meets in
    let last = nth_top front c.args.start c.nth-mark.result c.len.result r.start.first n.first n.inner
    ∙ ap (top 0) (take_all c.len.result front (omega arith)) in
    let gap : c.args.count - c.top.result - c.nth-mark.result.index ≡ c.args.count - top 0 front
    - top 0 c.args.self.now.back.items = omega arith in
    record {
      parted = r.parted;
      here = nth_all front c.args.start c.nth-mark.result (IsSeam c.args.chain.now.nodes) c.len.result
          r.parted.front_seams r.start.seam n.first n.inner;
      last = last;
      end = omega arith;
      order = omega arith;
      least = subst (λ g. 16 * (length front + length c.args.self.now.back.items + g / 64) ≤ c.args.count)
          (sym gap) r.least;
      front = refl;
      back = refl;
      room = refl;
    }

pub loop-mark-preserved : goal.loop-mark-preserved
loop-mark-preserved c =
    let l = c.loop-mark in let v = l.invariant in let ns = c.args.chain.now.nodes in
    let front = l.self.front.items in let back = l.self.back.items in let s = c.walk-mark.result in
    let m = mark_of_seam s in let far = c.walk-mark.ensures.index in
    let last = v.last in let end = v.end in let order = v.order in let least = v.least in
    let counted = c.requires.list.counted in let few = c.requires.list.few in let more = c.loop-mark-test.true in
    let items = c.push_reserved.ensures.items ∙ ap (λ (x : Mark). front ++ x ∷ []) c.marked.ensures in
    let long = ap length items ∙ length-push front m in
    let gap : c.args.count - c.top.result - s.index ≡ c.args.count - c.top.result - l.mark.index - 64 = omega arith in
    let less = ap (λ g. g / 64) gap in
    record {
      parted = subst (λ f. IsParted ns f back) (sym items) (pushed ns front back m v.parted c.walk-mark.ensures.seam
          (omega arith) (omega arith) (omega arith) (omega arith));
      here = c.walk-mark.ensures.seam;
      last = sym (ap (top 0) items ∙ top-push 0 front m);
      end = v.end;
      order = omega arith;
      least = omega arith;
      front = c.push_reserved.ensures.capacity ∙ v.front;
      back = v.back;
      room = v.room;
    }
