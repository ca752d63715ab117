use Rattle.std.proofs.Common.{◌-◌, refl, sym, ap, subst, ◌∙◌, arith}
use Rattle.std.proofs.lemmas.List.{take_all}
use Rattle.piece_ring.specs.declared.place.Seam.{Seam}
use Rattle.piece_ring.specs.Place.{IsSeam}
use Rattle.piece_ring.specs.Table.{IsBack, mark_of_seam, top}
use Rattle.piece_ring.proofs.Marks.{Behind, all_at, near_at, nth_top, nth_all, nth_low, none_back, back_within, turned_ahead}
use Rattle.piece_ring.proofs.table.Stacks.around_back.Goals as goal

pub turned_seam-high-requires-clause-index : goal.turned_seam-high-requires-clause-index
turned_seam-high-requires-clause-index c =
    let r = c.requires in let n = c.nth-mark.ensures in let ns = c.args.chain.now.nodes in
    let is = nth_all c.args.self.now.back.items _ c.nth-mark.result (IsBack ns) c.search-behind.result
    r.table.parted.back_seams (none_back ns c.args.end r.list r.end) n.first n.inner in
    (back_within ns c.args.end.index c.args.end.pos r.list c.nth-mark.result is).0

pub turned_seam-high-requires-clause-pos : goal.turned_seam-high-requires-clause-pos
turned_seam-high-requires-clause-pos c =
    let r = c.requires in let n = c.nth-mark.ensures in let ns = c.args.chain.now.nodes in
    let is = nth_all c.args.self.now.back.items _ c.nth-mark.result (IsBack ns) c.search-behind.result
    r.table.parted.back_seams (none_back ns c.args.end r.list r.end) n.first n.inner in
    (back_within ns c.args.end.index c.args.end.pos r.list c.nth-mark.result is).1

pub turned_seam-requires-clause-index : goal.turned_seam-requires-clause-index
turned_seam-requires-clause-index c =
    let r = c.requires in let ns = c.args.chain.now.nodes in
    let is = all_at (Behind ns) c.args.self.now.back.items c.search-behind.result (mark_of_seam c.nth-next.result)
    r.table.parted.back_seams (c.nth-next.ensures.inner c.search-behind.result refl) in
    (back_within ns c.args.end.index c.args.end.pos r.list c.nth-next.result is).0

pub turned_seam-requires-clause-pos : goal.turned_seam-requires-clause-pos
turned_seam-requires-clause-pos c =
    let r = c.requires in let ns = c.args.chain.now.nodes in
    let is = all_at (Behind ns) c.args.self.now.back.items c.search-behind.result (mark_of_seam c.nth-next.result)
    r.table.parted.back_seams (c.nth-next.ensures.inner c.search-behind.result refl) in
    (back_within ns c.args.end.index c.args.end.pos r.list c.nth-next.result is).1

pub returns-then-behind-len : goal.returns-then-behind-len
returns-then-behind-len c =
    let r = c.requires in let n = c.nth-mark.ensures in let ns = c.args.chain.now.nodes in
    let back = c.args.self.now.back.items in let k = c.search-behind.result in let p = r.table.parted in
    let at = c.nth-next.ensures.inner c.search-behind.result refl in
    let mark = nth_all back _ c.nth-mark.result (IsBack ns) c.search-behind.result p.back_seams
    (none_back ns c.args.end r.list r.end) n.first n.inner in
    let next = all_at (Behind ns) back c.search-behind.result (mark_of_seam c.nth-next.result) p.back_seams at in
    let a = back_within ns c.args.end.index c.args.end.pos r.list c.nth-mark.result mark in
    let b = back_within ns c.args.end.index c.args.end.pos r.list c.nth-next.result next in
    let a0 = a.0 in let a1 = a.1 in let b0 = b.0 in let b1 = b.1 in
    let below = nth_low back _ c.nth-mark.result c.search-behind.result (c.args.end.pos - c.args.pos - 1) refl
    c.search-behind.ensures.low n.first n.inner in
    let past = c.search-behind.ensures.high (mark_of_seam c.nth-next.result) at in
    let top_is = nth_top back _ c.nth-mark.result c.search-behind.result refl n.first n.inner in
    let near = near_at 0 back c.search-behind.result (mark_of_seam c.nth-next.result) p.back_near at in
    let low_is = c.turned_seam.ensures in let high_is = c.turned_seam-high.ensures in
    let within = r.within in
    let li = ap (λ (s : Seam). s.index) low_is in let hi = ap (λ (s : Seam). s.index) high_is in
    let lp = ap (λ (s : Seam). s.pos) low_is in let hp = ap (λ (s : Seam). s.pos) high_is in
    record {
      low = subst (IsSeam ns) (sym low_is) (turned_ahead ns c.args.end.index c.args.end.pos r.list c.nth-next.result
          next);
      high = subst (IsSeam ns) (sym high_is) (turned_ahead ns c.args.end.index c.args.end.pos r.list c.nth-mark.result
          mark);
      from = omega arith;
      upto = omega arith;
      near = omega arith;
    }

pub returns : goal.returns
returns c =
    let r = c.requires in let n = c.nth-mark.ensures in let ns = c.args.chain.now.nodes in
    let back = c.args.self.now.back.items in let p = r.table.parted in
    let mark = nth_all back _ c.nth-mark.result (IsBack ns) c.search-behind.result p.back_seams
    (none_back ns c.args.end r.list r.end) n.first n.inner in
    let a = back_within ns c.args.end.index c.args.end.pos r.list c.nth-mark.result mark in
    let a0 = a.0 in let a1 = a.1 in
    let below = nth_low back _ c.nth-mark.result c.search-behind.result (c.args.end.pos - c.args.pos - 1) refl
    c.search-behind.ensures.low n.first n.inner in
    let long = c.len.ensures in let more = c.if-behind-len.false in
    let top_is = nth_top back _ c.nth-mark.result c.search-behind.result refl n.first n.inner
    ∙ ap (top 0) (take_all c.search-behind.result back (omega arith)) in
    let close = r.table.close in let last = r.last in let counted = r.list.counted in let within = r.within in
    let high_is = c.turned_seam-high.ensures in
    let hi = ap (λ (s : Seam). s.index) high_is in let hp = ap (λ (s : Seam). s.pos) high_is in
    record {
      low = r.low;
      high = subst (IsSeam ns) (sym high_is) (turned_ahead ns c.args.end.index c.args.end.pos r.list c.nth-mark.result
          mark);
      from = r.from;
      upto = omega arith;
      near = omega arith;
    }
