use Rattle.std.proofs.Common.{refl, ap, ◌∙◌, arith}
use Rattle.std.proofs.lemmas.List.{take_all}
use Rattle.piece_ring.specs.Place.{IsSeam}
use Rattle.piece_ring.specs.Table.{mark_of_seam, top}
use Rattle.piece_ring.proofs.Marks.{Ahead, all_at, near_at, nth_top, nth_all, nth_low}
use Rattle.piece_ring.proofs.table.Stacks.around.Goals as goal

pub returns-then-passed-len : goal.returns-then-passed-len
returns-then-passed-len c =
    let front = c.args.self.now.front.items in let p = c.requires.table.parted in let s = c.requires.start in
    let n = c.nth-low.ensures in
    let is = c.nth-high.ensures.inner c.search-passed.result refl in
    let at = nth_top front c.args.start c.nth-low.result c.search-passed.result s.first n.first n.inner in
    let next = near_at 0 front c.search-passed.result (mark_of_seam c.nth-high.result) p.front_near is in
    record {
      low = nth_all front c.args.start c.nth-low.result (IsSeam c.args.chain.now.nodes) c.search-passed.result
          p.front_seams s.seam n.first n.inner;
      high = all_at (Ahead c.args.chain.now.nodes) front c.search-passed.result (mark_of_seam c.nth-high.result)
          p.front_seams is;
      from = nth_low front c.args.start c.nth-low.result c.search-passed.result c.args.pos s.none
          c.search-passed.ensures.low n.first n.inner;
      upto = c.search-passed.ensures.high (mark_of_seam c.nth-high.result) is;
      near = omega arith;
    }

pub around_back-requires-clause-low : goal.around_back-requires-clause-low
around_back-requires-clause-low c =
    let n = c.nth-low.ensures in
    nth_all c.args.self.now.front.items c.args.start c.nth-low.result (IsSeam c.args.chain.now.nodes)
    c.search-passed.result c.requires.table.parted.front_seams c.requires.start.seam n.first n.inner

pub around_back-requires-clause-from : goal.around_back-requires-clause-from
around_back-requires-clause-from c =
    let n = c.nth-low.ensures in
    nth_low c.args.self.now.front.items c.args.start c.nth-low.result c.search-passed.result c.args.pos
    c.requires.start.none c.search-passed.ensures.low n.first n.inner

pub around_back-requires-clause-last : goal.around_back-requires-clause-last
around_back-requires-clause-last c =
    let n = c.nth-low.ensures in let front = c.args.self.now.front.items in let long = c.len.ensures in
    let more = c.if-passed-len.false in
    nth_top front c.args.start c.nth-low.result c.search-passed.result c.requires.start.first n.first n.inner
    ∙ ap (top 0) (take_all c.search-passed.result front (omega arith))
