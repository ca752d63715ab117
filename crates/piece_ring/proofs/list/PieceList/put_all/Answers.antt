use Rattle.piece_ring.proofs.Marks.{measured, start_is}
use Rattle.piece_ring.proofs.Seams.{small_count}
use Rattle.piece_ring.proofs.Windows.{all_put}
use Rattle.piece_ring.proofs.list.PieceList.put_all.Goals as goal

pub fill-requires-clause-list : goal.fill-requires-clause-list
fill-requires-clause-list c =
    let l = c.args.self.now in let all = all_put l.trailer l.sound c.requires.none c.args.other.sound c.join.ensures in
    measured all.list (small_count all.list)

pub fill-requires-clause-parted : goal.fill-requires-clause-parted
fill-requires-clause-parted c =
    let l = c.args.self.now in let all = all_put l.trailer l.sound c.requires.none c.args.other.sound c.join.ensures in
    all.table l.table l.indexed

pub fill-requires-clause-start : goal.fill-requires-clause-start
fill-requires-clause-start c =
    let l = c.args.self.now in let all = all_put l.trailer l.sound c.requires.none c.args.other.sound c.join.ensures in
    start_is l.trailer all.list

pub invariant_of-self : goal.invariant_of-self
invariant_of-self c =
    let l = c.args.self.now in let all = all_put l.trailer l.sound c.requires.none c.args.other.sound c.join.ensures in
    record {
      sound = all.list;
      keeps = all.seam l.finger l.keeps;
      indexed = c.fill.ensures.table;
      room = c.fill.ensures.room c.args.other.count c.requires.room;
    }

pub returns-clause-text : goal.returns-clause-text
returns-clause-text c =
    let l = c.args.self.now in let all = all_put l.trailer l.sound c.requires.none c.args.other.sound c.join.ensures in
    all.text
