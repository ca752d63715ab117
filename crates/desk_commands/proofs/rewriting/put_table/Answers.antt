use Rattle.std.proofs.Common.{rules}
use Rattle.desk_commands.proofs.RewritingLemmas.{one_ready, put_further}
use Rattle.desk_commands.proofs.rewriting.put_table.Goals as goal

pub put_text-requires : goal.put_text-requires
put_text-requires g c = one_ready c.in-Some.ensures.steps c.loop-key.invariant c.requires.room

pub loop-key-preserved : goal.loop-key-preserved
loop-key-preserved g c =
    put_further c.in-Some.ensures.steps g.S.CharSource g.met.S.CharSource.ground_through c.in_ok-moved.moved
    g.met.K.Ord.total c.requires.rising c.loop-key.invariant c.in_ok-moved.ensures
    (c.requires.copies _ _ c.in_ok-clone.ensures.cases) c.in_ok-insert.ensures.entries

-- the same where an old value is dropped
pub loop-key-preserved-in_ok-insert : goal.loop-key-preserved-in_ok-insert
loop-key-preserved-in_ok-insert g c =
    put_further c.in-Some.ensures.steps g.S.CharSource g.met.S.CharSource.ground_through c.in_ok-moved.moved
    g.met.K.Ord.total c.requires.rising c.loop-key.invariant c.in_ok-moved.ensures
    (c.requires.copies _ _ c.in_ok-clone.ensures.cases) c.in_ok-insert.ensures.entries

pub returns-in_err-moved : goal.returns-in_err-moved
returns-in_err-moved g c = search (rules, g.met.S.CharSource.ground_self, g.met.S.CharSource.ground_through)

pub returns-in_err-clone : goal.returns-in_err-clone
returns-in_err-clone g c = search (rules, g.met.S.CharSource.ground_self, g.met.S.CharSource.ground_through)

pub returns-in_err-insert : goal.returns-in_err-insert
returns-in_err-insert g c = search (rules, g.met.S.CharSource.ground_self, g.met.S.CharSource.ground_through)
