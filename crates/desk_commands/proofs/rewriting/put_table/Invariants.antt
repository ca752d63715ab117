use Rattle.desk_commands.proofs.RewritingLemmas.{ArePut}
use Rattle.desk_commands.proofs.rewriting.put_table.Given as goal

-- the texts so far were put, those to come stand behind them, and nothing failed
abbrev pub invariant-loop-key : goal.invariant-loop-key
invariant-loop-key g l =
    ArePut g.S.CharSource l.fn.table.entries l.key-iterator l.new.entries l.fn.made.items l.made.items l.fn.source
    l.source
