use Rattle.std.proofs.lemmas.Result.{IfOk-weaker}
use Rattle.twin_files.proofs.Paired.{of_first, of_second, would_tell}
use Rattle.twin_files.proofs.pairing.pair_both.Goals as goal

pub returns-in-First-clause-chosen : goal.returns-in-First-clause-chosen
returns-in-First-clause-chosen g c = IfOk-weaker c.pair_from.result _ _
    (of_first g.D.Disk c.args.sectors c.args.first c.flag_at.new.leg c.args.second c.flag_at-2.new.leg c.in_ok-mine.mine.alone
    c.in_ok-other.other.alone c.flag_at.ensures.kept c.flag_at-2.ensures.kept c.in_ok-mine.ensures.flag
    c.in_ok-other.ensures.flag c.in_ok-chosen.field-0 c.in_ok-chosen.ensures.choice c.in-First.is) c.pair_from.ensures.chosen

pub returns-in-Second-clause-chosen : goal.returns-in-Second-clause-chosen
returns-in-Second-clause-chosen g c = IfOk-weaker c.pair_from-in-Second.result _ _
    (of_second g.D.Disk c.args.sectors c.args.first c.flag_at.new.leg c.args.second c.flag_at-2.new.leg c.in_ok-mine.mine.alone
    c.in_ok-other.other.alone c.flag_at.ensures.kept c.flag_at-2.ensures.kept c.in_ok-mine.ensures.flag
    c.in_ok-other.ensures.flag c.in_ok-chosen.field-0 c.in_ok-chosen.ensures.choice c.in-Second.is)
    c.pair_from-in-Second.ensures.chosen

pub returns-in-First-clause-none_older : goal.returns-in-First-clause-none_older
returns-in-First-clause-none_older g c = IfOk-weaker c.pair_from.result _ _ (λ pair _ differ h h' older.
    c.in_ok-chosen.ensures.none_older differ (would_tell g.D.Disk c.args.sectors c.args.first c.flag_at.new.leg c.args.second
    c.flag_at-2.new.leg c.in_ok-mine.mine.alone c.in_ok-other.other.alone c.flag_at.ensures.kept c.flag_at-2.ensures.kept
    c.in_ok-mine.ensures.flag c.in_ok-other.ensures.flag c.in_ok-mine.mine.closed c.in_ok-other.other.closed
    c.in_ok-mine.ensures.closed c.in_ok-other.ensures.closed h h' older)) c.pair_from.ensures.chosen
