use Rattle.desk_core.specs.Kept.{kept_desktop}
use Rattle.desk_core.proofs.FilingLemmas.{is_filed}
use Rattle.desk_core.proofs.desk.Desk.put_file.Goals as goal

pub returns-clause-filed : goal.returns-clause-filed
returns-clause-filed c =
    is_filed (kept_desktop c.args.self.now) c.args.name.now c.args.text c.args.made c.args.more c.held-held.result
    c.put_within.new.files.entries c.held-held.ensures.held c.put_within.result c.put_within.ensures.answered
    c.put_within.ensures.put c.put_within.ensures.stays c.put_within.ensures.valid c.put_within.ensures.gone
