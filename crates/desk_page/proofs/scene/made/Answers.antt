use Rattle.desk_page.proofs.Beginnings.{is_made}
use Rattle.desk_page.proofs.scene.made.Goals as goal

pub returns-in-Ok-begin-clause-made : goal.returns-in-Ok-begin-clause-made
returns-in-Ok-begin-clause-made c =
    is_made c.showing_law.ensures c.in-Ok-begin_new.page c.in-Ok-begin.page c.close-disk.result
    (c.in-Ok-begin_new.ensures.desktop tt) c.in-Ok-begin_new.ensures.durable c.close-disk.ensures
    (c.is_whole.ensures c.if-not-is_whole.false) c.in-Ok-begin.ensures.opened c.in-Ok-begin.ensures.disk
    c.in-Ok-begin.ensures.sitting c.in-Ok-begin.ensures.parser
