use Rattle.desk_core.specs.Kept.{kept_desktop}
use Rattle.event_loop.proofs.Stepping.{documents_brought}
use Rattle.event_loop.proofs.desktop.Desktop.bring.Goals as goal

pub returns-clause-brought : goal.returns-clause-brought
returns-clause-brought g c =
    documents_brought g.S.CharSource c.args.documents.now c.bring.result
    (kept_desktop c.self.inside.desk) _ (kept_desktop c.bring.new.desk) c.args.source.now c.bring.new.source
    c.self.view_is c.bring.ensures.does.answered c.bring.ensures.does.unread
