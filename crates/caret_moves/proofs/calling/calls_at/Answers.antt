use Rattle.std.specs.Prelude.{Some, None}
use Rattle.desk_core.specs.Kept.{kept_desktop}
use Rattle.caret_moves.proofs.CallReads.{calls_there}
use Rattle.caret_moves.proofs.ReadsThen.{tells_so}
use Rattle.caret_moves.proofs.calling.calls_at.Goals as goal

pub returns-in-None : goal.returns-in-None
returns-in-None g c = tells_so g.S.CharSource _ _ (kept_desktop c.args.desk.now) _ _ c.calls_in_text.result
    (calls_there (g.S.CharSource.characters c.args.source.now) (kept_desktop c.args.desk.now) c.args.command c.args.place None
    c.args.cell c.region_under-region.result c.in-None.is c.region_under-region.ensures.region) c.calls_in_text.ensures

pub returns-in-Some : goal.returns-in-Some
returns-in-Some g c = tells_so g.S.CharSource _ _ (kept_desktop c.args.desk.now) _ _ c.calls_in_menu.result
    (calls_there (g.S.CharSource.characters c.args.source.now) (kept_desktop c.args.desk.now) c.args.command c.args.place
    (Some c.in-Some.id)
    c.args.cell c.region_under-region.result c.in-Some.is c.region_under-region.ensures.region)
    c.calls_in_menu.ensures
