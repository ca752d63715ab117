use Rattle.std.proofs.Common.{◌∙◌, ap, sym, false}
use Rattle.std.specs.Prelude.{ℕ, Option}
use Rattle.desk_core.specs.Kept.{kept_desktop}
use Rattle.desk_views.specs.Unstored.{was_closed}
use Rattle.desk_views.proofs.LosingLemmas.{tells_still}
use Rattle.desk_views.proofs.RivalLemmas.{gone_one, named_so, menu_within}
use Rattle.desk_views.proofs.rivals.is_rival.Goals as goal

pub returns-then-was_closed : goal.returns-then-was_closed
returns-then-was_closed g c = tells_still g.S.CharSource g.met.S.CharSource.ground_self _ _ _ false
    (gone_one _ (kept_desktop c.args.desk.now) c.args.number c.args.name.now c.args.entry
    (sym (c.was_closed.ensures ∙ ap (λ (o : Option ℕ). was_closed o c.args.entry.0) c.closed_id.ensures)
    ∙ c.if-was_closed.true))

pub document_name-requires : goal.document_name-requires
document_name-requires g c = menu_within _ (kept_desktop c.args.desk.now) c.args.number c.args.name.now c.args.entry
    c.requires.over c.text_there.result.now c.text_there.ensures

pub returns : goal.returns
returns g c = record {
  exact = λ h. c.is_named.ensures
      ∙ named_so (g.S.CharSource.characters c.args.source.now) (kept_desktop c.args.desk.now) c.args.number c.args.name.now
      c.args.entry c.text_there.result.now c.in_ok-named.named c.if-entry-number.false
      (sym (c.was_closed.ensures ∙ ap (λ (o : Option ℕ). was_closed o c.args.entry.0) c.closed_id.ensures)
      ∙ c.if-was_closed.false)
      c.text_there.ensures (c.in_ok-named.ensures.name h);
  reads = c.in_ok-named.ensures.source.reads;
  cause = c.in_ok-named.ensures.source.cause;
}
