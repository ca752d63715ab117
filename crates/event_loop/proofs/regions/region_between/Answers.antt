use Rattle.std.proofs.Common.{◌∙◌, sym}
use Rattle.event_loop.proofs.GestureLemmas.{between_none, between_some, cells_inside}
use Rattle.event_loop.proofs.regions.region_between.Goals as goal

pub returns-then-not-are_on_display : goal.returns-then-not-are_on_display
returns-then-not-are_on_display c = record {
  found = between_none _ _ (sym c.are_on_display.ensures ∙ c.if-not-are_on_display.true);
  stands = tt;
}

pub region_under-requires-clause-column : goal.region_under-requires-clause-column
region_under-requires-clause-column c =
    (cells_inside c.args.from c.args.to c.are_on_display.ensures c.if-not-are_on_display.false).0.0

pub region_under-requires-clause-row : goal.region_under-requires-clause-row
region_under-requires-clause-row c =
    (cells_inside c.args.from c.args.to c.are_on_display.ensures c.if-not-are_on_display.false).0.1

pub returns : goal.returns
returns c = record {
  found = between_some _ _ _ (sym c.are_on_display.ensures ∙ c.if-not-are_on_display.false) c.region_under.ensures.region;
  stands = c.region_under.ensures.stands;
}
