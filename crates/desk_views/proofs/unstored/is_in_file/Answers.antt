use Rattle.std.proofs.Common.{◌∙◌, refl, false}
use Rattle.std.proofs.lemmas.Result.{IfOk-weaker}
use Rattle.desk_core.specs.Kept.{kept_desktop}
use Rattle.desk_core.proofs.PositionLemmas.{offsets_kept}
use Rattle.desk_views.proofs.LosingLemmas.{file_within, in_no_file, in_the_file, tells_still}
use Rattle.desk_views.proofs.unstored.is_in_file.Goals as goal

pub is_same_text-requires-clause-offsets : goal.is_same_text-requires-clause-offsets
is_same_text-requires-clause-offsets g c = offsets_kept _ _ _ _ _ c.main_text.ensures refl c.requires.over

pub is_same_text-requires-clause-others : goal.is_same_text-requires-clause-others
is_same_text-requires-clause-others g c =
    file_within _ (kept_desktop c.args.desk.now) c.args.name.now c.in-Some.file.now c.requires.over c.in-Some.ensures

pub returns-in-None : goal.returns-in-None
returns-in-None g c = tells_still g.S.CharSource g.met.S.CharSource.ground_self _ _ _ false
    (in_no_file _ (kept_desktop c.args.desk.now) c.args.id c.args.name.now c.in-None.ensures)

pub returns-in-Some : goal.returns-in-Some
returns-in-Some g c = record {
  exact = IfOk-weaker c.is_same_text.result _ _ (λ same is h. is h
      ∙ in_the_file _ (kept_desktop c.args.desk.now) c.args.id c.args.name.now c.main_text.result.now c.in-Some.file.now
      c.main_text.ensures c.in-Some.ensures) c.is_same_text.ensures.same;
  reads = c.is_same_text.ensures.source.reads;
  cause = c.is_same_text.ensures.source.cause;
}
