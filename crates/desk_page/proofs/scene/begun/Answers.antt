use Rattle.std.proofs.Common.{refl, sym, ◌∙◌}
use Rattle.std.proofs.lemmas.Bool.{true≢false, false≢true}
use Rattle.std.proofs.lemmas.Result.{IfOk-weaker}
use Rattle.page_disks.specs.contracts.disk.RecordedDiskDisk.TheImpl.{ghosts}
use Rattle.desk_page.proofs.Begun.{not_begun_so}
use Rattle.desk_page.proofs.scene.begun.Goals as goal

pub returns-then-past-clause-begun : goal.returns-then-past-clause-begun
returns-then-past-clause-begun c = IfOk-weaker c.keeping.result _ _ (λ page keeps. record {
  first = c.in_ok-page.page;
  is = c.in_ok-page.ensures.is;
  keeps = λ _. keeps;
  stays = λ none. absurd (true≢false (sym c.if-past.true ∙ none));
}) c.keeping.ensures.kept

pub returns-then-past-clause-refused : goal.returns-then-past-clause-refused
returns-then-past-clause-refused c = not_begun_so ghosts c.args.loaded c.keeping.result c.keeping.ensures.refused

pub returns-else-past-clause-begun : goal.returns-else-past-clause-begun
returns-else-past-clause-begun c = record {
  first = c.in_ok-page.page;
  is = c.in_ok-page.ensures.is;
  keeps = λ some. absurd (false≢true (sym c.if-past.false ∙ some));
  stays = λ _. refl;
}
