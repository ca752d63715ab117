use Rattle.std.proofs.Common.{ap, refl}
use Rattle.std.proofs.lemmas.Result.{IfErr-weaker, IfOk-weaker}
use Rattle.desk_journal.specs.Session.{Session}
use Rattle.past_looks.specs.Looking.{desktop_before}
use Rattle.desk_page.proofs.Looked.{not_found}
use Rattle.desk_page.proofs.looks.Desk.selected.Goals as goal

-- ---- the page as it is

pub returns-in-Present-clause-given : goal.returns-in-Present-clause-given
returns-in-Present-clause-given c =
    rw c.in-Present.is (IfOk-weaker c.selected.result _ _ (λ text told. told tt) c.selected.ensures.given)

pub returns-in-Present-clause-looked : goal.returns-in-Present-clause-looked
returns-in-Present-clause-looked c = rw c.in-Present.is (c.selected.ensures.looked, refl, refl)

pub returns-in-Present-clause-errors : goal.returns-in-Present-clause-errors
returns-in-Present-clause-errors c = rw c.in-Present.is
    (IfErr-weaker c.selected.result _ _ (λ error why. not_found error _ why.0 why.1) c.selected.ensures.errors)

-- ---- a moment of its past

pub returns-in-Past-clause-given : goal.returns-in-Past-clause-given
returns-in-Past-clause-given c =
    rw c.in-Past.is (IfOk-weaker c.selected-in-Past.result _ _ (λ text told. told tt) c.selected-in-Past.ensures.given)

pub returns-in-Past-clause-looked : goal.returns-in-Past-clause-looked
returns-in-Past-clause-looked c =
    let same = ap (λ (s : Session). s.desktop) (c.selected-in-Past.ensures.looked.session tt) in
    rw c.in-Past.is (record {
      page = refl;
      looker = record {
        moments = refl;
        shown = refl;
        desktop = same;
        words = refl;
        moment = λ i. desktop_before (same i) c.in-Past.looking.looker.untouched;
      };
      line = refl;
      seeks = refl;
      parser = refl;
    })

pub returns-in-Past-clause-errors : goal.returns-in-Past-clause-errors
returns-in-Past-clause-errors c = rw c.in-Past.is
    (IfErr-weaker c.selected-in-Past.result _ _ (λ error why. not_found error _ why.0 why.1) c.selected-in-Past.ensures.errors)
