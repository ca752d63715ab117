use Rattle.std.proofs.Common.{◌∙◌, refl, sym}
use Rattle.std.proofs.lemmas.Result.{IfOk-weaker}
use Rattle.past_looks.proofs.Carrying.{before_is, before_is_none}
use Rattle.past_looks.proofs.looker.Looker.moment.Goals as goal

-- ---- the mouse has done something

pub returns-in-Some-clause-copy : goal.returns-in-Some-clause-copy
returns-in-Some-clause-copy c = IfOk-weaker c.copy_of.result _ _ (λ copy same.
    same tt ∙ before_is c.args.self.now.look.shown.desktop c.args.self.now.untouched _ c.in-Some.is) c.copy_of.ensures.same

pub returns-in-Some-clause-same : goal.returns-in-Some-clause-same
returns-in-Some-clause-same c = record {
  moments = refl;
  shown = refl;
  desktop = refl;
  words = refl;
  moment = c.copy_of.ensures.desktop tt ∙ before_is c.args.self.now.look.shown.desktop c.args.self.now.untouched _ c.in-Some.is;
}

-- ---- it hasn't

pub returns-in-None-clause-copy : goal.returns-in-None-clause-copy
returns-in-None-clause-copy c = IfOk-weaker c.copy_of-in-None.result _ _ (λ copy same.
    same tt ∙ before_is_none c.args.self.now.look.shown.desktop c.args.self.now.untouched c.in-None.is)
    c.copy_of-in-None.ensures.same

pub returns-in-None-clause-same : goal.returns-in-None-clause-same
returns-in-None-clause-same c = record {
  moments = refl;
  shown = refl;
  desktop = c.copy_of-in-None.ensures.desktop tt;
  words = refl;
  moment = sym (before_is_none c.copy_of-in-None.new.store.desktop c.args.self.now.untouched c.in-None.is)
      ∙ c.copy_of-in-None.ensures.desktop tt ∙ before_is_none c.args.self.now.look.shown.desktop c.args.self.now.untouched c.in-None.is;
}
