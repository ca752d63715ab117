use Rattle.std.proofs.Common.{◌≡◌, ◌∙◌, false, refl, sym}
use Rattle.std.specs.Prelude.{is_some}
use Rattle.past_looks.proofs.Carrying.{before_none, kept_still}
use Rattle.past_looks.proofs.looker.Looker.keep.Goals as goal

pub returns-then-is_some-clause-kept : goal.returns-then-is_some-clause-kept
returns-then-is_some-clause-kept c = kept_still c.args.self.now (sym c.is_some.ensures ∙ c.if-is_some.true)

pub returns-clause-kept : goal.returns-clause-kept
returns-clause-kept c =
    let none : is_some c.args.self.now.untouched ≡ false = sym c.is_some.ensures ∙ c.if-is_some.false in
    let same = c.in_ok-copy.ensures.same tt
    ∙ sym (before_none c.args.self.now.look.shown.desktop c.args.self.now.untouched none) in record {
      alike = record { moments = refl; shown = refl; desktop = c.copy_of.ensures.desktop tt; words = refl; moment = same };
      kept = λ shown. same;
    }
