use Rattle.std.proofs.Common.{sym, subst, ℕ}
use Rattle.desk_core.specs.Kept.{kept_desktop}
use Rattle.desk_core.specs.Positions.{IsPosition}
use Rattle.caret_moves.proofs.StretchTold.{other_within}
use Rattle.caret_moves.proofs.selecting.anchor_by.Goals as goal

pub returns-in-Some-clause-within : goal.returns-in-Some-clause-within
returns-in-Some-clause-within c =
    subst (λ (p : ℕ). IsPosition (kept_desktop c.args.desk.now) c.args.id p) (sym c.other_end.ensures)
    (other_within (kept_desktop c.args.desk.now) c.in-Some.selection c.args.id c.args.pos c.args.stop
    c.in-Some.ensures.some c.in-Some.ensures.stands c.requires.at)
