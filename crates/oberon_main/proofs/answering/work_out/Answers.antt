use Rattle.std.proofs.Common.{refl}
use Rattle.oberon_main.specs.Answers.{answer, session_after}
use Rattle.oberon_main.proofs.Surviving.{same_withstands}
use Rattle.oberon_main.proofs.Working.{look_works_out}
use Rattle.oberon_main.proofs.answering.work_out.Goals as goal

pub returns-in-Show : goal.returns-in-Show
returns-in-Show g c = rw c.in-Show.is (look_works_out g.D.Disk _ _ (λ wrong. cc) c.show.ensures)

pub returns-in-Listing : goal.returns-in-Listing
returns-in-Listing g c = rw c.in-Listing.is (look_works_out g.D.Disk _ _ (λ wrong. cc) c.list.ensures)

pub returns-in-Display : goal.returns-in-Display
returns-in-Display g c = rw c.in-Display.is (look_works_out g.D.Disk _ _ (λ wrong. cc) c.screen.ensures)

pub returns-in-Malformed : goal.returns-in-Malformed
unfolding answer session_after
returns-in-Malformed g c = rw c.in-Malformed.is (record {
  worked_out = record {
    bytes = λ honest. c.short_line.ensures;
    session = λ honest. refl;
    usable = c.requires;
    premise = (λ honest. honest, λ honest. honest);
  };
  faults = record {
    rose = λ wrong. cc;
    calm = λ any. refl;
    errors = tt;
  };
  crash = same_withstands g.D.Disk _ _;
  spared = λ wrong. absurd (cc wrong);
  malformed = λ is. refl;
})
